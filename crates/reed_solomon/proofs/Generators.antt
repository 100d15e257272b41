-- The product by D + a in place. Assumes nothing.
use Rattle.std.proofs.Common.{◌≡◌, ℕ, suc, ◌+◌, ◌-◌, ◌<◌, ◌≤◌, List, [], ◌∷◌, ◌++◌, length, take, sym, ap, ◌∙◌, ap₂, arith}
use lib.Bits.{bit_xor, xor_comm, xor_zero_r}
use Rattle.std.proofs.lemmas.List.{length-append, take_at}
use Rattle.field.specs.Field.{Field, Laws, power}
use Rattle.field.proofs.Facts.{times_zero, times_one}
use Rattle.rs_algebra.specs.Polynomials.{Elements, zeros, plus, scaled, product, generator}
use Rattle.rs_algebra.proofs.Lists.{zeros_long, plus_padded, plus-zeros}
use Rattle.rs_algebra.proofs.Division.{generator_long, generator_elements}
use Rattle.rs_algebra.proofs.Polynomials.{product_long}
use Rattle.reed_solomon.proofs.Carries.{carried, carried-zeros}

-- a coefficient of the product, from the polynomial's own and the one before it
abbrev pub down : (f : Field) (a here before : ℕ) → ℕ
down f a here before = bit_xor here (f.times a before)

module _ (f : Field) (laws : Laws f) where
  -- with room for one more coefficient it is the product by D + a
  carried-product : (a b : ℕ) (p : List ℕ) (n : ℕ) → Elements f p
      → carried (down f a) b (p ++ zeros (suc n)) ≡ plus (f.times a b ∷ []) (product f p (1 ∷ a ∷ [])) ++ zeros n
  unfolding carried product scaled plus
  carried-product a b [] n e =
      ap₂ {C = List ℕ} (λ x y. x ∷ y) (sym (xor_zero_r (f.times a b))) (carried-zeros (down f a) (times_zero f laws a) n)
  carried-product a b (c ∷ p) n e =
      let long : length (product f p (1 ∷ a ∷ [])) + 1 ≡ length p + 2 = product_long f laws p (1 ∷ a ∷ []) (omega arith) in
      ap₂ {C = List ℕ} (λ x y. x ∷ y)
      (xor_comm c (f.times a b) ∙ ap (bit_xor (f.times a b)) (sym (xor_zero_r (f.times c 1) ∙ times_one f laws c (e 0))))
      (carried-product a c p n (λ k. e (suc k))
      ∙ ap (λ q. q ++ zeros n) (ap (λ x. plus (x ∷ []) (product f p (1 ∷ a ∷ []))) (laws.commutative a c)
      ∙ sym (plus_padded (f.times c a ∷ []) (product f p (1 ∷ a ∷ [])) (length p) (omega arith))))

  pub carried_root : (a : ℕ) (p : List ℕ) (n : ℕ) → Elements f p → carried (down f a) 0 (p ++ zeros (n + 1)) ≡ product f p (1 ∷ a ∷ []) ++ zeros n
  carried_root a p n e =
      let one : n + 1 ≡ suc n = omega arith in
      let long : length (product f p (1 ∷ a ∷ [])) + 1 ≡ length p + 2 = product_long f laws p (1 ∷ a ∷ []) (omega arith) in
      ap (λ k. carried (down f a) 0 (p ++ zeros k)) one
      ∙ carried-product a 0 p n e
      ∙ ap (λ q. q ++ zeros n) (ap (λ x. plus (x ∷ []) (product f p (1 ∷ a ∷ []))) (times_zero f laws a)
      ∙ plus-zeros (product f p (1 ∷ a ∷ [])) 1 (omega arith))

  -- the generator's next root, in a list of n numbers
  pub next_root : (n i : ℕ) (held after : List ℕ) → i < n → held ≡ generator f i ++ zeros (n - i)
      → ((p : List ℕ) (r : ℕ) → Elements f p → held ≡ p ++ zeros (r + 1) → after ≡ product f p (1 ∷ power f i ∷ []) ++ zeros r)
      → after ≡ generator f (i + 1) ++ zeros (n - (i + 1))
  unfolding generator
  next_root n i held after h is makes =
      let room : n - i ≡ n - (i + 1) + 1 = omega arith in
      let one : suc i ≡ i + 1 = omega arith in
      makes (generator f i) (n - (i + 1)) (generator_elements f laws i) (is ∙ ap (λ k. generator f i ++ zeros k) room)
      ∙ ap (λ k. generator f k ++ zeros (n - (i + 1))) one

  -- a list of n + 1 numbers that holds the generator of i roots
  pub room_for : (n i : ℕ) → i ≤ n → length (generator f i ++ zeros (n - i)) ≡ n + 1
  room_for n i h =
      omega (arith, length-append (generator f i) (zeros (n - i)), generator_long f laws i, zeros_long (n - i))

  pub generator-front : (n i : ℕ) (held : List ℕ) → held ≡ generator f i ++ zeros (n - i) → take (i + 1) held ≡ generator f i
  generator-front n i held is = ap (take (i + 1)) is ∙ take_at (generator f i) (zeros (n - i)) (i + 1) (generator_long f laws i)
