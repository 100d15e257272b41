-- The generator polynomial, and long division by it. Assumes nothing.
use Rattle.std.proofs.Common.{◌≡◌, ℕ, zero, suc, ◌+◌, ◌-◌, ◌<◌, ◌≤◌, ◌⊎◌, List, [], ◌∷◌, ◌++◌, length, get_or, drop, sym, refl, ap, ◌∙◌, ap₂, inl, inr, arith, length-append}
use lib.Bits.{bit_xor, xor_zero_r}
use Rattle.std.proofs.lemmas.Bool.{cases_lt}
use Rattle.field.specs.Field.{Field, Laws, power, raised}
use Rattle.rs_algebra.specs.Polynomials.{Elements, zeros, plus, scaled, product, generator}
use Rattle.field.specs.Polynomials.{value_at}
use Rattle.rs_algebra.specs.Words.{Remainder, remainder, check_of}
use Rattle.field.specs.Sums.{xor_none}
use Rattle.field.proofs.Facts.{zero_element, one_element, times_zero, zero_times, times_one, raised_below, raised_one, power_below}
use Rattle.rs_algebra.proofs.Lists.{zeros_long, plus_long, plus_assoc, plus_again, plus-zeros, plus_padded, scaled_long, plus_elements, zeros_elements, scaled_elements, append_elements, drop_elements}
use Rattle.rs_algebra.proofs.Polynomials.{product_long, product_elements, value_product}

module _ (f : Field) (laws : Laws f) where
  -- the generator: R + 1 coefficients, the first of them 1
  pub generator_long : (R : ℕ) → length (generator f R) ≡ R + 1
  unfolding generator
  generator_long zero = refl
  generator_long (suc i) =
      omega (arith, generator_long i, product_long f laws (generator f i) (1 ∷ power f i ∷ []) (omega arith))

  first_of_product : (p : List ℕ) (q : List ℕ) → 0 < length p → 0 < length q → get_or (product f p q) 0 0 ≡ f.times (get_or p 0 0) (get_or q 0 0)
  unfolding product plus scaled
  first_of_product [] q h k = absurd (omega arith)
  first_of_product (c ∷ p) [] h k = absurd (omega arith)
  first_of_product (c ∷ p) (d ∷ q) h k = xor_zero_r (f.times c d)

  pub generator-first : (R : ℕ) → get_or (generator f R) 0 0 ≡ 1
  unfolding generator
  generator-first zero = refl
  generator-first (suc i) =
      first_of_product (generator f i) (1 ∷ power f i ∷ []) (omega (arith, generator_long i)) (omega arith)
      ∙ ap (λ x. f.times x 1) (generator-first i)
      ∙ laws.neutral 1 (one_element f laws)

  pub generator_elements : (R : ℕ) → Elements f (generator f R)
  unfolding generator
  generator_elements zero zero = one_element f laws
  generator_elements zero (suc k) = zero_element f laws
  generator_elements (suc i) k = product_elements f laws (generator f i) (1 ∷ power f i ∷ []) k

  -- D + a at a
  pub root_value : (a x : ℕ) → a < f.size → x < f.size → value_at f (1 ∷ a ∷ []) x ≡ bit_xor x a
  unfolding value_at
  root_value a x h k =
      ap₂ bit_xor (laws.neutral (raised f.times x 1) (raised_below f laws x 1) ∙ raised_one f laws x k) (xor_zero_r (f.times a (raised f.times x 0)) ∙ last)
    where
      last : f.times a (raised f.times x 0) ≡ a
      last = unfold raised in times_one f laws a h

  pub generator_roots : (R i : ℕ) → i < R → value_at f (generator f R) (power f i) ≡ 0
  unfolding generator
  generator_roots zero i h = absurd (omega arith)
  generator_roots (suc R) i h =
      value_product f laws (generator f R) (1 ∷ power f R ∷ []) (power f i) (omega arith) ∙ go (λ l. generator_roots R i l) (cases_lt i R)
    where
      go : (i < R → value_at f (generator f R) (power f i) ≡ 0) → (i < R) ⊎ (R ≤ i)
          → f.times (value_at f (generator f R) (power f i)) (value_at f (1 ∷ power f R ∷ []) (power f i)) ≡ 0
      go before (inl l) =
          ap (λ x. f.times x (value_at f (1 ∷ power f R ∷ []) (power f i))) (before l) ∙ zero_times f laws (value_at f (1 ∷ power f R ∷ []) (power f i))
      go before (inr l) =
          let e : i ≡ R = omega arith in
          ap (f.times (value_at f (generator f R) (power f i)))
          (root_value (power f R) (power f i) (power_below f laws R) (power_below f laws i) ∙ xor_none (power f i) (power f R) (ap (power f) e))
          ∙ times_zero f laws (value_at f (generator f R) (power f i))

  -- the generator is 1 and then R coefficients
  abbrev lower : ℕ → List ℕ
  lower R = drop 1 (generator f R)

  split : (g : List ℕ) → 0 < length g → get_or g 0 0 ≡ 1 → g ≡ 1 ∷ drop 1 g
  split [] h e = absurd (omega arith)
  split (c ∷ g) h e = ap (λ x. x ∷ g) e

  pub generator_split : (R : ℕ) → generator f R ≡ 1 ∷ lower R
  generator_split R = split (generator f R) (omega (arith, generator_long R)) (generator-first R)

  pub lower_long : (R : ℕ) → length (lower R) ≡ R
  lower_long R = omega (arith, generator_long R, ap length (generator_split R))

  pub lower_elements : (R : ℕ) → Elements f (lower R)
  lower_elements R = drop_elements f laws 1 (generator f R) (generator_elements R)

  -- one step of a division
  abbrev step : List ℕ → ℕ → List ℕ → List ℕ
  step g c p = plus (scaled f c (drop 1 g)) p

  step_long : (g : List ℕ) (c : ℕ) (p : List ℕ) → length (drop 1 g) ≤ length p → length (step g c p) ≡ length p
  step_long g c p h = plus_long (scaled f c (drop 1 g)) p (omega (arith, scaled_long f c (drop 1 g)))

  pub remainder_long : (g : List ℕ) (k R : ℕ) (p : List ℕ) → length (drop 1 g) ≡ R → length p ≡ k + R → length (remainder f g k p) ≡ R
  unfolding remainder
  remainder_long g zero R p h e = omega arith
  remainder_long g (suc k) R [] h e = absurd (omega arith)
  remainder_long g (suc k) R (c ∷ p) h e = remainder_long g k R (step g c p) h (omega (arith, step_long g c p (omega arith)))

  pub remainder_elements : (g : List ℕ) (k : ℕ) (p : List ℕ) → Elements f p → Elements f (remainder f g k p)
  unfolding remainder
  remainder_elements g zero p e j = e j
  remainder_elements g (suc k) [] e j = e j
  remainder_elements g (suc k) (c ∷ p) e j =
      remainder_elements g k (step g c p)
      (plus_elements f laws (scaled f c (drop 1 g)) p (scaled_elements f laws c (drop 1 g)) (λ i. e (suc i))) j

  -- the coefficients taken off are the quotient
  quotient : List ℕ → ℕ → List ℕ → List ℕ
  quotient g zero p = []
  quotient g (suc k) [] = []
  quotient g (suc k) (c ∷ p) = c ∷ quotient g k (step g c p)

  quotient_long : (g : List ℕ) (k R : ℕ) (p : List ℕ) → length (drop 1 g) ≡ R → length p ≡ k + R → length (quotient g k p) ≡ k
  unfolding quotient
  quotient_long g zero R p h e = refl
  quotient_long g (suc k) R [] h e = absurd (omega arith)
  quotient_long g (suc k) R (c ∷ p) h e = ap suc (quotient_long g k R (step g c p) h (omega (arith, step_long g c p (omega arith))))

  scaled_once : (c : ℕ) (p : List ℕ) → Elements f p → scaled f (f.times c 1) p ≡ scaled f c p
  unfolding scaled
  scaled_once c [] e = refl
  scaled_once c (d ∷ p) e =
      ap₂ {C = List ℕ} (λ x y. x ∷ y) (laws.associative c 1 d ∙ ap (f.times c) (laws.neutral d (e 0))) (scaled_once c p (λ k. e (suc k)))

  -- a product by c ∷ q undoes one step of the division
  module _ (t : List ℕ) where
    abbrev g : List ℕ
    g = 1 ∷ t

    shape : (c : ℕ) (q r : List ℕ) → length r ≡ length t
        → plus (product f (c ∷ q) g) (zeros (suc (length q)) ++ r)
        ≡ f.times c 1 ∷ plus (scaled f c t) (plus (product f q g) (zeros (length q) ++ r))
    unfolding product plus scaled
    shape c q r h =
        let long : length (product f q g) ≡ length q + length t = omega (arith, product_long f laws q g (omega arith)) in
        let pad : plus (scaled f c t ++ zeros (length q)) (product f q g) ≡ plus (scaled f c t) (product f q g)
        = plus_padded (scaled f c t) (product f q g) (length q) (omega (arith, scaled_long f c t)) in
        ap₂ {C = List ℕ} (λ x y. x ∷ y) (xor_zero_r (bit_xor (f.times c 1) 0) ∙ xor_zero_r (f.times c 1))
        (ap (λ y. plus y (zeros (length q) ++ r)) pad ∙ plus_assoc (scaled f c t) (product f q g) (zeros (length q) ++ r))

    divided : (k : ℕ) (p : List ℕ) → Elements f p → length p ≡ k + length t
        → p ≡ plus (product f (quotient g k p) g) (zeros k ++ remainder f g k p)
    unfolding quotient remainder
    divided zero p e h = unfold product in sym (plus-zeros p (suc (length t) - 1) (omega arith))
    divided (suc k) [] e h = absurd (omega arith)
    divided (suc k) (c ∷ p) e h =
        let s = plus (scaled f c t) p in
        let sl : length s ≡ length p = step_long g c p (omega arith) in
        let el : Elements f s = plus_elements f laws (scaled f c t) p (scaled_elements f laws c t) (λ i. e (suc i)) in
        let q = quotient g k s in
        let r = remainder f g k s in
        let rl : length r ≡ length t = remainder_long g k (length t) s refl (omega arith) in
        let ql : length q ≡ k = quotient_long g k (length t) s refl (omega arith) in
        let ih : s ≡ plus (product f q g) (zeros k ++ r) = divided k s el (omega arith) in
        let sh = shape c q r rl in
        ap₂ {C = List ℕ} (λ x y. x ∷ y) (sym (times_one f laws c (e 0)))
        (sym (plus_again (scaled f c t) p (omega (arith, scaled_long f c t))) ∙ ap (plus (scaled f c t)) ih)
        ∙ sym (rw ql at sh)

    -- so the division gives back what is left of a multiple of g
    undivided : (q r : List ℕ) → Elements f t → length r ≡ length t
        → remainder f g (length q) (plus (product f q g) (zeros (length q) ++ r)) ≡ r
    unfolding remainder
    undivided [] r e h = unfold product in plus-zeros r (suc (length t) - 1) (omega arith)
    undivided (c ∷ q) r e h =
        let x = plus (product f q g) (zeros (length q) ++ r) in
        let long : length x ≡ length q + length t = whole q r h in
        ap (remainder f g (suc (length q))) (shape c q r h)
        ∙ ap (λ y. remainder f g (length q) (plus y (plus (scaled f c t) x))) (scaled_once c t e)
        ∙ ap (remainder f g (length q)) (plus_again (scaled f c t) x (omega (arith, scaled_long f c t)))
        ∙ undivided q r e h
      where
        whole : (q r : List ℕ) → length r ≡ length t → length (plus (product f q g) (zeros (length q) ++ r)) ≡ length q + length t
        whole q r h =
            let a : length (zeros (length q) ++ r) ≡ length q + length r
            = length-append (zeros (length q)) r ∙ ap (λ n. n + length r) (zeros_long (length q)) in
            omega (
              arith,
              plus_long (product f q g) (zeros (length q) ++ r) (omega (arith, product_long f laws q g (omega arith))),
            )

  -- The check octets of a message are the remainder, and the only one.
  pub check_long : (R : ℕ) (m : List ℕ) → length (check_of f R m) ≡ R
  unfolding check_of
  check_long R m =
      remainder_long (generator f R) (length m) R (m ++ zeros R) (lower_long R) (length-append m (zeros R) ∙ ap (λ n. length m + n) (zeros_long R))

  pub check_elements : (R : ℕ) (m : List ℕ) → Elements f m → Elements f (check_of f R m)
  unfolding check_of
  check_elements R m e =
      remainder_elements (generator f R) (length m) (m ++ zeros R) (append_elements f laws m (zeros R) e (zeros_elements f laws R))

  pub check_remains : (R : ℕ) (m : List ℕ) → Elements f m → Remainder f R m (check_of f R m)
  check_remains R m e = record {
    long = check_long R m;
    elements = check_elements R m e;
    quotient = quotient (generator f R) (length m) (m ++ zeros R);
    quotient_long = quotient_long (generator f R) (length m) R (m ++ zeros R) (lower_long R) whole;
    divides = unfold check_of in rw (generator_split R) (divided (lower R) (length m) (m ++ zeros R) (append_elements f laws m (zeros R) e (zeros_elements f laws R)) (omega (arith, whole, lower_long R)));
  }
    where
      whole : length (m ++ zeros R) ≡ length m + R
      whole = length-append m (zeros R) ∙ ap (λ n. length m + n) (zeros_long R)

  pub check_only : (R : ℕ) (m check : List ℕ) → Remainder f R m check → check ≡ check_of f R m
  unfolding check_of
  check_only R m check r =
      let back = undivided (lower R) r.quotient check (lower_elements R) (r.long ∙ sym (lower_long R)) in
      let at_g = rw (← generator_split R) at back in
      let at-m = rw r.quotient_long at at_g in
      sym at-m ∙ ap (remainder f (generator f R) (length m)) (sym r.divides)
