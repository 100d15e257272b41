-- Syndromes of a word, and of the word whose values are multiplied by a polynomial at their locators. Assumes nothing.
use Rattle.std.proofs.Common.{◌≡◌, ℕ, zero, suc, ◌+◌, ◌-◌, ◌<◌, ◌≤◌, Bool, true, false, cond, eqb, ◌⊎◌, List, [], ◌∷◌, ◌++◌, length, get_or, sym, refl, ap, ◌∙◌, ap₂, inl, inr, add-zero, arith, length-append}
use lib.Bits.{bit_xor, xor_zero_r}
use Rattle.std.proofs.lemmas.Bool.{cases_Bool, eqb-true, eq-eqb}
use Rattle.field.specs.Field.{Field, Laws, power, raised}
use Rattle.rs_algebra.specs.Polynomials.{Elements, zeros, product, generator, low_at, weighed}
use Rattle.field.specs.Polynomials.{value_at}
use Rattle.rs_algebra.specs.Words.{Remainder, check_of, word_of, Vanishes, weight, locator}
use Rattle.field.specs.Sums.{xor_none, xor_four}
use Rattle.field.proofs.Facts.{zero_element, times_zero, zero_times, times_left, times_right, power_swap}
use Rattle.rs_algebra.proofs.Lists.{zeros_long}
use Rattle.rs_algebra.proofs.Polynomials.{value_zeros, value_plus, value_append, value_front, product_long, value_product}
use Rattle.rs_algebra.proofs.Division.{generator_long, generator_roots, check_remains}

-- the values of a word, each times h of its locator
unfoldable pub at_locators : Field → (ℕ → ℕ) → List ℕ → List ℕ
at_locators f h [] = []
at_locators f h (c ∷ p) = f.times c (h (power f (length p))) ∷ at_locators f h p

module _ (f : Field) (laws : Laws f) where
  -- a message and its remainder have vanishing syndromes
  pub remainder_vanishes : (R : ℕ) (m check : List ℕ) → Remainder f R m check → Vanishes f R (m ++ check)
  remainder_vanishes R m check r j h =
      let x = power f j in
      let g = generator f R in
      let behind : length (zeros (length m) ++ check) ≡ length m + R
      = length-append (zeros (length m)) check ∙ ap₂ ◌+◌ (zeros_long (length m)) r.long in
      let long : length (product f r.quotient g) ≡ length (zeros (length m) ++ check)
      = omega (
        arith,
        behind,
        product_long f laws r.quotient g (omega (arith, generator_long f laws R)),
        generator_long f laws R,
        r.quotient_long,
      ) in
      let multiple : value_at f (product f r.quotient g) x ≡ 0
      = value_product f laws r.quotient g x (omega (arith, generator_long f laws R))
      ∙ ap (f.times (value_at f r.quotient x)) (generator_roots f laws R j h)
      ∙ times_zero f laws (value_at f r.quotient x) in
      let divided : value_at f (m ++ zeros R) x ≡ value_at f check x
      = ap (λ p. value_at f p x) r.divides
      ∙ value_plus f laws (product f r.quotient g) (zeros (length m) ++ check) x long
      ∙ ap₂ bit_xor multiple (value_front f laws (length m) check x) in
      let moved : f.times (value_at f m x) (raised f.times x R) ≡ value_at f check x
      = sym (
      value_append f laws m (zeros R) x
      ∙ ap₂ bit_xor (ap (λ n. f.times (value_at f m x) (raised f.times x n)) (zeros_long R)) (value_zeros f laws R x)
      ∙ xor_zero_r (f.times (value_at f m x) (raised f.times x R))
      )
      ∙ divided in
      value_append f laws m check x
      ∙ ap (λ n. bit_xor (f.times (value_at f m x) (raised f.times x n)) (value_at f check x)) r.long
      ∙ xor_none (f.times (value_at f m x) (raised f.times x R)) (value_at f check x) moved

  -- so every word of a message has
  pub word_vanishes : (R : ℕ) (m : List ℕ) → Elements f m → Vanishes f R (word_of f R m)
  word_vanishes R m e = remainder_vanishes R m (check_of f R m) (check_remains f laws R m e)

  -- weighed sums
  pub weighed_same : (l : List ℕ) (S T : ℕ → ℕ) (j : ℕ) → ((m : ℕ) → m < length l → S (j + m) ≡ T (j + m)) → weighed f l S j ≡ weighed f l T j
  unfolding weighed
  weighed_same [] S T j same = refl
  weighed_same (c ∷ l) S T j same =
      ap₂ (λ a b. bit_xor (f.times c a) b) (rw (add-zero j) at (same 0 (omega arith)))
      (weighed_same l S T (suc j) (λ m h. let e : j + suc m ≡ suc j + m = omega arith in rw e at (same (suc m) (omega arith))))

  weighed_none : (l : List ℕ) (j : ℕ) → weighed f l (λ i. 0) j ≡ 0
  unfolding weighed
  weighed_none [] j = refl
  weighed_none (c ∷ l) j = simp (times_zero f laws, weighed_none l (suc j))

  weighed-sum : (l : List ℕ) (S T : ℕ → ℕ) (j : ℕ) → weighed f l (λ i. bit_xor (S i) (T i)) j ≡ bit_xor (weighed f l S j) (weighed f l T j)
  unfolding weighed
  weighed-sum [] S T j = refl
  weighed-sum (c ∷ l) S T j =
      ap₂ bit_xor (laws.distributive c (S j) (T j)) (weighed-sum l S T (suc j))
      ∙ xor_four (f.times c (S j)) (f.times c (T j)) (weighed f l S (suc j)) (weighed f l T (suc j))

  weighed_term : (l : List ℕ) (c x j : ℕ) → weighed f l (λ i. f.times c (raised f.times x i)) j ≡ f.times (f.times c (low_at f l x)) (raised f.times x j)
  unfolding weighed low_at
  weighed_term [] c x j = simp (times_zero f laws, zero_times f laws)
  weighed_term (d ∷ l) c x j =
      ap (bit_xor (f.times d (f.times c (raised f.times x j)))) (weighed_term l c x (suc j) ∙ more)
      ∙ close d c x (low_at f l x) (raised f.times x j)
    where
      more : f.times (f.times c (low_at f l x)) (raised f.times x (suc j)) ≡ f.times (f.times c (low_at f l x)) (f.times x (raised f.times x j))
      more = unfold raised in refl

      close : (d c x v y : ℕ) → bit_xor (f.times d (f.times c y)) (f.times (f.times c v) (f.times x y)) ≡ f.times (f.times c (bit_xor d (f.times x v))) y
      close d c x v y = simp (laws.distributive, times_right f laws, laws.associative, laws.commutative, times_left f laws)

  pub at_long : (h : ℕ → ℕ) (w : List ℕ) → length (at_locators f h w) ≡ length w
  unfolding at_locators
  at_long h [] = refl
  at_long h (c ∷ p) = ap suc (at_long h p)

  pub at_elements : (h : ℕ → ℕ) (w : List ℕ) → Elements f (at_locators f h w)
  unfolding at_locators
  at_elements h [] k = zero_element f laws
  at_elements h (c ∷ p) zero = laws.times_below c (h (power f (length p)))
  at_elements h (c ∷ p) (suc k) = at_elements h p k

  pub at_reads : (h : ℕ → ℕ) (w : List ℕ) (k : ℕ) → k < length w → get_or (at_locators f h w) k 0 ≡ f.times (get_or w k 0) (h (locator f (length w) k))
  unfolding at_locators
  at_reads h [] k l = absurd (omega arith)
  at_reads h (c ∷ p) zero l =
      let e : length p ≡ suc (length p) - 1 - 0 = omega arith in
      ap (λ n. f.times c (h (power f n))) e
  at_reads h (c ∷ p) (suc k) l =
      let e : length p - 1 - k ≡ suc (length p) - 1 - suc k = omega arith in
      at_reads h p k (omega arith) ∙ ap (λ n. f.times (get_or p k 0) (h (power f n))) e

  pub at_weight : (h : ℕ → ℕ) (w : List ℕ) → weight (at_locators f h w) ≤ weight w
  unfolding at_locators weight
  at_weight h [] = omega arith
  at_weight h (c ∷ p) = go (cases_Bool (eqb c 0)) (at_weight h p)
    where
      small : (b : Bool) → cond b 0 1 ≤ 1
      small true = omega arith
      small false = omega arith

      go : (eqb c 0 ≡ true) ⊎ (eqb c 0 ≡ false) → weight (at_locators f h p) ≤ weight p
          → cond (eqb (f.times c (h (power f (length p)))) 0) 0 1 + weight (at_locators f h p) ≤ cond (eqb c 0) 0 1 + weight p
      go (inl e) rest =
          let z : f.times c (h (power f (length p))) ≡ 0
          = ap (λ x. f.times x (h (power f (length p)))) (eqb-true c 0 e) ∙ zero_times f laws (h (power f (length p))) in
          rw (eq-eqb (f.times c (h (power f (length p)))) 0 z, e) (omega arith)
      go (inr e) rest = rw e (omega (arith, small (eqb (f.times c (h (power f (length p)))) 0)))

  -- Shift: a weighed sum of syndromes is a syndrome of the word whose values are multiplied by the polynomial at their locators.
  pub shift : (l w : List ℕ) (j : ℕ) → weighed f l (λ i. value_at f w (power f i)) j ≡ value_at f (at_locators f (low_at f l) w) (power f j)
  unfolding value_at at_locators
  shift l [] j = weighed_none l j
  shift l (c ∷ p) j =
      weighed-sum l (λ i. f.times c (raised f.times (power f i) (length p))) (λ i. value_at f p (power f i)) j
      ∙ ap₂ bit_xor head (shift l p j)
    where
      head : weighed f l (λ i. f.times c (raised f.times (power f i) (length p))) j
          ≡ f.times (f.times c (low_at f l (power f (length p)))) (raised f.times (power f j) (length (at_locators f (low_at f l) p)))
      head =
          weighed_same l (λ i. f.times c (raised f.times (power f i) (length p))) (λ i. f.times c (raised f.times (power f (length p)) i)) j
          (λ m h. ap (f.times c) (power_swap f laws (j + m) (length p)))
          ∙ weighed_term l c (power f (length p)) j
          ∙ ap (f.times (f.times c (low_at f l (power f (length p)))))
          (power_swap f laws (length p) j ∙ ap (raised f.times (power f j)) (sym (at_long (low_at f l) p)))
