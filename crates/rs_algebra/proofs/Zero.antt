-- A word with few places that are not 0 and as many vanishing syndromes is nothing but zeros. Assumes nothing.
use Rattle.std.proofs.Common.{◌≡◌, ℕ, zero, suc, ◌-◌, ◌<◌, ◌≤◌, true, false, eqb, ◌⊎◌, List, [], ◌∷◌, length, get_or, sym, refl, ap, ◌∙◌, inl, inr, arith}
use lib.Bits.{bit_xor}
use Rattle.std.proofs.lemmas.Bool.{cases_Bool, cases_lt, eqb-true}
use Rattle.field.specs.Field.{Field, Laws, power, raised}
use Rattle.rs_algebra.specs.Polynomials.{Elements, low_at, weighed}
use Rattle.field.specs.Polynomials.{value_at}
use Rattle.rs_algebra.specs.Words.{Vanishes, weight, locator}
use Rattle.field.specs.Sums.{xor_same, xor_none}
use Rattle.field.proofs.Facts.{times_zero, zero_times, times_one, cancels, raised_below, raised_some, power_below, power_some}
use Rattle.rs_algebra.proofs.Lists.{all_zeros}
use Rattle.rs_algebra.proofs.Polynomials.{value_zeros}
use Rattle.rs_algebra.proofs.Syndromes.{at_locators, at_long, at_elements, at_weight, shift}

module _ (f : Field) (laws : Laws f) where
  -- locators of a word differ
  pub locators_differ : (N i k : ℕ) → N < f.size → i < N → k < N → locator f N i ≡ locator f N k → i ≡ k
  locators_differ N i k h a b e =
      omega (arith, laws.powers_differ (N - 1 - i) (N - 1 - k) (omega arith) (omega arith) e)

  -- the polynomial x + a
  root : ℕ → List ℕ
  root a = a ∷ 1 ∷ []

  root_at : (a x : ℕ) → x < f.size → low_at f (root a) x ≡ bit_xor a x
  unfolding root low_at
  root_at a x h = ap (bit_xor a) (ap (λ y. f.times x (bit_xor 1 y)) (times_zero f laws x) ∙ times_one f laws x h)

  root_weighs : (a : ℕ) (S : ℕ → ℕ) (j : ℕ) → S j ≡ 0 → S (suc j) ≡ 0 → weighed f (root a) S j ≡ 0
  unfolding root weighed
  root_weighs a S j e h = simp (e, h, times_zero f laws)

  -- what stands behind the first place vanishes if it does when multiplied by x + a, a the first place's locator
  rest_none : (p : List ℕ) (n : ℕ) → length p ≤ n → n < f.size - 1 → Elements f p
      → ((k : ℕ) → get_or (at_locators f (low_at f (root (power f n))) p) k 0 ≡ 0) → (k : ℕ) → get_or p k 0 ≡ 0
  unfolding at_locators
  rest_none [] n h l e none k = refl
  rest_none (c ∷ p) n h l e none zero =
      let x = power f (length p) in
      let at : low_at f (root (power f n)) x ≡ bit_xor (power f n) x = root_at (power f n) x (power_below f laws (length p)) in
      go (cases_lt 0 (bit_xor (power f n) x)) (ap (f.times c) (sym at) ∙ none 0)
    where
      go : (0 < bit_xor (power f n) (power f (length p))) ⊎ (bit_xor (power f n) (power f (length p)) ≤ 0)
          → f.times c (bit_xor (power f n) (power f (length p))) ≡ 0 → c ≡ 0
      go (inl some) z =
          cancels f laws (bit_xor (power f n) (power f (length p))) c some
          (laws.sum_below (power f n) (power f (length p)) (power_below f laws n) (power_below f laws (length p))) (e 0)
          (laws.commutative (bit_xor (power f n) (power f (length p))) c ∙ z)
      go (inr same) z =
          absurd (omega (
            arith,
            laws.powers_differ n (length p) l (omega arith) (xor_same (power f n) (power f (length p)) (omega arith)),
          ))
  rest_none (c ∷ p) n h l e none (suc k) = rest_none p n (omega arith) l (λ i. e (suc i)) (λ i. none (suc i)) k

  zero_of : (n r : ℕ) (w : List ℕ) → length w ≡ n → n < f.size → Elements f w → weight w ≤ r → Vanishes f r w → (k : ℕ) → get_or w k 0 ≡ 0
  unfolding weight value_at at_locators
  zero_of zero r [] long h e few van k = refl
  zero_of zero r (c ∷ p) long h e few van k = absurd (omega arith)
  zero_of (suc n) r [] long h e few van k = absurd (omega arith)
  zero_of (suc n) r (c ∷ p) long h e few van k =
      go r few van (cases_Bool (eqb c 0))
      (λ q a b. zero_of n q p (omega arith) (omega arith) (λ i. e (suc i)) a b)
      (λ q a b. zero_of n q (moved p) (at_long f laws (low_at f (root (power f n))) p ∙ ln) (omega arith) (at_elements f laws (low_at f (root (power f n))) p) a b)
      k
    where
      moved : List ℕ → List ℕ
      moved q = at_locators f (low_at f (root (power f n))) q

      ln : length p ≡ n
      ln = omega arith

      value : (x : ℕ) → f.times c (raised f.times x (length p)) ≡ 0 → value_at f (c ∷ p) x ≡ value_at f p x
      value x z = ap (λ y. bit_xor y (value_at f p x)) z

      -- the head's value becomes 0
      moved_value : (j : ℕ) → value_at f (moved (c ∷ p)) (power f j) ≡ value_at f (moved p) (power f j)
      moved_value j =
          let l = low_at f (root (power f n)) in
          let z : l (power f (length p)) ≡ 0
          = root_at (power f n) (power f (length p)) (power_below f laws (length p)) ∙ xor_none (power f n) (power f (length p)) (ap (power f) (sym ln)) in
          ap (λ y. bit_xor (f.times y (raised f.times (power f j) (length (moved p)))) (value_at f (moved p) (power f j)))
          (ap (f.times c) z ∙ times_zero f laws c)
          ∙ ap (λ y. bit_xor y (value_at f (moved p) (power f j))) (zero_times f laws (raised f.times (power f j) (length (moved p))))

      -- all that stands behind is 0, and so is the first
      first : (k : ℕ) → value_at f (c ∷ p) (power f 0) ≡ 0 → ((i : ℕ) → get_or p i 0 ≡ 0) → get_or (c ∷ p) k 0 ≡ 0
      first zero z none =
          let y = raised f.times (power f 0) (length p) in
          let rest : value_at f p (power f 0) ≡ 0
          = ap (λ q. value_at f q (power f 0)) (all_zeros p (λ i l. none i)) ∙ value_zeros f laws (length p) (power f 0) in
          cancels f laws y c (raised_some f laws (power f 0) (length p) (power_some f laws 0) (power_below f laws 0)) (raised_below f laws (power f 0) (length p)) (e 0)
          (laws.commutative y c ∙ xor_same (f.times c y) (value_at f p (power f 0)) z ∙ rest)
      first (suc k) z none = none k

      go : (r : ℕ) → weight (c ∷ p) ≤ r → Vanishes f r (c ∷ p) → (eqb c 0 ≡ true) ⊎ (eqb c 0 ≡ false)
          → ((q : ℕ) → weight p ≤ q → Vanishes f q p → (i : ℕ) → get_or p i 0 ≡ 0)
          → ((q : ℕ) → weight (moved p) ≤ q → Vanishes f q (moved p) → (i : ℕ) → get_or (moved p) i 0 ≡ 0)
          → (k : ℕ) → get_or (c ∷ p) k 0 ≡ 0
      go r few van (inl none) plain by_root zero = eqb-true c 0 none
      go r few van (inl none) plain by_root (suc k) =
          plain r (omega arith) (λ j l. sym (value (power f j) (ap (λ y. f.times y (raised f.times (power f j) (length p))) (eqb-true c 0 none) ∙ zero_times f laws (raised f.times (power f j) (length p)))) ∙ van j l) k
      go zero few van (inr some) plain by_root k = absurd (omega (arith, rw some at few))
      go (suc r) few van (inr some) plain by_root k =
          let less : weight p ≤ r = omega (arith, rw some at few) in
          let gone : (i : ℕ) → get_or (moved p) i 0 ≡ 0
          = by_root r (omega (arith, at_weight f laws (low_at f (root (power f n))) p))
          (λ j l. sym (moved_value j) ∙ sym (shift f laws (root (power f n)) (c ∷ p) j) ∙ root_weighs (power f n) (λ i. value_at f (c ∷ p) (power f i)) j (van j (omega arith)) (van (suc j) (omega arith))) in
          first k (van 0 (omega arith)) (rest_none p n (omega arith) (omega arith) (λ i. e (suc i)) gone)

  -- Zero: a word of fewer octets than the field has elements, of which at most r are not 0, and whose first r syndromes vanish
  pub zero_word : (r : ℕ) (w : List ℕ) → length w < f.size → Elements f w → weight w ≤ r → Vanishes f r w → (k : ℕ) → get_or w k 0 ≡ 0
  zero_word r w h e few van k = zero_of (length w) r w refl h e few van k
