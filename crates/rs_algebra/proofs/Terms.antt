-- Terms: values at places. A word's syndromes as terms, and terms that vanish. Assumes nothing.
use Rattle.std.proofs.Common.{◌≡◌, ℕ, suc, ◌+◌, ◌-◌, ◌<◌, ◌≤◌, eqb, ◌⊎◌, List, [], ◌∷◌, length, get_or, sym, refl, ap, ◌∙◌, ap₂, inl, inr, arith}
use lib.Bits.{bit_xor}
use Rattle.std.specs.List.{range_with_len}
use Rattle.std.proofs.lemmas.Bool.{cases_lt, eq-eqb}
use Rattle.field.specs.Field.{Field, Laws, power, raised}
use Rattle.rs_algebra.specs.Polynomials.{Elements, zeros, plus, low_at}
use Rattle.field.specs.Polynomials.{value_at}
use Rattle.rs_algebra.specs.Words.{Vanishes, Places, mend, terms_at, locator}
use Rattle.field.specs.Sums.{xor_four}
use Rattle.field.proofs.Facts.{times_right, power_below, power_swap}
use Rattle.rs_algebra.proofs.Lists.{zeros_long, zeros_read, zeros_elements}
use Rattle.rs_algebra.proofs.Zero.{zero_word, locators_differ}
use Rattle.rs_algebra.proofs.Mending.{mend_long, mend_at, mend_elements, error_weight, error_value, weight_most}
use Rattle.rs_algebra.proofs.Roots.{how_many_all, roots_few}

module _ (f : Field) (laws : Laws f) where
  -- the syndromes of a word are those of its octets as terms
  value_from : (a j : ℕ) (p : List ℕ) → value_at f p (power f j) ≡ terms_at f (a + length p) (range_with_len a (length p)) p j
  unfolding value_at terms_at
  value_from a j [] = refl
  value_from a j (c ∷ p) =
      let up : a + 1 + length p ≡ a + suc (length p) = omega arith in
      let at : length p ≡ a + suc (length p) - 1 - a = omega arith in
      ap₂ bit_xor (ap (f.times c) (power_swap f laws j (length p) ∙ ap (λ n. raised f.times (power f n) j) at))
      (value_from (a + 1) j p ∙ ap (λ n. terms_at f n (range_with_len (a + 1) (length p)) p j) up)

  pub value_terms : (w : List ℕ) (j : ℕ) → value_at f w (power f j) ≡ terms_at f (length w) (range_with_len 0 (length w)) w j
  value_terms w j =
      let e : 0 + length w ≡ length w = omega arith in
      value_from 0 j w ∙ ap (λ n. terms_at f n (range_with_len 0 (length w)) w j) e

  -- terms add up where their values do
  pub terms_plus : (N : ℕ) (ws a b : List ℕ) (j : ℕ) → length a ≡ length ws → length b ≡ length ws
      → terms_at f N ws (plus a b) j ≡ bit_xor (terms_at f N ws a j) (terms_at f N ws b j)
  unfolding terms_at plus
  terms_plus N [] a b j la lb = refl
  terms_plus N (w ∷ ws) [] b j la lb = absurd (omega arith)
  terms_plus N (w ∷ ws) (x ∷ a) [] j la lb = absurd (omega arith)
  terms_plus N (w ∷ ws) (x ∷ a) (y ∷ b) j la lb =
      ap₂ bit_xor (times_right f laws x y (raised f.times (locator f N w) j)) (terms_plus N ws a b j (omega arith) (omega arith))
      ∙ xor_four (f.times x (raised f.times (locator f N w) j)) (f.times y (raised f.times (locator f N w) j)) (terms_at f N ws a j) (terms_at f N ws b j)

  -- Zero for terms: r terms at different places, of which the first r syndromes vanish, have no value but 0
  pub zero_terms : (N : ℕ) (ws vs : List ℕ) → N < f.size → Places N ws → length ws ≡ length vs → Elements f vs
      → ((j : ℕ) → j < length ws → terms_at f N ws vs j ≡ 0) → (i : ℕ) → i < length ws → get_or vs i 0 ≡ 0
  zero_terms N ws vs fits places alike e van i h =
      let inside : Places (length (zeros N)) ws = rw (zeros_long N) places in
      let long : length (mend (zeros N) ws vs) ≡ N = mend_long (zeros N) ws vs ∙ zeros_long N in
      let vanishes : Vanishes f (length ws) (mend (zeros N) ws vs) = λ j l. error_value f laws N ws vs j places.inside ∙ van j l in
      let none : get_or (mend (zeros N) ws vs) (get_or ws i 0) 0 ≡ 0
      = zero_word f laws (length ws) (mend (zeros N) ws vs) (omega arith) (mend_elements f laws (zeros N) ws vs (zeros_elements f laws N) e)
      (omega (arith, error_weight N ws vs places alike, weight_most vs)) vanishes (get_or ws i 0) in
      sym (mend_at (zeros N) ws vs i inside alike h ∙ ap (λ a. bit_xor a (get_or vs i 0)) (zeros_read N (get_or ws i 0))) ∙ none

  -- a polynomial that is not 0 and vanishes at all places of a list has more coefficients than the list has places
  pub places_few : (N : ℕ) (ws l : List ℕ) (i : ℕ) → N < f.size → Places N ws → Elements f l → 0 < get_or l i 0
      → ((n : ℕ) → n < length ws → low_at f l (locator f N (get_or ws n 0)) ≡ 0) → length ws < length l
  places_few N ws l i fits places e some roots =
      let few = roots_few f laws X (length ws) l i e some (λ k h. power_below f laws (N - 1 - get_or ws k 0)) apart in
      omega (arith, few, how_many_all (λ k. eqb (low_at f l (X k)) 0) (length ws) (λ k h. eq-eqb (low_at f l (X k)) 0 (roots k h)))
    where
      X : ℕ → ℕ
      X n = locator f N (get_or ws n 0)

      apart : (a b : ℕ) → a < length ws → b < length ws → X a ≡ X b → a ≡ b
      apart a b ha hb same = go (cases_lt a b) (cases_lt b a) (locators_differ f laws N (get_or ws a 0) (get_or ws b 0) fits (places.inside a ha) (places.inside b hb) same)
        where
          go : (a < b) ⊎ (b ≤ a) → (b < a) ⊎ (a ≤ b) → get_or ws a 0 ≡ get_or ws b 0 → a ≡ b
          go (inl less) other e = absurd (places.once a b less hb e)
          go (inr h) (inl less) e = absurd (places.once b a less ha (sym e))
          go (inr h) (inr k) e = omega arith
