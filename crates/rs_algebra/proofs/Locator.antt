-- A polynomial that the equations of the syndromes kill vanishes at each error. Assumes nothing.
use Rattle.std.proofs.Common.{◌≡◌, ℕ, ◌+◌, ◌<◌, ◌≤◌, List, length, get_or, sym, ◌∙◌, arith}
use Rattle.field.specs.Field.{Field, Laws, power}
use Rattle.rs_algebra.specs.Polynomials.{Elements, low_at, weighed}
use Rattle.field.specs.Polynomials.{value_at}
use Rattle.rs_algebra.specs.Words.{Vanishes, weight, locator}
use Rattle.field.proofs.Facts.{cancels}
use Rattle.rs_algebra.proofs.LowFirst.{low_below}
use Rattle.rs_algebra.proofs.Syndromes.{at_locators, at_long, at_elements, at_reads, at_weight, shift, weighed_same}
use Rattle.rs_algebra.proofs.Zero.{zero_word}

module _ (f : Field) (laws : Laws f) where
  -- err has at most t places, S its first r syndromes, and l has at most r - t + 1 coefficients
  pub locates : (t r : ℕ) (err l : List ℕ) (S : ℕ → ℕ) → length err < f.size → Elements f err → Elements f l
      → weight err ≤ t → t + length l ≤ r + 1
      → ((j : ℕ) → j < r → S j ≡ value_at f err (power f j))
      → ((j : ℕ) → j < t → weighed f l S j ≡ 0)
      → (k : ℕ) → k < length err → 0 < get_or err k 0 → low_at f l (locator f (length err) k) ≡ 0
  locates t r err l S fits e el few room agree killed k h some =
      let v = at_locators f (low_at f l) err in
      let vanishes : Vanishes f t v
      = λ j lt. sym (shift f laws l err j) ∙ sym (weighed_same f laws l S (λ i. value_at f err (power f i)) j (λ m lm. agree (j + m) (omega arith))) ∙ killed j lt in
      let none : get_or v k 0 ≡ 0
      = zero_word f laws t v (omega (arith, at_long f laws (low_at f l) err)) (at_elements f laws (low_at f l) err) (omega (arith, at_weight f laws (low_at f l) err)) vanishes k in
      cancels f laws (get_or err k 0) (low_at f l (locator f (length err) k)) some (e k) (low_below f laws l (locator f (length err) k) el)
      (sym (at_reads f laws (low_at f l) err k h) ∙ none)
