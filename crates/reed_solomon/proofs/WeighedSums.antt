-- A weighed sum as a fold over pairs, and equations as lists that begin at their number. Assumes nothing.
use Rattle.std.proofs.Common.{◌≡◌, ℕ, suc, ◌+◌, ◌-◌, List, [], ◌∷◌, length, get_or, take, drop, sym, refl, ap, ◌∙◌, ap₂, fold, zip, zero-add, one-add, arith, get_or-drop}
use lib.Bits.{bit_xor, xor_assoc, xor_zero_r}
use Rattle.std.proofs.lemmas.List.{take_rest}
use Rattle.field.specs.Field.{Field, Laws}
use Rattle.field.proofs.Facts.{times_zero}
use Rattle.rs_algebra.specs.Polynomials.{plus, scaled, weighed}
use Rattle.reed_solomon.specs.Locating.{cleared, held}

module _ (f : Field) where
  -- S read from i on is T read from j on
  pub weighed_shifted : (l : List ℕ) (S T : ℕ → ℕ) (i j : ℕ) → ((k : ℕ) → S (i + k) ≡ T (j + k)) → weighed f l S i ≡ weighed f l T j
  unfolding weighed
  weighed_shifted [] S T i j same = refl
  weighed_shifted (c ∷ l) S T i j same =
      let here : i + 0 ≡ i = omega arith in
      let there : j + 0 ≡ j = omega arith in
      ap₂ (λ a b. bit_xor (f.times c a) b) (sym (ap S here) ∙ same 0 ∙ ap T there)
      (weighed_shifted l S T (suc i) (suc j) (λ k.
      let e : suc i + k ≡ i + suc k = omega arith in
      let g : suc j + k ≡ j + suc k = omega arith in
      ap S e ∙ same (suc k) ∙ sym (ap T g)))

module _ (f : Field) (laws : Laws f) where
  -- nothing weighed is nothing
  none : (l : List ℕ) (i : ℕ) → weighed f l (λ j. 0) i ≡ 0
  unfolding weighed
  none [] i = refl
  none (c ∷ l) i = simp (times_zero f laws, none l (suc i))

  -- past the end of the numbers there is 0
  folded : (l s : List ℕ) (a : ℕ)
      → fold (λ a (p : ℕ × ℕ). bit_xor a (f.times p.0 p.1)) a (zip l s) ≡ bit_xor a (weighed f l (λ j. get_or s j 0) 0)
  unfolding weighed
  folded [] s a = sym (xor_zero_r a)
  folded (c ∷ l) [] a = sym (xor_zero_r a) ∙ ap (bit_xor a) (sym (none (c ∷ l) 0))
  folded (c ∷ l) (d ∷ s) a =
      let shift : (k : ℕ) → get_or s (0 + k) 0 ≡ get_or (d ∷ s) (1 + k) 0
      = λ k. ap (λ n. get_or s n 0) (zero-add k) ∙ sym (ap (λ n. get_or (d ∷ s) n 0) (one-add k)) in
      folded l s (bit_xor a (f.times c d))
      ∙ xor_assoc a (f.times c d) (weighed f l (λ j. get_or s j 0) 0)
      ∙ ap (λ b. bit_xor a (bit_xor (f.times c d) b)) (weighed_shifted f l (λ j. get_or s j 0) (λ j. get_or (d ∷ s) j 0) 0 1 shift)

  pub weighed_folded : (l s : List ℕ) → fold (λ a (p : ℕ × ℕ). bit_xor a (f.times p.0 p.1)) 0 (zip l s) ≡ weighed f l (λ j. get_or s j 0) 0
  weighed_folded l s = folded l s 0

-- equation j of the numbers s is the first of those from j on
module _ (f : Field) (s : List ℕ) (j : ℕ) where
  pub weighed_from : (l : List ℕ) → weighed f l (held (take (length s - j) (drop j s))) 0 ≡ weighed f l (held s) j
  weighed_from l =
      ap (λ xs. weighed f l (held xs) 0) (take_rest s j)
      ∙ weighed_shifted f l (held (drop j s)) (held s) 0 j (λ k. get_or-drop j s (0 + k) 0 ∙ ap (λ n. get_or s (j + n) 0) (zero-add k))

  pub cleared_from : (u v : List ℕ) → cleared f (held (take (length s - j) (drop j s))) 0 u v ≡ cleared f (held s) j u v
  unfolding cleared
  cleared_from u v = ap₂ (λ a b. plus v (scaled f (f.times a (f.inverse b)) u)) (weighed_from v) (weighed_from u)
