-- Sums over a list's first places, one place more: for loops. Assumes nothing.
use Rattle.std.proofs.Common.{◌≡◌, ℕ, suc, ◌+◌, ◌<◌, List, [], ◌∷◌, ◌++◌, length, get_or, take, drop, sym, refl, ap, ◌∙◌, ap₂, add-zero, arith}
use lib.Bits.{bit_xor, xor_assoc, xor_zero_r}
use Rattle.std.proofs.lemmas.List.{take_more, drop_more, length-take-le}
use Rattle.field.specs.Field.{Field, Laws}
use Rattle.rs_algebra.specs.Polynomials.{Elements, plus, scaled, low_at, weighed}
use Rattle.field.specs.Polynomials.{value_at}
use Rattle.field.specs.Sums.{xor_four}
use Rattle.field.proofs.Facts.{times_zero, times_right}
use Rattle.rs_algebra.proofs.Polynomials.{value_more}

module _ (f : Field) (laws : Laws f) where
  -- Horner's rule, highest power first
  pub value_next : (p : List ℕ) (i x : ℕ) → i < length p → Elements f p
      → value_at f (take (i + 1) p) x ≡ bit_xor (f.times (value_at f (take i p) x) x) (get_or p i 0)
  value_next p i x h e = ap (λ q. value_at f q x) (take_more p i 0 h) ∙ value_more f laws (take i p) (get_or p i 0) x (e i)

  -- and lowest power first, from the end
  pub low_next : (l : List ℕ) (i x : ℕ) → i < length l → low_at f (drop i l) x ≡ bit_xor (get_or l i 0) (f.times x (low_at f (drop (i + 1) l) x))
  unfolding low_at
  low_next l i x h = ap (λ q. low_at f q x) (drop_more l i 0 h)

  -- weighed sums
  weighed_push : (l : List ℕ) (c : ℕ) (S : ℕ → ℕ) (j : ℕ) → weighed f (l ++ c ∷ []) S j ≡ bit_xor (weighed f l S j) (f.times c (S (j + length l)))
  unfolding weighed
  weighed_push [] c S j = xor_zero_r (f.times c (S j)) ∙ ap (λ n. f.times c (S n)) (sym (add-zero j))
  weighed_push (d ∷ l) c S j =
      let e : suc j + length l ≡ j + suc (length l) = omega arith in
      ap (bit_xor (f.times d (S j))) (weighed_push l c S (suc j) ∙ ap (λ n. bit_xor (weighed f l S (suc j)) (f.times c (S n))) e)
      ∙ sym (xor_assoc (f.times d (S j)) (weighed f l S (suc j)) (f.times c (S (j + suc (length l)))))

  pub weighed_next : (l : List ℕ) (i : ℕ) (S : ℕ → ℕ) (j : ℕ) → i < length l
      → weighed f (take (i + 1) l) S j ≡ bit_xor (weighed f (take i l) S j) (f.times (get_or l i 0) (S (j + i)))
  weighed_next l i S j h =
      ap (λ q. weighed f q S j) (take_more l i 0 h)
      ∙ weighed_push (take i l) (get_or l i 0) S j
      ∙ ap (λ n. bit_xor (weighed f (take i l) S j) (f.times (get_or l i 0) (S (j + n)))) (length-take-le i l (omega arith))

  -- they are linear in the coefficients
  pub weighed-plus : (p q : List ℕ) (S : ℕ → ℕ) (j : ℕ) → weighed f (plus p q) S j ≡ bit_xor (weighed f p S j) (weighed f q S j)
  unfolding weighed plus
  weighed-plus [] q S j = refl
  weighed-plus (c ∷ p) [] S j = sym (xor_zero_r (weighed f (c ∷ p) S j))
  weighed-plus (c ∷ p) (d ∷ q) S j =
      ap₂ bit_xor (times_right f laws c d (S j)) (weighed-plus p q S (suc j))
      ∙ xor_four (f.times c (S j)) (f.times d (S j)) (weighed f p S (suc j)) (weighed f q S (suc j))

  pub weighed-scaled : (c : ℕ) (l : List ℕ) (S : ℕ → ℕ) (j : ℕ) → weighed f (scaled f c l) S j ≡ f.times c (weighed f l S j)
  unfolding weighed scaled
  weighed-scaled c [] S j = sym (times_zero f laws c)
  weighed-scaled c (d ∷ l) S j =
      ap₂ bit_xor (laws.associative c d (S j)) (weighed-scaled c l S (suc j))
      ∙ sym (laws.distributive c (f.times d (S j)) (weighed f l S (suc j)))
