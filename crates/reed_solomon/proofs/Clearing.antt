-- The vectors at the front of rows: unit vectors, and vectors that are cleared one after the other. Assumes nothing.
use Rattle.std.proofs.Common.{◌≡◌, ℕ, zero, suc, ◌+◌, ◌-◌, ◌<◌, ◌≤◌, ◌≢◌, List, [], ◌∷◌, ◌++◌, length, get_or, take, drop, set, refl, ap, ◌∙◌, ap₂, arith, rules, get_or-drop, get_or-take, get_or-set_other, get_or-set_same}
use borrow.Rule.Slice.PartMut.{put_mid}
use Rattle.std.proofs.lemmas.List.{places, take-replicate}
use Rattle.field.specs.Field.{Field}
use Rattle.rs_algebra.specs.Polynomials.{plus, scaled, weighed, zeros}
use Rattle.reed_solomon.specs.Locating.{cleared, front}

-- of a unit vector the front is one
take-set : (w : ℕ) (xs : List ℕ) (i y : ℕ) → take w (set xs i y) ≡ set (take w xs) i y
take-set zero xs i y = refl
take-set (suc w) [] i y = refl
take-set (suc w) (x ∷ xs) zero y = refl
take-set (suc w) (x ∷ xs) (suc i) y = ap (λ l. x ∷ l) (take-set w xs i y)

pub unit_front : (w n i : ℕ) → w ≤ n → take w (set (zeros n) i 1) ≡ set (zeros w) i 1
unit_front w n i h = take-set w (zeros n) i 1 ∙ ap (λ l. set l i 1) (take-replicate w n 0 h)

-- a vector written to the front of a row
pub front_stored : (w : ℕ) (v xs : List ℕ) → length v ≡ length (take w xs) → take w (v ++ drop w xs) ≡ v
front_stored zero [] xs h = refl
front_stored zero (y ∷ v) xs h = absurd (omega arith)
front_stored (suc w) [] [] h = refl
front_stored (suc w) [] (x ∷ xs) h = absurd (omega arith)
front_stored (suc w) (y ∷ v) [] h = absurd (omega arith)
front_stored (suc w) (y ∷ v) (x ∷ xs) h = ap (λ l. y ∷ l) (front_stored w v xs (omega arith))

-- row m copied to row p
module _ (w : ℕ) (rows : List (List ℕ)) (m p : ℕ) where
  pub front-moved : p < length rows → front w (set rows p (get_or rows m [])) p ≡ front w rows m
  front-moved h = ap (take w) (get_or-set_same rows p (get_or rows m []) [] h)

  pub front_else : (k : ℕ) → k ≢ p → front w (set rows p (get_or rows m [])) k ≡ front w rows k
  front_else k ne = ap (take w) (get_or-set_other rows p k (get_or rows m []) [] ne)

-- the rows from p on, n of them, replaced by others
module _ (w p n : ℕ) (rows others : List (List ℕ)) (h : p + n ≤ length rows) (long : length others ≡ n) where
  pub front_below : (k : ℕ) → k < p → front w (put_mid p n rows others) k ≡ front w rows k
  front_below k l = ap (take w) (search (rules, places))

  pub front_within : (k : ℕ) → p ≤ k → k < p + n → front w (put_mid p n rows others) k ≡ front w others (k - p)
  front_within k l r = ap (take w) (search (rules, places))

  pub front_part : (k : ℕ) → p ≤ k → k < p + n → front w (take n (drop p rows)) (k - p) ≡ front w rows k
  front_part k l r =
      let e : p + (k - p) ≡ k = omega arith in
      ap (take w) (get_or-take n (drop p rows) (k - p) [] (omega arith) ∙ get_or-drop p rows (k - p) [] ∙ ap (λ i. get_or rows i []) e)

-- the first i rows are cleared by u; the others are as they were
pub record Clearing (f : Field) (S : ℕ → ℕ) (w : ℕ) (u : List ℕ) (i : ℕ) (rows₀ rows : List (List ℕ)) : Type 0 where
  pub done : (k : ℕ) → k < i → front w rows k ≡ cleared f S 0 u (front w rows₀ k)
  pub rest : (k : ℕ) → i ≤ k → front w rows k ≡ front w rows₀ k

-- a vector that is cleared with the numbers that a turn has computed
pub made_clear : (f : Field) (S : ℕ → ℕ) (j : ℕ) (u v : List ℕ) {v' : List ℕ} {factor value inverse off : ℕ} → v' ≡ plus v (scaled f factor u)
    → factor ≡ f.times value inverse → value ≡ weighed f v S j → inverse ≡ f.inverse off → off ≡ weighed f u S j → v' ≡ cleared f S j u v
unfolding cleared
made_clear f S j u v sum product is-value is_inverse is-off =
    sum ∙ ap (λ x. plus v (scaled f x u)) (product ∙ ap₂ f.times is-value (is_inverse ∙ ap f.inverse is-off))
