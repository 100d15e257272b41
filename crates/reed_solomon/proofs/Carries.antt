-- A list whose numbers are changed one after another, each by the one that stood before it: for loops. Assumes nothing.
use Rattle.std.proofs.Common.{◌≡◌, ℕ, zero, suc, ◌+◌, ◌<◌, ◌≤◌, List, [], ◌∷◌, ◌++◌, length, get_or, take, drop, set, sym, refl, ap, ◌∙◌, ap₂, arith}
use Rattle.std.proofs.lemmas.List.{append_assoc, append-nil, take_more_set, drop_more, drop-set-lt, take_all, drop_all}
use Rattle.rs_algebra.specs.Polynomials.{zeros}

module _ (h : ℕ → ℕ → ℕ) where
  -- h of each number and the one before it, the first one's being b
  unfoldable pub carried : (b : ℕ) → List ℕ → List ℕ
  carried b [] = []
  carried b (c ∷ p) = h c b ∷ carried c p

  -- one place more
  pub carried_more : (b : ℕ) (p : List ℕ) (i v : ℕ) → i < length p → v ≡ h (get_or p i 0) b
      → take (i + 1) (set p i v) ++ carried (get_or p i 0) (drop (i + 1) (set p i v)) ≡ take i p ++ carried b (drop i p)
  unfolding carried
  carried_more b p i v l is =
      ap₂ {C = List ℕ} (λ x y. x ++ carried (get_or p i 0) y) (take_more_set p i v l) (drop-set-lt (i + 1) p i v (omega arith))
      ∙ append_assoc (take i p) (v ∷ []) (carried (get_or p i 0) (drop (i + 1) p))
      ∙ ap (λ y. take i p ++ y ∷ carried (get_or p i 0) (drop (i + 1) p)) is
      ∙ ap (λ y. take i p ++ carried b y) (sym (drop_more p i 0 l))

  pub carried_done : (b : ℕ) (p : List ℕ) (i : ℕ) → length p ≤ i → take i p ++ carried b (drop i p) ≡ p
  unfolding carried
  carried_done b p i l = ap₂ {C = List ℕ} (λ x y. x ++ carried b y) (take_all i p l) (drop_all i p l) ∙ append-nil p

  pub carried-zeros : h 0 0 ≡ 0 → (n : ℕ) → carried 0 (zeros n) ≡ zeros n
  unfolding carried
  carried-zeros none zero = refl
  carried-zeros none (suc n) = ap₂ {C = List ℕ} (λ x y. x ∷ y) none (carried-zeros none n)
