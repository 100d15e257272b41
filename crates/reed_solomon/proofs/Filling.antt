-- A list whose numbers are written one after another. Assumes nothing.
use Rattle.std.proofs.Common.{◌≡◌, ℕ, ◌+◌, ◌<◌, ◌≤◌, ◌⊎◌, List, length, get_or, set, subst, inl, inr, arith}
use Rattle.std.proofs.lemmas.List.{get_or-set_same, get_or-set_other}
use Rattle.std.proofs.lemmas.Bool.{cases_lt}

-- the numbers at the first n places are as P says
abbrev pub Filled : (P : ℕ → ℕ → Type 0) (n : ℕ) → List ℕ → Type 0
Filled P n xs = (i : ℕ) → i < n → P i (get_or xs i 0)

module _ (P : ℕ → ℕ → Type 0) where
  pub filled_more : (xs : List ℕ) (n y : ℕ) → n < length xs → Filled P n xs → P n y → Filled P (n + 1) (set xs n y)
  filled_more xs n y room before here i h = go (cases_lt i n)
    where
      go : (i < n) ⊎ (n ≤ i) → P i (get_or (set xs n y) i 0)
      go (inl l) = rw (get_or-set_other xs n i y 0 (omega arith)) (before i l)
      go (inr l) =
          let e : n ≡ i = omega arith in
          let Q : ℕ → Type 0 = λ k. P k (get_or (set xs n y) k 0) in
          let at : Q n = rw (get_or-set_same xs n y 0 room) here in
          subst Q e at
