-- An array made by a closure that each call leaves as it was. Assumes nothing.
use Rattle.std.proofs.Common.{◌≡◌, ℕ, zero, suc, ◌+◌, ◌<◌, ◌≤◌, ◌⊎◌, List, get_or, refl, inl, inr, arith}
use Rattle.std.proofs.lemmas.Bool.{cases_lt}
use denote.Param.Members.{Mut, Called}
use Rattle.std.specs.Array.{IsFromFnResult, IsFromFnResultFrom}

module _ {F B : Type 0} (g : Mut F (ℕ × Unit {0}) B) (f : F) (P : ℕ → B → Type 0) (ys : List B) (d : B) where
  made_from : (i n top : ℕ) → i + n ≡ top → ((k : ℕ) (y : B) (q : F) → k < top → Called g f (k, tt) y q → (q ≡ f) × P k y)
      → (e : F) → e ≡ f → IsFromFnResultFrom g e ys i n → (k : ℕ) → i ≤ k → k < top → P k (get_or ys k d)
  made_from i zero top all call e same made k low high = absurd (omega arith)
  made_from i (suc n) top all call e same (q, y, at, called, rest) k low high =
      let told : (q ≡ f) × P i y = call i y q (omega arith) (rw same at called) in
      go told.1 (cases_lt i k) (λ less. made_from (i + 1) n top (omega arith) call q told.0 rest k (omega arith) high)
    where
      go : P i y → (i < k) ⊎ (k ≤ i) → (i < k → P k (get_or ys k d)) → P k (get_or ys k d)
      go here (inl less) later = later less
      go here (inr past) later = let now : k ≡ i = omega arith in rw (now, at.1 d) here

  pub made : (n : ℕ) → ((k : ℕ) (y : B) (q : F) → k < n → Called g f (k, tt) y q → (q ≡ f) × P k y) → IsFromFnResult g f ys n
      → (k : ℕ) → k < n → P k (get_or ys k d)
  made n call result k h = made_from 0 n n (omega arith) call f refl result.each k (omega arith) h
