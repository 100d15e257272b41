-- One push, through one queue and through a bank. Assumes nothing.
use Rattle.std.proofs.Common.{◌≡◌, ℕ, zero, suc, ◌<◌, List, [], ◌∷◌, ◌++◌, length, get_or, refl, ap, ap₂, arith}
use Rattle.std.proofs.lemmas.List.{length_push}
use Rattle.delay.specs.Queues.{Alike, Bank, leaves, stays, leaving, staying, others}

module _ {E : Type 0} where
  -- what leaves and then what waits is what waited and then what enters
  pub one_push : (q : List E) (x : E) → leaves q x ∷ stays q x ≡ q ++ x ∷ []
  unfolding leaves stays
  one_push [] x = refl
  one_push (oldest ∷ q) x = refl

  pub length-stays : (q : List E) (x : E) → length (stays q x) ≡ length q
  unfolding stays
  length-stays [] x = refl
  length-stays (oldest ∷ q) x = omega (arith, length_push q x)

  pub length-leaving : (bank : Bank E) (b : List E) → length (leaving bank b) ≡ length b
  unfolding leaving
  length-leaving bank [] = refl
  length-leaving bank (x ∷ b) = ap suc (length-leaving (others bank) b)

  -- what leaves and what waits, branch by branch
  pub leaving_at : (bank : Bank E) (b : List E) (j : ℕ) → j < length b → (x : E) → get_or (leaving bank b) j x ≡ leaves (bank j) (get_or b j x)
  unfolding leaving
  leaving_at bank [] j h x = absurd (omega arith)
  leaving_at bank (y ∷ b) zero h x = refl
  leaving_at bank (y ∷ b) (suc j) h x = leaving_at (others bank) b j (omega arith) x

  pub staying_at : (bank : Bank E) (b : List E) (j : ℕ) → j < length b → (x : E) → staying bank b j ≡ stays (bank j) (get_or b j x)
  unfolding staying
  staying_at bank [] j h x = absurd (omega arith)
  staying_at bank (y ∷ b) zero h x = refl
  staying_at bank (y ∷ b) (suc j) h x = staying_at (others bank) b j (omega arith) x

  -- banks that hold the same in each branch of a block
  pub leaving_same : (a bank : Bank E) (b : List E) → Alike (length b) a bank → leaving a b ≡ leaving bank b
  unfolding leaving
  leaving_same a bank [] same = refl
  leaving_same a bank (x ∷ b) same =
      ap₂ (λ y ys. y ∷ ys) (ap (λ q. leaves q x) (same 0 (omega arith))) (leaving_same (others a) (others bank) b (λ j h. same (suc j) (omega arith)))

  pub staying_same : (a bank : Bank E) (b : List E) (j : ℕ) → a j ≡ bank j → staying a b j ≡ staying bank b j
  unfolding staying
  staying_same a bank [] j same = same
  staying_same a bank (x ∷ b) zero same = ap (λ q. stays q x) same
  staying_same a bank (x ∷ b) (suc j) same = staying_same (others a) (others bank) b j same

  -- a branch keeps its length
  pub length-staying : (bank : Bank E) (b : List E) (j : ℕ) → length (staying bank b j) ≡ length (bank j)
  unfolding staying
  length-staying bank [] j = refl
  length-staying bank (x ∷ b) zero = length-stays (bank 0) x
  length-staying bank (x ∷ b) (suc j) = length-staying (others bank) b j
