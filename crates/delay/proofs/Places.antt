-- Where the branches lie: each has its place, they do not meet, and they fill memory. Assumes nothing.
use Rattle.std.proofs.Common.{◌≡◌, ℕ, zero, suc, ◌+◌, ◌-◌, ◌*◌, ◌/◌, ◌<◌, ◌≤◌, ◌⊎◌, sym, refl, ap, ◌∙◌, inl, inr, add-mul, mul-zero, zero-mul, mul-one, mul-suc, mul-add, mul-div_cancel, arith}
use Rattle.std.proofs.lemmas.Bool.{cases_lt}
use Rattle.delay.specs.declared.lengths.Lengths.{Lengths}
use Rattle.delay.specs.declared.lengths.Lengths.TheVariants.{Rising, Falling}
use Rattle.delay.specs.declared.triangle.Triangle.{Triangle}
use Rattle.delay.specs.Triangles.{Fills, Owns, memory_of, rank_in, rank_of, start_at, wait_of}

rank_in_lt : (l : Lengths) (I j : ℕ) → j < I → rank_in l I j < I
rank_in_lt Rising I j h = h
rank_in_lt Falling I j h = omega arith

rank_in_back : (l : Lengths) (I j : ℕ) → j < I → rank_in l I (rank_in l I j) ≡ j
rank_in_back Rising I j h = refl
rank_in_back Falling I j h = omega arith

-- ranks are numbers of branches in another order, and the order undoes itself
pub rank_lt : (t : Triangle) (j : ℕ) → j < t.block → rank_of t j < t.block
rank_lt t j h = rank_in_lt t.lengths t.block j h

pub rank_back : (t : Triangle) (j : ℕ) → j < t.block → rank_of t (rank_of t j) ≡ j
rank_back t j h = rank_in_back t.lengths t.block j h

-- a branch ends where the next one begins, and before all later ones
pub start_suc : (M r : ℕ) → start_at M (suc r) ≡ start_at M r + M * r
unfolding start_at
start_suc M r = refl

pub ends_before : (M a b : ℕ) → a < b → start_at M a + M * a ≤ start_at M b
ends_before M a zero h = absurd (omega arith)
ends_before M a (suc b) h = go (ends_before M a b) (cases_lt a b)
  where
    go : (a < b → start_at M a + M * a ≤ start_at M b) → (a < b) ⊎ (b ≤ a) → start_at M a + M * a ≤ start_at M (suc b)
    go earlier (inl l) = omega (arith, start_suc M b, earlier l)
    go earlier (inr l) = let e : a ≡ b = omega arith in omega (arith, start_suc M b, ap (λ r. start_at M r + M * r) e)

-- the triangle's formula
pred_mul : (M r : ℕ) → M * r * (r - 1) + M * r ≡ M * r * r
pred_mul M zero = omega (arith, mul-zero M, ap (λ a. a * (0 - 1)) (mul-zero M), zero-mul (0 - 1), mul-zero (M * 0))
pred_mul M (suc r) =
    let a = M * suc r in
    let e : suc r - 1 + 1 ≡ suc r = omega arith in
    ap (λ b. a * (suc r - 1) + b) (sym (mul-one a)) ∙ sym (mul-add a (suc r - 1) 1) ∙ ap (λ b. a * b) e

twice_start : (M r : ℕ) → start_at M r * 2 ≡ M * r * (r - 1)
unfolding start_at
twice_start M zero = sym (ap (λ a. a * (0 - 1)) (mul-zero M) ∙ zero-mul (0 - 1))
twice_start M (suc r) =
    let e : suc r - 1 ≡ r = omega arith in
    let wide : M * suc r * r ≡ M * r * r + M * r = ap (λ a. a * r) (mul-suc M r) ∙ add-mul (M * r) M r in
    let last : M * suc r * (suc r - 1) ≡ M * suc r * r = ap (λ k. M * suc r * k) e in
    omega (arith, twice_start M r, pred_mul M r, wide, last, add-mul (start_at M r) (M * r) 2)

pub end_is : (t : Triangle) → start_at t.step t.block ≡ memory_of t
end_is t =
    let P = start_at t.step t.block in
    let some : 0 < 2 = omega arith in
    sym (mul-div_cancel P some) ∙ ap (λ k. k / 2) (twice_start t.step t.block)

pub within : (t : Triangle) (rank : ℕ) → rank < t.block → start_at t.step rank + t.step * rank ≤ memory_of t
within t rank h = omega (arith, ends_before t.step rank t.block h, end_is t)

-- a place below the end of r branches belongs to one of them
owner : (M r k : ℕ) → k < start_at M r → (i : ℕ) × (i < r) × (start_at M i ≤ k) × (k < start_at M i + M * i)
unfolding start_at
owner M zero k h = absurd (omega arith)
owner M (suc r) k h = go (owner M r k) (cases_lt k (start_at M r))
  where
    go : (k < start_at M r → (i : ℕ) × (i < r) × (start_at M i ≤ k) × (k < start_at M i + M * i)) → (k < start_at M r) ⊎ (start_at M r ≤ k)
        → (i : ℕ) × (i < suc r) × (start_at M i ≤ k) × (k < start_at M i + M * i)
    go earlier (inl l) = let found = earlier l in (found.0, omega (arith, found.1), found.2, found.3)
    go earlier (inr l) = (r, omega arith, l, omega (arith, h, start_suc M r))

-- and to no other
one_owner : (M a b k : ℕ) → start_at M a ≤ k → k < start_at M a + M * a → start_at M b ≤ k → k < start_at M b + M * b → a ≡ b
one_owner M a b k a-low a-high b-low b-high = go (cases_lt a b) (cases_lt b a)
  where
    go : (a < b) ⊎ (b ≤ a) → (b < a) ⊎ (a ≤ b) → a ≡ b
    go (inl l) _ = absurd (omega (arith, ends_before M a b l))
    go (inr l) (inl m) = absurd (omega (arith, ends_before M b a m))
    go (inr l) (inr m) = omega arith

pub fills : (t : Triangle) → Fills t (memory_of t)
unfolding wait_of
fills t = record {
  owned = owned;
  apart = λ i j k h l a b. let e = one_owner t.step (rank_of t i) (rank_of t j) k a.0 a.1 b.0 b.1 in
      sym (rank_back t i h) ∙ ap (rank_of t) e ∙ rank_back t j l;
  inside = λ j h. within t (rank_of t j) (rank_lt t j h);
}
  where
    owned : (k : ℕ) → k < memory_of t → (j : ℕ) × (j < t.block) × Owns t j k
    owned k h =
        let found = owner t.step t.block k (omega (arith, end_is t, h)) in
        let i = found.0 in
        let b = rank_back t i found.1 in
        (rank_of t i, rank_lt t i found.1, unfold wait_of in rw b (found.2, found.3))

pub fills_at : (t : Triangle) (P : ℕ) → P ≡ memory_of t → Fills t P
fills_at t P is = rw is (fills t)
