-- A branch as a ring in memory. Assumes nothing.
use Rattle.std.proofs.Common.{◌≡◌, ℕ, suc, ◌+◌, ◌-◌, ◌%◌, ◌<◌, ◌≤◌, ◌⊎◌, List, [], ◌∷◌, ◌++◌, length, get_or, take, drop, set, replicate, sym, refl, ap, ◌∙◌, ap₂, inl, inr, append_assoc, append-nil, mod-lt, mod-eq_of_lt, arith, length-drop, length-take, drop-cons, take-suc-set, drop-set-lt}
use native.Mathlib.Nat.{mod-add-mod, mod_self}
use lib.Seq.{drop-nil, set_split, take-nil}
use Rattle.std.proofs.lemmas.List.{drop_all, drop-replicate, nil_from_length, replicate-append-replicate, take-replicate}
use Rattle.std.proofs.lemmas.Bool.{cases_lt}
use Rattle.std.specs.List.{FoldsTo}
use Rattle.delay.specs.Queues.{leaves, stays}
use Rattle.delay.specs.Triangles.{part, turned}

-- where the next oldest is
next : (clock n : ℕ) → 0 < n → ((clock + 1) % n ≡ suc (clock % n)) ⊎ (((clock + 1) % n ≡ 0) × (suc (clock % n) ≡ n))
next clock n some = go (cases_lt (suc (clock % n)) n)
  where
    step : (clock + 1) % n ≡ (clock % n + 1) % n
    step = sym (mod-add-mod clock n 1)

    go : (suc (clock % n) < n) ⊎ (n ≤ suc (clock % n)) → ((clock + 1) % n ≡ suc (clock % n)) ⊎ (((clock + 1) % n ≡ 0) × (suc (clock % n) ≡ n))
    go (inl h) = let l : clock % n + 1 < n = omega arith in inl (step ∙ mod-eq_of_lt l ∙ omega arith)
    go (inr h) =
        let e : clock % n + 1 ≡ n = omega (arith, mod-lt clock some) in
        inr (step ∙ ap (λ k. k % n) e ∙ mod_self n, omega arith)

module _ {E : Type 0} where
  pub length_part : (start n : ℕ) (xs : List E) → start + n ≤ length xs → length (part start n xs) ≡ n
  length_part start n xs h = length-take n (drop start xs) ∙ omega (arith, length-drop start xs)

  -- a ring of length 0 holds nothing
  pub turned_none : (at : ℕ) → turned {E = E} at [] ≡ []
  unfolding turned
  turned_none at = rw (drop-nil at, take-nil at)

  -- a ring of one element over and over is the same from everywhere
  pub turned-cleared : (at n : ℕ) (y : E) → at ≤ n → turned at (replicate n y) ≡ replicate n y
  unfolding turned
  turned-cleared at n y h =
      let e : n - at + at ≡ n = omega arith in
      ap₂ (λ xs ys. xs ++ ys) (drop-replicate at n y) (take-replicate at n y h)
      ∙ replicate-append-replicate (n - at) at y ∙ ap (λ k. replicate k y) e

  -- the oldest comes first
  pub turned-first : (at : ℕ) (ring : List E) (x : E) → at < length ring
      → turned at ring ≡ get_or ring at x ∷ (drop (suc at) ring ++ take at ring)
  unfolding turned
  turned-first at ring x h = ap (λ xs. xs ++ take at ring) (drop-cons ring at x h)

  -- the youngest takes the place of the oldest and comes last
  pub turned_next : (clock n : ℕ) (ring : List E) (y : E) → 0 < n → length ring ≡ n
      → turned ((clock + 1) % n) (set ring (clock % n) y)
      ≡ (drop (suc (clock % n)) ring ++ take (clock % n) ring) ++ y ∷ []
  unfolding turned
  turned_next clock n ring y some whole = go (next clock n some)
    where
      at : ℕ
      at = clock % n

      in_ring : at < length ring
      in_ring = omega (arith, mod-lt clock some, whole)

      go : ((clock + 1) % n ≡ suc at) ⊎ (((clock + 1) % n ≡ 0) × (suc at ≡ n))
          → turned ((clock + 1) % n) (set ring at y) ≡ (drop (suc at) ring ++ take at ring) ++ y ∷ []
      go (inl e) =
          ap (λ k. turned k (set ring at y)) e
          ∙ unfold turned in ap₂ (λ xs ys. xs ++ ys) (drop-set-lt (suc at) ring at y (omega arith)) (take-suc-set ring at y in_ring)
          ∙ sym (append_assoc (drop (suc at) ring) (take at ring) (y ∷ []))
      go (inr e) =
          let none : drop (suc at) ring ≡ [] = drop_all (suc at) ring (omega (arith, e.1, whole)) in
          ap (λ k. turned k (set ring at y)) e.0
          ∙ unfold turned in append-nil (set ring at y) ∙ set_split ring at y in_ring ∙ ap (λ xs. take at ring ++ y ∷ xs) none
          ∙ sym (ap (λ xs. (xs ++ take at ring) ++ y ∷ []) none)

  -- a cleared ring
  pub ring_cleared : (clock start n all : ℕ) (y : E) → start + n ≤ all → turned (clock % n) (part start n (replicate all y)) ≡ replicate n y
  ring_cleared clock start n all y h = ap (turned (clock % n)) ring ∙ go (cases_lt 0 n)
    where
      ring : part start n (replicate all y) ≡ replicate n y
      ring = ap (take n) (drop-replicate start all y) ∙ take-replicate n (all - start) y (omega arith)

      go : (0 < n) ⊎ (n ≤ 0) → turned (clock % n) (replicate n y) ≡ replicate n y
      go (inl some) = turned-cleared (clock % n) n y (omega (arith, mod-lt clock some))
      go (inr none) = let e : n ≡ 0 = omega arith in rw e (turned_none (clock % 0))

  -- one push through a ring of some elements
  module _ (clock : ℕ) (ring : List E) (y : E) (some : 0 < length ring) where
    first : (x : E) → turned (clock % length ring) ring
        ≡ get_or ring (clock % length ring) x ∷ (drop (suc (clock % length ring)) ring ++ take (clock % length ring) ring)
    first x = turned-first (clock % length ring) ring x (mod-lt clock some)

    pub pass_left : (x d : E) → x ≡ get_or ring (clock % length ring) d → x ≡ leaves (turned (clock % length ring) ring) y
    unfolding leaves
    pass_left x d read = read ∙ sym (ap (λ q. leaves q y) (first d))

    pub pass_waits : (x : E) → turned ((clock + 1) % length ring) (set ring (clock % length ring) y) ≡ stays (turned (clock % length ring) ring) y
    unfolding stays
    pass_waits x = turned_next clock (length ring) ring y some refl ∙ sym (ap (λ q. stays q y) (first x))

  -- and through one of none
  pub pass_none_left : (at : ℕ) (ring : List E) (y : E) → length ring ≡ 0 → y ≡ leaves (turned at ring) y
  unfolding leaves
  pass_none_left at ring y e = rw (nil_from_length ring e) (sym (ap (λ q. leaves q y) (turned_none at)))

  pub pass_none_waits : (at next : ℕ) (ring : List E) (y : E) → length ring ≡ 0 → turned next ring ≡ stays (turned at ring) y
  unfolding stays
  pass_none_waits at next ring y e = rw (nil_from_length ring e) (turned_none next ∙ sym (ap (λ q. stays q y) (turned_none at)))

pub ruleset passing = (pass_left, pass_waits, pass_none_left, pass_none_waits)

-- what the calls of a closure gave that gives one value and stays as it is
pub filled : {F X : Type 0} (R : F → X → F → Type 0) (f : F) (y : X) → ((x : X) (q : F) → R f x q → (q ≡ f) × (x ≡ y))
    → (xs : List X) (last : F) → FoldsTo R f xs last → xs ≡ replicate (length xs) y
filled R f y one [] last h = refl
filled R f y one (x ∷ xs) last h =
    let o = one x h.0 h.1 in
    ap₂ (λ z zs. z ∷ zs) o.1 (filled R f y one xs last (rw o.0 at h.2))
