-- The product of a polynomial by x + a, made in place from the lowest power on. Assumes nothing.
use Rattle.std.proofs.Common.{◌≡◌, ℕ, suc, ◌+◌, List, [], ◌∷◌, ◌++◌, ap, ◌∙◌, ap₂, arith}
use lib.Bits.{bit_xor}
use Rattle.field.specs.Field.{Field, Laws}
use Rattle.field.proofs.Facts.{times_zero}
use Rattle.rs_algebra.specs.Polynomials.{zeros, plus, scaled, times_root}
use Rattle.reed_solomon.proofs.Carries.{carried, carried-zeros}

-- a coefficient of the product, from the polynomial's own and the one below it
abbrev pub up : (f : Field) (a here below : ℕ) → ℕ
up f a here below = bit_xor (f.times a here) below

module _ (f : Field) (laws : Laws f) (a : ℕ) where
  from : (b : ℕ) (v : List ℕ) (n : ℕ) → carried (up f a) b (v ++ zeros (suc n)) ≡ plus (scaled f a v) (b ∷ v) ++ zeros n
  unfolding carried plus scaled
  from b [] n =
      ap₂ {C = List ℕ} (λ x y. x ∷ y) (ap (λ y. bit_xor y b) (times_zero f laws a)) (carried-zeros (up f a) (ap (λ y. bit_xor y 0) (times_zero f laws a)) n)
  from b (c ∷ v) n = ap (λ y. bit_xor (f.times a c) b ∷ y) (from c v n)

  -- with room for one more coefficient
  pub carried_times_root : (v : List ℕ) (n : ℕ) → carried (up f a) 0 (v ++ zeros (n + 1)) ≡ times_root f a v ++ zeros n
  unfolding times_root
  carried_times_root v n =
      let one : n + 1 ≡ suc n = omega arith in
      ap (λ k. carried (up f a) 0 (v ++ zeros k)) one ∙ from 0 v n
