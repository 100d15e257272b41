-- A multiple of one list is added to another, number by number: for a loop. Assumes nothing.
use Rattle.std.proofs.Common.{◌≡◌, ℕ, ◌<◌, ◌≤◌, List, length, get_or, sym, ap, ◌∙◌, arith}
use lib.Bits.{bit_xor}
use Rattle.field.specs.Field.{Field, Laws}
use Rattle.rs_algebra.specs.Polynomials.{plus, scaled}
use Rattle.rs_algebra.proofs.Lists.{same_reads, plus_reads, plus_long, plus_comm, scaled_long}
use Rattle.rs_algebra.proofs.LowFirst.{scaled_reads}

-- c times ys is added to the first i numbers of xs, which gives zs
pub record Adding (f : Field) (c : ℕ) (xs ys : List ℕ) (i : ℕ) (zs : List ℕ) : Type 0 where
  pub long : length zs ≡ length xs
  pub done : (k : ℕ) → k < i → get_or zs k 0 ≡ bit_xor (get_or xs k 0) (f.times c (get_or ys k 0))
  pub rest : (k : ℕ) → i ≤ k → get_or zs k 0 ≡ get_or xs k 0

module _ (f : Field) (laws : Laws f) (c : ℕ) (xs ys : List ℕ) where
  pub ended : {i : ℕ} {zs : List ℕ} → Adding f c xs ys i zs → length zs ≤ i → length xs ≡ length ys → zs ≡ plus xs (scaled f c ys)
  ended {i} {zs} so_far h alike =
      let long : length (plus xs (scaled f c ys)) ≡ length xs
      = ap length (plus_comm xs (scaled f c ys)) ∙ plus_long (scaled f c ys) xs (omega (arith, scaled_long f c ys)) in
      same_reads zs (plus xs (scaled f c ys)) (so_far.long ∙ sym long)
      (λ k l. so_far.done k (omega arith) ∙ sym (plus_reads xs (scaled f c ys) k ∙ ap (bit_xor (get_or xs k 0)) (scaled_reads f laws c ys k)))
