use Rattle.std.proofs.Common.{◌≡◌, ℕ, suc, ◌+◌, get_or, take, sym, refl, ap, ◌∙◌, arith, take-suc}
use lib.Bits.{bit_xor}
use Rattle.field.specs.Polynomials.{value_at}
use Rattle.field.proofs.Facts.{horner_step}
use Rattle.field.proofs.horner.horner.Goals as goal

pub loop-coefficient-preserved : goal.loop-coefficient-preserved
loop-coefficient-preserved g c =
    let i : ℕ = c.loop-coefficient.coefficient-index in
    let p = c.args.polynomial.now in
    let one_more : suc i ≡ i + 1 = omega arith in
    let next = take-suc p i 0 c.loop-coefficient-test.true in
    let coefficient : ℕ = get_or p i 0 in (
      ap (λ y. g.F.Field.field.times 1 (bit_xor y coefficient)) c.times.ensures
          ∙ horner_step g.F.Field.field g.met.F.Field.laws (take i p) coefficient c.args.x c.loop-coefficient.sum c.loop-coefficient.invariant.0
          ∙ ap (λ q. value_at g.F.Field.field q c.args.x) (sym next ∙ ap (λ j. take j p) one_more),
      refl,
      refl,
    )
