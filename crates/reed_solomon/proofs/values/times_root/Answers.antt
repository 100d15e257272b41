use Rattle.std.proofs.Common.{sym, ap, ◌∙◌, arith}
use lib.Bits.{bit_xor}
use Rattle.reed_solomon.proofs.Carries.{carried, carried_more, carried_done}
use Rattle.reed_solomon.proofs.Products.{carried_times_root, up}
use Rattle.reed_solomon.proofs.values.times_root.Goals as goal

pub loop-coefficient-preserved : goal.loop-coefficient-preserved
loop-coefficient-preserved g c =
    carried_more (up g.F.Field.field c.args.root) c.loop-coefficient.below c.loop-coefficient.polynomial c.loop-coefficient.coefficient-index _ (omega arith)
    (ap (λ x. bit_xor x c.loop-coefficient.below) c.times.ensures)
    ∙ c.loop-coefficient.invariant

pub returns : goal.returns
returns g c p n is =
    let h = up g.F.Field.field c.args.root in
    sym (carried_done h c.loop-coefficient.below c.loop-coefficient.polynomial c.loop-coefficient.coefficient-index (omega arith))
    ∙ c.loop-coefficient.invariant ∙ ap (carried h 0) is ∙ carried_times_root g.F.Field.field g.met.F.Field.laws c.args.root p n
