use Rattle.std.proofs.Common.{get_or, sym, ap, ◌∙◌, arith}
use lib.Bits.{bit_xor}
use Rattle.reed_solomon.proofs.Carries.{carried, carried_more, carried_done}
use Rattle.reed_solomon.proofs.Generators.{carried_root, down}
use Rattle.reed_solomon.proofs.generator.add_root.Goals as goal

pub loop-coefficient-preserved : goal.loop-coefficient-preserved
loop-coefficient-preserved g c =
    let p = c.loop-coefficient.polynomial in
    let i = c.loop-coefficient.coefficient-index in
    carried_more (down g.F.Field.field c.args.root) c.loop-coefficient.before p i _ (omega arith) (ap (bit_xor (get_or p i 0)) c.times.ensures)
    ∙ c.loop-coefficient.invariant

pub returns : goal.returns
returns g c p n e is =
    let f = g.F.Field.field in
    sym (carried_done (down f c.args.root) c.loop-coefficient.before c.loop-coefficient.polynomial c.loop-coefficient.coefficient-index (omega arith))
    ∙ c.loop-coefficient.invariant ∙ ap (carried (down f c.args.root) 0) is ∙ carried_root f g.met.F.Field.laws c.args.root p n e
