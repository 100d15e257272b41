use Rattle.std.proofs.Common.{arith}
use Rattle.reed_solomon.proofs.Adding.{begun, next}
use Rattle.reed_solomon.proofs.mending.add_term.Goals as goal

pub loop-sum-init : goal.loop-sum-init
loop-sum-init g c = begun g.F.Field.field g.met.F.Field.laws c.args.value c.args.x c.args.sums.now c.requires

pub loop-sum-preserved : goal.loop-sum-preserved
loop-sum-preserved g c =
    next g.F.Field.field g.met.F.Field.laws c.args.value c.args.x c.args.sums.now
    c.loop-sum.sum-index c.loop-sum.term c.times-term.result c.loop-sum.sums (omega arith) c.times-term.ensures c.loop-sum.invariant
