use Rattle.std.proofs.Common.{arith}
use Rattle.reed_solomon.proofs.Combining.{ended}
use Rattle.reed_solomon.proofs.linear.add_multiple.Goals as goal

pub returns : goal.returns
returns g c =
    ended g.F.Field.field g.met.F.Field.laws c.args.factor c.args.list.now c.args.other.now c.loop-i.invariant (omega arith) c.requires
