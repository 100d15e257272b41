use Rattle.reed_solomon.proofs.Combining.{Adding}
use Rattle.reed_solomon.proofs.linear.add_multiple.Given as goal

-- the numbers so far have their multiple
abbrev pub invariant-loop-i : goal.invariant-loop-i
invariant-loop-i g l = Adding g.F.Field.field l.factor l.initial.list l.other l.i l.list
