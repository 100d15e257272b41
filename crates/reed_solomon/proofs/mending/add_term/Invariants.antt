use Rattle.reed_solomon.proofs.Adding.{Underway}
use Rattle.reed_solomon.proofs.mending.add_term.Given as goal

abbrev pub invariant-loop-sum : goal.invariant-loop-sum
invariant-loop-sum g l = Underway g.F.Field.field l.initial.term l.x l.initial.sums l.sum-index l.term l.sums
