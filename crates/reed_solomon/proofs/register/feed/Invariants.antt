use Rattle.reed_solomon.proofs.Registers.{Fed}
use Rattle.reed_solomon.proofs.register.feed.Given as goal

abbrev pub invariant-loop-k : goal.invariant-loop-k
invariant-loop-k g l = Fed g.F.Field.field l.polynomial l.initial.register l.octet l.k l.register
