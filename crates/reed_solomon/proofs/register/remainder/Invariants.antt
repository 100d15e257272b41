use Rattle.std.proofs.Common.{length}
use Rattle.reed_solomon.proofs.Registers.{Passed}
use Rattle.reed_solomon.proofs.register.remainder.Given as goal

abbrev pub invariant-loop-octet : goal.invariant-loop-octet
invariant-loop-octet g l =
    Passed g.F.Field.field g.met.F.Field.laws l.polynomial (length l.fn.out) l.message l.octet-index l.register
