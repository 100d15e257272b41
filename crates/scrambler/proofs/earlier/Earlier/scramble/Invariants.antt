use Rattle.scrambler.proofs.Loops.{Sent}
use Rattle.scrambler.proofs.earlier.Earlier.scramble.Given as goal

abbrev pub invariant-loop-octet : goal.invariant-loop-octet
invariant-loop-octet l = Sent l.initial.self.bits l.self.bits l.initial.octets l.octets l.octet-index
