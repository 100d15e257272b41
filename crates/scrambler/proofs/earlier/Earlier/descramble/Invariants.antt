use Rattle.scrambler.proofs.Loops.{Taken}
use Rattle.scrambler.proofs.earlier.Earlier.descramble.Given as goal

abbrev pub invariant-loop-octet : goal.invariant-loop-octet
invariant-loop-octet l = Taken l.initial.self.bits l.self.bits l.initial.octets l.octets l.octet-index
