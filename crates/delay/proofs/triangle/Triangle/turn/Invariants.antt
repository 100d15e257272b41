use Rattle.delay.proofs.Turns.{Turning}
use Rattle.delay.proofs.triangle.Triangle.turn.Given as goal

abbrev pub invariant-loop-rank : goal.invariant-loop-rank
invariant-loop-rank g l = Turning _ l.self l.clock l.rank l.start l.initial.memory l.memory l.initial.block l.block
