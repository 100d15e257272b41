use Rattle.reed_solomon.proofs.syndromes.syndromes.Given as goal
use Rattle.std.proofs.Common.{◌≡◌}
use Rattle.field.specs.Field.{power}
use Rattle.field.specs.Polynomials.{value_at}
use Rattle.reed_solomon.proofs.Filling.{Filled}

abbrev pub invariant-loop-j : goal.invariant-loop-j
invariant-loop-j g l = Filled (λ j y. y ≡ value_at g.F.Field.field l.initial.octets (power g.F.Field.field j)) l.j l.out
