use Rattle.std.proofs.Common.{◌≡◌, take}
use Rattle.field.specs.Polynomials.{value_at}
use Rattle.field.proofs.horner.horner.Given as goal

-- the sum stands for the value of the coefficients so far
abbrev pub invariant-loop-coefficient : goal.invariant-loop-coefficient
invariant-loop-coefficient g l =
    (g.F.Field.field.times 1 l.sum ≡ value_at g.F.Field.field (take l.coefficient-index l.initial.polynomial) l.initial.x)
    × (l.x ≡ l.initial.x)
    × (l.polynomial ≡ l.initial.polynomial)
