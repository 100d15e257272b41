use Rattle.std.proofs.Common.{◌≡◌, ◌+◌, length}
use Rattle.reed_solomon.specs.Locating.{Solve, held}
use Rattle.reed_solomon.proofs.locator.locator.Given as goal

-- as many vectors as coefficients, less one for each equation that they meet
abbrev pub invariant-loop-equation : goal.invariant-loop-equation
invariant-loop-equation g l =
    (l.vectors.width ≡ length l.locator)
    × (l.vectors.kept + l.equation ≡ length l.locator)
    × Solve g.F.Field.field (held l.syndromes) l.equation l.vectors
