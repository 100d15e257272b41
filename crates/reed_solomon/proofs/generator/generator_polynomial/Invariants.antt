use Rattle.std.proofs.Common.{◌≡◌, ◌-◌, ◌≤◌, ◌++◌}
use Rattle.rs_algebra.specs.Polynomials.{zeros, generator}
use Rattle.reed_solomon.proofs.generator.generator_polynomial.Given as goal

abbrev pub invariant-loop-i : goal.invariant-loop-i
invariant-loop-i g l = (l.i ≤ 16) × (l.polynomial ≡ generator g.F.Field.field l.i ++ zeros (16 - l.i))
