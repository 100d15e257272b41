use Rattle.std.proofs.Common.{arith}
use Rattle.field.specs.Field.{power}
use Rattle.rs_algebra.proofs.Lists.{elements_within}
use Rattle.rs_algebra.proofs.Polynomials.{value_below}
use Rattle.reed_solomon.proofs.syndromes.syndromes.Goals as goal

pub returns-clause-elements : goal.returns-clause-elements
returns-clause-elements g c =
    let f = g.F.Field.field in
    let laws = g.met.F.Field.laws in
    elements_within f laws c.loop-j.out (λ j h. rw (c.loop-j.invariant j (omega arith)) (value_below f laws c.args.octets.now (power f j)))
