use Rattle.std.proofs.Common.{◌≡◌, [], take, set, ap, ◌∙◌, arith, rules, tests}
use Rattle.rs_algebra.specs.Polynomials.{zeros}
use Rattle.reed_solomon.proofs.Clearing.{unit_front}
use Rattle.reed_solomon.proofs.FromFn.{made}
use Rattle.reed_solomon.proofs.locator.vectors.Vectors.units.Goals as goal

pub returns-clause-units : goal.returns-clause-units
returns-clause-units c i h =
    ap (take c.args.width) (made _ _ (λ k row. row ≡ set (zeros 9) k 1) c.from_fn.result [] 9 (λ k y q l called. search (rules, tests)) c.from_fn.ensures.items i (omega arith))
    ∙ unit_front c.args.width 9 i c.requires
