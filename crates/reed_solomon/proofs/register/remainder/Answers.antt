use Rattle.std.proofs.Common.{◌≡◌, ℕ, ◌+◌, length, take, ◌∙◌, arith, length-take}
use Rattle.std.proofs.lemmas.List.{take-replicate}
use Rattle.reed_solomon.proofs.Registers.{none_passed, one_passed, all_passed}
use Rattle.reed_solomon.proofs.register.remainder.Goals as goal

pub loop-octet-init : goal.loop-octet-init
loop-octet-init g c =
    let R = length c.args.out.now in
    none_passed g.F.Field.field g.met.F.Field.laws (take (R + 1) c.generator_polynomial-coefficients.result) R c.args.message.now _
    (take-replicate (R + 1) 17 0 (omega arith))

pub loop-octet-preserved : goal.loop-octet-preserved
loop-octet-preserved g c =
    let R = length c.args.out.now in
    one_passed g.F.Field.field g.met.F.Field.laws (take (R + 1) c.generator_polynomial-coefficients.result) R c.args.message.now
    c.loop-octet.octet-index c.loop-octet.register c.feed.new.register c.loop-octet-test.true c.loop-octet.invariant c.feed.ensures

pub returns : goal.returns
returns g c =
    let R = length c.args.out.now in
    let size : length c.loop-octet.register ≡ R + 1 = omega (arith, c.loop-octet.auto.register, length-take {A = ℕ}) in
    c.copy_from_slice.ensures.after
    ∙ all_passed g.F.Field.field g.met.F.Field.laws (take (R + 1) c.generator_polynomial-coefficients.result) R c.args.message.now
    c.loop-octet.octet-index c.loop-octet.register c.loop-octet-test.false c.generator_polynomial-coefficients.ensures size c.loop-octet.invariant
