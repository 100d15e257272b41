use Rattle.std.proofs.Common.{◌≡◌, ℕ, ◌+◌, ◌/◌, length, sym, refl, ap, ◌∙◌, arith}
use Rattle.std.proofs.lemmas.Grind.{common_steps}
use Rattle.field.specs.Field.{power}
use Rattle.field.specs.Polynomials.{value_at}
use Rattle.reed_solomon.proofs.Nearness.{clean}
use Rattle.reed_solomon.proofs.Repairs.{answered}
use Rattle.reed_solomon.proofs.received.Received.decode_difference.Goals as goal

pub returns-then-is_zero : goal.returns-then-is_zero
returns-then-is_zero g c e =
    let d = c.args.difference.now in
    rw c.copy_from_slice.ensures.after
    (clean g.F.Field.field g.met.F.Field.laws (length c.args.message.now) (length d) c.args.self.now.octets.now d c.requires.difference_value (sym c.if-is_zero.ensures) c.requires.received_len e)

pub returns : goal.returns
returns g c e =
    let f = g.F.Field.field in
    let R : ℕ = length c.args.difference.now in
    let s = c.syndromes.new.out in
    let l = c.locator.new.locator in
    let s-long : length s ≡ R = grind (arith, common_steps, c.syndromes.auto.out) in
    let l-long : length l ≡ R / 2 + 1 = grind (arith, common_steps, c.locator.auto.locator) in
    answered f g.met.F.Field.laws (length c.args.message.now) R c.args.self.now.octets.now s l c.requires.received_len (omega (arith, c.requires.received_len, c.args.self.now.fits)) e s-long l-long
    (λ j h. c.syndromes.ensures.values j h ∙ ap (λ d. value_at f d (power f j)) c.requires.difference_value)
    c.args.message.now c.repair.new.message c.repair.result refl c.locator.ensures.elements
    (λ j h. c.locator.ensures.killed j (omega (arith, h, l-long))) c.repair.ensures
