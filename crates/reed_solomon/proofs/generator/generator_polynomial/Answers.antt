use Rattle.std.proofs.Common.{◌≡◌, ℕ, ◌-◌, [], ◌∷◌, ◌++◌, length, sym, refl, ap, ◌∙◌, arith}
use Rattle.rs_algebra.specs.Polynomials.{zeros, product, generator}
use Rattle.reed_solomon.proofs.Generators.{next_root, room_for, generator-front}
use Rattle.reed_solomon.proofs.generator.generator_polynomial.Goals as goal

pub loop-i-init : goal.loop-i-init
unfolding generator
loop-i-init g c = (omega arith, refl)

pub slice_bounds-add_root-end : goal.slice_bounds-add_root-end
slice_bounds-add_root-end g c =
    let inv = c.loop-i.invariant in
    sym (ap length inv.1 ∙ room_for g.F.Field.field g.met.F.Field.laws 16 c.loop-i.i inv.0)

pub loop-i-preserved : goal.loop-i-preserved
loop-i-preserved g c =
    let f = g.F.Field.field in
    let i : ℕ = c.loop-i.i in (
      omega (arith, c.requires),
      next_root f g.met.F.Field.laws 16 i c.loop-i.polynomial c.add_root.new.polynomial (omega (arith, c.requires)) c.loop-i.invariant.1
          (λ p r e is. c.add_root.ensures p r e is ∙ ap (λ a. product f p (1 ∷ a ∷ []) ++ zeros r) c.root.ensures),
    )

pub returns : goal.returns
returns g c =
    let f = g.F.Field.field in
    let i : ℕ = c.loop-i.i in
    let last : c.args.check ≡ i = omega (arith, c.loop-i.auto.i-end, c.loop-i-test.false) in
    let at : c.loop-i.polynomial ≡ generator f c.args.check ++ zeros (16 - c.args.check)
    = rw last c.loop-i.invariant.1 in
    generator-front f g.met.F.Field.laws 16 c.args.check c.loop-i.polynomial at
