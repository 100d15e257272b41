use Rattle.std.proofs.Common.{◌≡◌, ℕ, suc, ◌+◌, ◌-◌, ◌*◌, ◌^◌, ap, ◌∙◌, ap₂, pow-suc, arith, pow_pos}
use Rattle.field.specs.Field.{raised}
use Rattle.field.specs.Binary.{reduced_times, reduced_inverse}
use Rattle.field.specs.Powers.{power_add}
use Rattle.field.specs.Generators.{raisable}
use Rattle.field.specs.Octets.{octets_generated}
use Rattle.field.proofs.shifting.next_to_last_power.Goals as goal

pub loop-preserved : goal.loop-preserved
unfolding raised
loop-preserved c =
    let i : ℕ = c.loop.counter in
    let m : ℕ = 2 ^ i - 1 in
    let next : i + 1 ≡ suc i = omega arith in
    let long : 2 ^ (i + 1) ≡ 2 ^ i * 2 = ap (λ (x : ℕ). 2 ^ x) next ∙ pow-suc 2 i in
    let exponent : suc (m + m) ≡ 2 ^ (i + 1) - 1 = omega (arith, long, pow_pos i) in
    let square = ap₂ (reduced_times 8 29) c.loop.invariant.1 c.loop.invariant.1 ∙ power_add (raisable octets_generated) c.args.a m m in (
      omega (arith, c.loop-test.true),
      c.shift_and_add-power.ensures ∙ ap (reduced_times 8 29 c.args.a) (c.shift_and_add.ensures ∙ square)
          ∙ ap (raised (reduced_times 8 29) c.args.a) exponent,
    )

pub returns : goal.returns
unfolding reduced_inverse
returns c =
    let i : ℕ = c.loop.counter in
    let m : ℕ = 2 ^ i - 1 in
    let last : i ≡ 7 = omega (arith, c.loop.invariant.0, c.loop-test.false) in
    let long : 2 ^ i ≡ 128 = ap (λ (x : ℕ). 2 ^ x) last in
    let exponent : m + m ≡ 254 = omega (arith, long) in
    c.shift_and_add-2.ensures ∙ ap₂ (reduced_times 8 29) c.loop.invariant.1 c.loop.invariant.1
    ∙ power_add (raisable octets_generated) c.args.a m m ∙ ap (raised (reduced_times 8 29) c.args.a) exponent
