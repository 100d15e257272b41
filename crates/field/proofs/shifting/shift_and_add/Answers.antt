use Rattle.std.proofs.Common.{◌≡◌, ℕ, suc, ◌+◌, ◌-◌, ◌*◌, ◌/◌, ◌%◌, sym, ap, ◌∙◌, ap₂, mod-eq_of_lt, arith}
use lib.Bits.{bit_xor, xor_assoc, xor_zero_r}
use Rattle.field.specs.Binary.{doubled, times_bits, reduced_times}
use Rattle.field.specs.Products.{none, once, bits-step}
use Rattle.field.proofs.shifting.shift_and_add.Goals as goal
use Rattle.field.proofs.shifting.shift_and_add.Goals.{then-left-eq1, else-left-eq1}

pub loop-preserved : goal.loop-preserved
loop-preserved c =
    let i : ℕ = c.loop.counter in
    let a : ℕ = c.loop.shifted in
    let b : ℕ = c.loop.left in
    let bits : 8 - i ≡ suc (8 - (i + 1)) = omega (arith, c.loop-test.true) in
    let rest : ℕ = times_bits 8 29 (8 - (i + 1)) (doubled 8 29 a) (b / 2) in
    let step : times_bits 8 29 (8 - i) a b ≡ bit_xor (b % 2 * a) rest = ap (λ n. times_bits 8 29 n a b) bits ∙ bits-step 8 29 (8 - (i + 1)) a b in
    let sum : c.if-left-eq1.sum ≡ bit_xor c.loop.sum (b % 2 * a) = elim c.if-left-eq1.branch [
      | then-left-eq1 w ↦ w.sum-is ∙ ap (bit_xor c.loop.sum) (sym (ap (λ (x : ℕ). x * a) w.if-left-eq1.true ∙ once a))
      | else-left-eq1 w ↦
          let even : b % 2 ≡ 0 = omega (arith, w.if-left-eq1.false) in
          w.sum-is ∙ sym (ap (bit_xor c.loop.sum) (ap (λ (x : ℕ). x * a) even ∙ none a) ∙ xor_zero_r c.loop.sum)
    ] in (
      omega (arith, c.loop-test.true),
      ap₂ bit_xor sum (ap (λ x. times_bits 8 29 (8 - (i + 1)) x (b / 2)) c.double-shifted.ensures)
          ∙ xor_assoc c.loop.sum (b % 2 * a) rest ∙ ap (bit_xor c.loop.sum) (sym step) ∙ c.loop.invariant.1,
    )

pub returns : goal.returns
unfolding reduced_times times_bits
returns c =
    let none : 8 - c.loop.counter ≡ 0 = omega (arith, c.loop-test.false) in
    sym (xor_zero_r c.loop.sum) ∙ ap (λ n. bit_xor c.loop.sum (times_bits 8 29 n c.loop.shifted c.loop.left)) (sym none)
    ∙ c.loop.invariant.1 ∙ sym (ap₂ (times_bits 8 29 8) (mod-eq_of_lt c.ranges.a.fits) (mod-eq_of_lt c.ranges.b.fits))
