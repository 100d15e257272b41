use Rattle.std.proofs.Common.{◌≡◌, ◌+◌, ◌-◌, sym, ap, ◌∙◌, arith}
use Rattle.field.specs.Field.{power}
use Rattle.field.specs.Binary.{octets, doubled, times_bits, reduced_times}
use Rattle.field.specs.Generators.{listed, power_table, power_at, powers_around}
use Rattle.field.specs.Octets.{octets_generated}
use Rattle.field.proofs.table.power_of.Goals as goal

-- the table is the computed one
pub returns-then-k-lt255 : goal.returns-then-k-lt255
unfolding power_table listed doubled times_bits reduced_times
returns-then-k-lt255 c = power_at octets_generated c.args.k c.if-k-lt255.true

pub returns-else-k-lt255 : goal.returns-else-k-lt255
unfolding power_table listed doubled times_bits reduced_times
returns-else-k-lt255 c =
    let around : 255 + (c.args.k - 255) ≡ c.args.k = omega (arith, c.if-k-lt255.false) in
    power_at octets_generated (c.args.k - 255) (omega (arith, c.requires))
    ∙ sym (powers_around octets_generated (c.args.k - 255)) ∙ ap (power octets) around
