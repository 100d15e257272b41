use Rattle.std.proofs.Common.{◌≡◌, ℕ, ◌+◌, ◌-◌, sym, ap, ◌∙◌, ap₂, arith}
use Rattle.field.specs.Field.{power, raised}
use Rattle.field.specs.Binary.{octets, reduced_times}
use Rattle.field.proofs.Facts.{inverse_unique}
use Rattle.field.specs.Generators.{powers_add, powers_around}
use Rattle.field.specs.Octets.{octets_generated, octet_laws}
use Rattle.field.proofs.table.power_back.Goals as goal

pub returns : goal.returns
unfolding raised
returns c =
    let log : ℕ = c.logarithm.result in
    let whole : log + (255 - log) ≡ 255 + 0 = omega (arith, c.logarithm.ensures.below) in
    let one : reduced_times 8 29 c.args.a c.power_of.result ≡ 1 =
    ap₂ (reduced_times 8 29) (sym c.logarithm.ensures.undone) c.power_of.ensures ∙ powers_add octets_generated log (255 - log)
    ∙ ap (power octets) whole ∙ powers_around octets_generated 0 in
    inverse_unique octets octet_laws c.args.a c.power_of.result c.power_of.type_inv one
