use Rattle.std.proofs.Common.{ℕ, sym, ap, ◌∙◌, arith}
use Rattle.field.specs.Binary.{octets}
use Rattle.field.specs.Octets.{octet_laws}
use Rattle.rs_algebra.specs.Words.{check_of}
use Rattle.rs_algebra.proofs.Division.{check_long, check_elements}
use Rattle.reed_solomon.proofs.rows.register.RowCoderChecks.check_octets.Goals as goal

pub returns : goal.returns
returns c =
    let R : ℕ = c.args.self.now.plain.check in
    let m = c.args.message.now in
    c.unpack.ensures (check_of octets R m) (check_elements octets octet_laws R m (λ k. (c.type_inv.message k).fits)) (omega (arith, check_long octets octet_laws R m))
    (check_long octets octet_laws R m ∙ sym c.requires) c.register_of.ensures
    ∙ ap (λ n. check_of octets n m) (sym c.requires)
