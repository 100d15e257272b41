use Rattle.std.proofs.Common.{sym, ap, ◌∙◌}
use Rattle.field.specs.Binary.{octets, reduced_times}
use Rattle.field.proofs.Facts.{times_zero, zero_times}
use Rattle.field.specs.Octets.{octet_laws}
use Rattle.field.proofs.table.by_logarithms.Goals as goal
use Rattle.field.proofs.table.by_logarithms.Goals.{then-a-eq0-via-then-a-eq0, then-a-eq0-via-else-a-eq0+then-b-eq0}

pub returns-then-a-eq0 : goal.returns-then-a-eq0
returns-then-a-eq0 c =
    elim c.then-a-eq0.branch [
      | then-a-eq0-via-then-a-eq0 w ↦ sym (ap (λ x. reduced_times 8 29 x c.args.b) w.if-a-eq0.true ∙ zero_times octets octet_laws c.args.b)
      | then-a-eq0-via-else-a-eq0+then-b-eq0 w ↦ sym (ap (reduced_times 8 29 c.args.a) w.if-b-eq0.true ∙ times_zero octets octet_laws c.args.a)
    ]
