use Rattle.std.proofs.Common.{◌≡◌, ◌≤◌}
use Rattle.field.specs.Field.{power}
use Rattle.field.specs.Binary.{octets}
use Rattle.field.proofs.shifting.repeated.Given as goal

abbrev pub invariant-loop : goal.invariant-loop
invariant-loop l = (l.counter ≤ l.k) × (l.power ≡ power octets l.counter)
