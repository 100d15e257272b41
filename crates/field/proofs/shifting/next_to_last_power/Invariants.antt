use Rattle.std.proofs.Common.{◌≡◌, ◌-◌, ◌^◌, ◌≤◌}
use Rattle.field.specs.Field.{raised}
use Rattle.field.specs.Binary.{reduced_times}
use Rattle.field.proofs.shifting.next_to_last_power.Given as goal

abbrev pub invariant-loop : goal.invariant-loop
invariant-loop l = (l.counter ≤ 7) × (l.power ≡ raised (reduced_times 8 29) l.initial.a (2 ^ l.counter - 1))
