use Rattle.std.proofs.Common.{◌≡◌, ◌-◌, ◌≤◌}
use lib.Bits.{bit_xor}
use Rattle.field.specs.Binary.{times_bits}
use Rattle.field.proofs.shifting.shift_and_add.Given as goal

-- what was added, and what is still to be added
abbrev pub invariant-loop : goal.invariant-loop
invariant-loop l = (l.counter ≤ 8)
    × (bit_xor l.sum (times_bits 8 29 (8 - l.counter) l.shifted l.left) ≡ times_bits 8 29 8 l.initial.shifted l.initial.left)
