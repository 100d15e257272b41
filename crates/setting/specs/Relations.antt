-- How the numbers of a setting follow from the word's length N, the block length I and the step M. Assumes nothing.
use Rattle.std.specs.Prelude.{ℕ, ◌+◌, ◌-◌, ◌*◌, ◌/◌, ◌%◌, min}

-- a ÷ b, rounded up: one more than the quotient where something is left over
abbrev pub rounded_up : (a b : ℕ) → ℕ
rounded_up a b = a / b + min 1 (a % b)

-- P: branch j holds M×j elements, for each j below I
abbrev pub memory_of : (I M : ℕ) → ℕ
memory_of I M = M * I * (I - 1) / 2

-- d: both ends together delay each octet by M×(I−1) blocks
abbrev pub delay_of : (I M : ℕ) → ℕ
delay_of I M = M * (I - 1)

-- w: the delay in words of q blocks, a word begun counting in full
abbrev pub lag_of : (I M q : ℕ) → ℕ
lag_of I M q = rounded_up (delay_of I M) q

-- Z: the last octet of a word leaves M×(I−1) line blocks of I octets later than it would with no delay
abbrev pub reach_of : (I M N : ℕ) → ℕ
reach_of I M N = M * I * (I - 1) + N
