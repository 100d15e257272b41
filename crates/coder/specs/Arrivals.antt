-- What an arrival counts as. Assumes nothing.
use Rattle.std.specs.Prelude.{ℕ}
use Rattle.coder.specs.declared.arrival.Arrival.{Arrival}
use Rattle.coder.specs.declared.arrival.Arrival.TheVariants.{Octet, Lost}

-- the octet to decode; a lost one counts as 00
abbrev pub value_of : Arrival → ℕ
value_of (Octet o) = o
value_of Lost = 0
