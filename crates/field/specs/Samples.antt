-- A worked example of the octets' product. Assumes nothing.
use Rattle.std.specs.Prelude.{◌≡◌}
use Rattle.field.specs.Binary.{octets}

-- hexadecimal 80 times 02 is 1D
abbrev pub ProductSample : Type 0
ProductSample = octets.times 128 2 ≡ 29
