-- The bits that a state holds. Assumes nothing.
use Rattle.std.specs.Prelude.{Bool, List}
use Rattle.scrambler.specs.declared.earlier.Earlier.{Earlier}
use Rattle.scrambler.specs.Bits.{bits_of}

-- the 23 earlier bits, oldest first
unfoldable pub earlier_bits : Earlier → List Bool
earlier_bits earlier = bits_of 23 earlier.bits
