-- The bits of a state. Assumes nothing.
use Rattle.std.proofs.Common.{◌≡◌, length, sym, ap, ◌∙◌}
use Rattle.scrambler.specs.declared.earlier.Earlier.{Earlier}
use Rattle.scrambler.specs.Bits.{bits_of, number_of}
use Rattle.scrambler.specs.Scrambler.{opening}
use Rattle.scrambler.specs.States.{earlier_bits}
use Rattle.scrambler.proofs.Bits.{length-bits, number_of_bits}

pub held-bits : (s : Earlier) → length (earlier_bits s) ≡ 23
unfolding earlier_bits
held-bits s = length-bits 23 s.bits

pub all_set : (s : Earlier) → s.bits ≡ 8388607 → earlier_bits s ≡ opening
unfolding earlier_bits bits_of
all_set s is = rw is

-- the bits tell the state
pub number_held : (s : Earlier) → s.bits ≡ number_of (earlier_bits s)
unfolding earlier_bits
number_held s = sym (number_of_bits 23 s.bits s.held)

pub same_state : (s t : Earlier) → earlier_bits s ≡ earlier_bits t → s.bits ≡ t.bits
same_state s t e = number_held s ∙ ap number_of e ∙ sym (number_held t)
