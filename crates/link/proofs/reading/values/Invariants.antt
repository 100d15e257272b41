use Rattle.std.proofs.Common.{◌≡◌, length, map, take}
use Rattle.coder.specs.Arrivals.{value_of}
use Rattle.link.proofs.reading.values.Given as goal

abbrev pub invariant-loop-place : goal.invariant-loop-place
invariant-loop-place l = (length l.octets ≡ 255) × (take l.place l.octets ≡ map value_of (take l.place l.word))
