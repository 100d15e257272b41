use Rattle.std.proofs.Common.{◌≡◌, length, get_or}
use Rattle.rs_algebra.specs.Words.{ValueFor}
use Rattle.reed_solomon.specs.Repairs.{places_of, values_of}
use Rattle.reed_solomon.proofs.Filling.{Filled}
use Rattle.reed_solomon.proofs.received.Received.error_values.Given as goal

-- the terms so far have their values, and all keep their places
abbrev pub invariant-loop-i : goal.invariant-loop-i
invariant-loop-i g l =
    (places_of l.terms ≡ places_of l.initial.terms)
    × Filled
    (λ i value. ValueFor g.F.Field.field (length l.self.octets.now) (λ j. get_or l.syndromes j 0) (places_of l.initial.terms) (get_or (places_of l.initial.terms) i 0) value)
    l.i (values_of l.terms)
