use Rattle.std.proofs.Common.{◌≤◌, length, take}
use Rattle.reed_solomon.specs.Repairs.{places_of}
use Rattle.reed_solomon.specs.Roots.{RootPlaces}
use Rattle.reed_solomon.proofs.received.Received.root_places.Given as goal

-- the places so far
abbrev pub invariant-loop-place : goal.invariant-loop-place
invariant-loop-place g l =
    (l.count ≤ length l.initial.terms) × RootPlaces g.F.Field.field (length l.self.octets.now) l.initial.locator l.place (take l.count (places_of l.terms))
