use Rattle.std.proofs.Common.{take}
use Rattle.reed_solomon.specs.Repairs.{places_of}
use Rattle.reed_solomon.proofs.Elsewhere.{Holding}
use Rattle.reed_solomon.proofs.terms.Pattern.vanishing_elsewhere.Given as goal

-- the polynomial for the places so far
abbrev pub invariant-loop-other : goal.invariant-loop-other
invariant-loop-other g l = Holding g.F.Field.field g.met.F.Field.laws l.self.word l.place (take l.other-index (places_of l.self.terms.now)) l.polynomial
