use Rattle.std.proofs.Common.{◌≡◌, take}
use Rattle.rs_algebra.specs.Words.{mend}
use Rattle.reed_solomon.specs.Repairs.{places_of, values_of}
use Rattle.reed_solomon.proofs.mending.mend_message.Given as goal

abbrev pub invariant-loop-term : goal.invariant-loop-term
invariant-loop-term l = l.message ≡ mend l.initial.message (take l.term-index (places_of l.initial.terms)) (take l.term-index (values_of l.initial.terms))
