-- Lost marks counted by a test. Assumes nothing.
use Rattle.std.proofs.Common.{◌≡◌, ◌+◌, Bool, true, false, cond, List, [], ◌∷◌, refl, arith}
use Rattle.std.specs.List.{count_by}
use Rattle.std.proofs.lemmas.List.Recursion.{is_count_by}
use Rattle.coder.specs.declared.arrival.Arrival.{Arrival}
use Rattle.coder.specs.declared.arrival.Arrival.TheVariants.{Octet, Lost}
use Rattle.runs.specs.Receivers.{marks_in}

abbrev pub lost : Arrival → Bool
lost (Octet o) = false
lost Lost = true

first_mark : (x : Arrival) (xs : List Arrival) → marks_in (x ∷ xs) ≡ cond (lost x) (1 + marks_in xs) (marks_in xs)
unfolding marks_in
first_mark (Octet o) xs = refl
first_mark Lost xs = omega arith

pub no_marks : marks_in [] ≡ 0
unfolding marks_in
no_marks = refl

pub marks_counted : (word : List Arrival) → marks_in word ≡ count_by lost word
marks_counted = is_count_by marks_in lost no_marks first_mark
