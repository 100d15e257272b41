-- The number of each refusal of a call, and the tests that calls of both ends share. Assumes nothing.
use Rattle.std.specs.Prelude.{ℕ, List, length, Ok, Err, Result, ◌==◌, nat_lt}
use Prim.{Unit, tt}
use Rattle.places.specs.Line.{Plan}
use Rattle.coder.specs.Codes.{Code}
use Rattle.coder.specs.Misfits.{misfit_number}
use Rattle.runs.specs.Senders.{unless, most_words, frame_fits, line_fits}
use Rattle.link.specs.declared.refused.Refused.{Refused}
use Rattle.link.specs.declared.refused.Refused.TheVariants.{PastLastWord, OutOfTurn, Unfit}

abbrev pub refused_number : Refused → ℕ
refused_number PastLastWord = 10
refused_number OutOfTurn = 11
refused_number (Unfit misfit) = misfit_number misfit

-- an answer by its number
abbrev pub told : {A : Type 0} → Result A Refused → Result A ℕ
told (Ok a) = Ok a
told (Err e) = Err (refused_number e)

-- refusal 7
abbrev pub memory_answer : {E : Type 0} → (room : ℕ) → (memory : List E) → Result (Unit {0}) ℕ
memory_answer room memory = unless (length memory == room) 7 (Ok tt)

-- a send or a receive: refusals 10, 5, 6
abbrev pub word_answer : {E : Type 0} → Plan → Code → (words : ℕ) → (frame : List ℕ) (line : List E) → Result (Unit {0}) ℕ
word_answer p c words frame line =
    unless (nat_lt words most_words) 10 (
    unless (frame_fits p c frame) 5 (
    unless (line_fits p c line) 6 (Ok tt)))

-- a drain or a fill: refusals 11, 6, 7
abbrev pub turn_answer : {E : Type 0} → Plan → (turns room : ℕ) → (memory line : List E) → Result (Unit {0}) ℕ
turn_answer p turns room memory line =
    unless (nat_lt turns p.lag) 11 (
    unless (length line == p.word) 6 (memory_answer room memory))
