-- What the calls of a receiver answer, and what they leave. Assumes nothing.
use Rattle.std.specs.Prelude.{◌≡◌, ℕ, suc, ◌+◌, ◌-◌, ◌*◌, Bool, true, false, List, [], ◌∷◌, ◌++◌, map, length, take, drop, Ok, Result, ◌==◌, nat_lt}
use Prim.{Unit, tt}
use Rattle.places.specs.Line.{Plan}
use Rattle.coder.specs.declared.arrival.Arrival.{Arrival}
use Rattle.coder.specs.declared.arrival.Arrival.TheVariants.{Octet, Lost}
use Rattle.coder.specs.Arrivals.{value_of}
use Rattle.coder.specs.Codes.{Code, Near, NoneNear}
use Rattle.scrambler.specs.Scrambler.{descrambled, after, opening}
use Rattle.delay.specs.Queues.{Bank, Alike}
use Rattle.delay.specs.Triangles.{falling, queue}
use Rattle.runs.specs.Blocks.{through, left}
use Rattle.runs.specs.Senders.{unless, most_words, frame_fits, line_fits}

-- What a receiver keeps while it fills: how many fills there were.
pub record Filling : Type 0 where
  pub filled : ℕ

-- what it keeps while it runs: the scrambler's earlier bits, how many words were received, whether the last of them was lost by the coder
pub record Running : Type 0 where
  pub earlier : List Bool
  pub words : ℕ
  pub broken : Bool

-- One memory of P + N arrivals: the branches of the delay line, and the word being gathered.
abbrev pub receivers_bank : Plan → (clock : ℕ) → List Arrival → Bank Arrival
receivers_bank p clock memory = queue (falling p.block p.step) clock (take p.memory memory)

-- The d first blocks from the delay line are thrown away. Of f words from it this many arrivals are kept, all of one word while filling.
abbrev pub kept : Plan → (f : ℕ) → ℕ
kept p f = (f * p.parts - p.delay) * p.block

-- what is gathered of a word, in order, when so many arrivals were kept
abbrev pub gathered : Plan → (count : ℕ) → List Arrival → List Arrival
gathered p count memory = take count (drop p.memory memory)

-- what leaves the delay line while N arrivals enter it
abbrev pub delayed : Plan → (clock : ℕ) (memory line : List Arrival) → List Arrival
delayed p clock memory line = through p.block p.parts (receivers_bank p clock memory) line

-- N arrivals enter the delay line, and the rest waits
pub record Delays (p : Plan) (clock : ℕ) (memory memory' line : List Arrival) : Type 0 where
  pub waits : Alike p.block (receivers_bank p (clock + p.parts) memory') (left p.block p.parts (receivers_bank p clock memory) line)
  pub size : length memory' ≡ length memory

-- open: refusal 7; else every arrival of memory is the octet 0
abbrev pub open_answer : Plan → (memory : List Arrival) → Result (Unit {0}) ℕ
open_answer p memory = unless (length memory == p.memory + p.word) 7 (Ok tt)

abbrev pub opened : Filling
opened = record { filled = 0 }

-- fill: refusals 11, 6, 7
abbrev pub fill_answer : Plan → Filling → (memory line : List Arrival) → Result (Unit {0}) ℕ
fill_answer p s memory line =
    unless (nat_lt s.filled p.lag) 11 (
    unless (length line == p.word) 6 (
    unless (length memory == p.memory + p.word) 7 (Ok tt)))

-- an accepted fill: what leaves the delay line after its d first blocks is gathered
pub record Filled (p : Plan) (s s' : Filling) (memory memory' line : List Arrival) : Type 0 where
  pub delays : Delays p (s.filled * p.parts) memory memory' line
  pub gathers : gathered p (kept p (suc s.filled)) memory'
      ≡ gathered p (kept p s.filled) memory
      ++ drop (p.word - (kept p (suc s.filled) - kept p s.filled)) (delayed p (s.filled * p.parts) memory line)
  pub filled : s'.filled ≡ suc s.filled

-- start: refusal 11 while fills remain
abbrev pub start_answer : Plan → Filling → Result (Unit {0}) ℕ
start_answer p s = unless (s.filled == p.lag) 11 (Ok tt)

abbrev pub started : Running
started = record { earlier = opening; words = 0; broken = false }

-- What a receive hands out: a frame and the number of repaired places, or a loss. Loss 8 has the count of lost marks in its word.
pub data Answer : Type 0 where
  delivered : (repaired : ℕ) (frame : List ℕ) → Answer
  coder_loss : (marks : ℕ) → Answer
  scrambler_loss : Answer

-- the number of a loss
abbrev pub loss_number : Answer → ℕ
loss_number (delivered repaired frame) = 0
loss_number (coder_loss marks) = 8
loss_number scrambler_loss = 9

-- how many of a word's arrivals are marked lost
unfoldable pub marks_in : List Arrival → ℕ
marks_in [] = 0
marks_in (Octet o ∷ word) = marks_in word
marks_in (Lost ∷ word) = suc (marks_in word)

-- What a gathered word gives. Loss 8: no message is near; the earlier bits are ones then. Loss 9: a message is near, but the word before was loss
-- 8; the message renews the earlier bits.
abbrev pub Gives : Code → (s s' : Running) (word : List Arrival) → Answer → Type 0
Gives c s s' word (delivered repaired frame) =
    (m : List ℕ) × Near c (map value_of word) m repaired × (frame ≡ descrambled s.earlier m)
    × (s.broken ≡ false) × (s'.broken ≡ false) × (s'.earlier ≡ after s.earlier m)
Gives c s s' word (coder_loss marks) =
    NoneNear c (map value_of word) × (marks ≡ marks_in word) × (s'.broken ≡ true) × (s'.earlier ≡ opening)
Gives c s s' word scrambler_loss =
    (m : List ℕ) × (d : ℕ) × Near c (map value_of word) m d
    × (s.broken ≡ true) × (s'.broken ≡ false) × (s'.earlier ≡ after s.earlier m)

-- receive: refusals 10, 5, 6, 7
abbrev pub receive_answer : Plan → Code → Running → (memory line : List Arrival) (frame : List ℕ) → Result (Unit {0}) ℕ
receive_answer p c s memory line frame =
    unless (nat_lt s.words most_words) 10 (
    unless (frame_fits p c frame) 5 (
    unless (line_fits p c line) 6 (
    unless (length memory == p.memory + p.word) 7 (Ok tt))))

-- the word that a receive completes: what was gathered, and the first of what leaves the delay line
abbrev pub completed : Plan → Running → (memory line : List Arrival) → List Arrival
completed p s memory line =
    gathered p (kept p p.lag) memory ++ take (p.word - kept p p.lag) (delayed p ((p.lag + s.words) * p.parts) memory line)

-- an accepted receive: the word is completed and decoded, and what leaves after it is gathered for the next
pub record Received (p : Plan) (c : Code) (s s' : Running) (memory memory' line : List Arrival) (answer : Answer) : Type 0 where
  pub delays : Delays p ((p.lag + s.words) * p.parts) memory memory' line
  pub gathers : gathered p (kept p p.lag) memory'
      ≡ drop (p.word - kept p p.lag) (delayed p ((p.lag + s.words) * p.parts) memory line)
  pub gives : Gives c s s' (completed p s memory line) answer
  pub words : s'.words ≡ suc s.words
