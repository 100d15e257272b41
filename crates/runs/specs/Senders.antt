-- What the calls of a sender answer, and what they leave. Assumes nothing.
use Rattle.std.specs.Prelude.{◌≡◌, ℕ, suc, ◌+◌, ◌*◌, Bool, cond, ◌&&◌, List, length, replicate, Ok, Err, Result, ◌==◌, nat_lt}
use Prim.{Unit, tt}
use Rattle.places.specs.Line.{Plan}
use Rattle.coder.specs.Codes.{Code, Octets}
use Rattle.scrambler.specs.Scrambler.{scrambled, after, opening}
use Rattle.delay.specs.Queues.{Bank, Alike}
use Rattle.delay.specs.Triangles.{rising, queue}
use Rattle.runs.specs.Blocks.{through, left}

-- the rest of the tests where one passes, else its refusal
abbrev pub unless : Bool → ℕ → Result (Unit {0}) ℕ → Result (Unit {0}) ℕ
unless passes number others = cond passes others (Err number)

-- a run has at most this many words
abbrev pub most_words : ℕ
most_words = 1000000

-- 5: a frame, or a coder's, is not of the setting's size; 6: a line buffer, or a coder's word, is not; 7: a memory is not
abbrev pub frame_fits : Plan → Code → (frame : List ℕ) → Bool
frame_fits p c frame = length frame == p.frame && (c.sizes.frame == p.frame && c.sizes.repairs == p.repairs)

abbrev pub line_fits : {E : Type 0} → Plan → Code → (line : List E) → Bool
line_fits p c line = length line == p.word && c.sizes.word == p.word

-- What a sender keeps while it sends: the scrambler's earlier bits, and how many words were sent.
pub record Sending : Type 0 where
  pub earlier : List Bool
  pub words : ℕ

-- what it keeps afterwards: how many words were sent, and how many drains there were
pub record Draining : Type 0 where
  pub words : ℕ
  pub drained : ℕ

-- the branches of the sender's interleaver, after as many blocks as the clock says
abbrev pub senders_bank : Plan → (clock : ℕ) → List ℕ → Bank ℕ
senders_bank p clock memory = queue (rising p.block p.step) clock memory

-- N octets enter the interleaver: N line octets leave, and the rest waits
pub record Interleaves (p : Plan) (clock : ℕ) (memory memory' entering line : List ℕ) : Type 0 where
  pub line_octets : line ≡ through p.block p.parts (senders_bank p clock memory) entering
  pub waits : Alike p.block (senders_bank p (clock + p.parts) memory') (left p.block p.parts (senders_bank p clock memory) entering)
  pub size : length memory' ≡ length memory

-- open: refusal 7; else every octet of memory is 0, and the earlier bits are ones
abbrev pub open_answer : Plan → (memory : List ℕ) → Result (Unit {0}) ℕ
open_answer p memory = unless (length memory == p.memory) 7 (Ok tt)

abbrev pub opened : Sending
opened = record { earlier = opening; words = 0 }

-- send: refusals 10, 5, 6, 7, the first that holds
abbrev pub send_answer : Plan → Code → Sending → (memory frame line : List ℕ) → Result (Unit {0}) ℕ
send_answer p c s memory frame line =
    unless (nat_lt s.words most_words) 10 (
    unless (frame_fits p c frame) 5 (
    unless (line_fits p c line) 6 (
    unless (length memory == p.memory) 7 (Ok tt))))

-- an accepted send: the frame is scrambled and coded, and its word enters the interleaver
pub record Sent (p : Plan) (c : Code) (s s' : Sending) (memory memory' frame line : List ℕ) : Type 0 where
  pub octets : Octets frame
  pub interleaves : Interleaves p (s.words * p.parts) memory memory' (c.word_of (scrambled s.earlier frame)) line
  pub earlier : s'.earlier ≡ after s.earlier (scrambled s.earlier frame)
  pub words : s'.words ≡ suc s.words

-- end: it keeps the number of words
abbrev pub ended : Sending → Draining
ended s = record { words = s.words; drained = 0 }

-- drain: refusals 11, 6, 7
abbrev pub drain_answer : Plan → Draining → (memory line : List ℕ) → Result (Unit {0}) ℕ
drain_answer p s memory line =
    unless (nat_lt s.drained p.lag) 11 (
    unless (length line == p.word) 6 (
    unless (length memory == p.memory) 7 (Ok tt)))

-- an accepted drain: zeros enter the interleaver, not the scrambler
pub record Drained (p : Plan) (s s' : Draining) (memory memory' line : List ℕ) : Type 0 where
  pub interleaves : Interleaves p ((s.words + s.drained) * p.parts) memory memory' (replicate p.word 0) line
  pub words : s'.words ≡ s.words
  pub drained : s'.drained ≡ suc s.drained

-- close: refusal 11 while drains remain
abbrev pub close_answer : Plan → Draining → Result (Unit {0}) ℕ
close_answer p s = unless (s.drained == p.lag) 11 (Ok tt)
