-- The burst theorem: what a pair of ends promises for whole runs. Assumes nothing.
use Rattle.std.specs.Prelude.{◌≡◌, ℕ, zero, suc, ◌+◌, ◌*◌, ◌<◌, ◌≤◌, Bool, ◌≢◌, List, [], length, slice_index, slice_index_or}
use Rattle.places.specs.Line.{Plan, place}
use Rattle.places.specs.Limit.{BurstLimit}
use Rattle.coder.specs.declared.arrival.Arrival.{Arrival}
use Rattle.coder.specs.declared.arrival.Arrival.TheVariants.{Octet, Lost}
use Rattle.coder.specs.Codes.{Code}
use Rattle.scrambler.specs.Scrambler.{scrambled, after, opening}
use Rattle.runs.specs.Receivers.{Running, started, Answer, delivered, coder_loss, Gives}
use Rattle.runs.specs.Histories.{SenderRun, ClosedRun, ReceiverRun}

-- what was sent at a line place, what arrived there, frame number n, answer number n
abbrev pub sent_at : List ℕ → ℕ → ℕ
sent_at line i = slice_index line i

abbrev pub arrived_at : List Arrival → ℕ → Arrival
arrived_at arrivals i = slice_index_or arrivals i Lost

abbrev pub frame_at : List (List ℕ) → ℕ → List ℕ
frame_at frames n = slice_index_or frames n []

abbrev pub answer_at : List Answer → ℕ → Answer
answer_at answers n = slice_index_or answers n (coder_loss 0)

-- Place i is spoilt where another octet arrived, or none.
abbrev pub Spoilt : (line : List ℕ) (arrivals : List Arrival) (i : ℕ) → Type 0
Spoilt line arrivals i = arrived_at arrivals i ≢ Octet (sent_at line i)

-- The burst rule: of every Z arrivals in a row the spoilt ones lie within some B in a row.
abbrev pub BurstRule : Plan → (B : ℕ) (line : List ℕ) (arrivals : List Arrival) → Type 0
BurstRule p B line arrivals =
    (s : ℕ) → s + p.reach ≤ length arrivals
    → (b : ℕ) × ((i : ℕ) → s ≤ i → i < s + p.reach → Spoilt line arrivals i → (b ≤ i) × (i < b + B))

-- A sender and a receiver that share a setting and a coder. The arrivals meet the line octets in order from the first on, the last ones perhaps not yet.
pub record Run (p : Plan) (c : Code) (frames : List (List ℕ)) (line : List ℕ) (arrivals : List Arrival) (answers : List Answer) : Type 0 where
  pub sender : SenderRun p c frames line
  pub receiver : ReceiverRun p c arrivals answers
  pub met : length arrivals ≤ length line

-- A finished run: the sender is closed, and the receiver has met every line octet.
pub record FinishedRun (p : Plan) (c : Code) (frames : List (List ℕ)) (line : List ℕ) (arrivals : List Arrival) (answers : List Answer) : Type 0 where
  pub sender : ClosedRun p c frames line
  pub receiver : ReceiverRun p c arrivals answers
  pub met : length arrivals ≡ length line

-- Frames arrive: under the burst rule each accepted receive hands out the next frame sent, unaltered.
abbrev pub FramesArrive : Plan → Code → (B : ℕ) → Type 0
FramesArrive p c B =
    (frames : List (List ℕ)) (line : List ℕ) (arrivals : List Arrival) (answers : List Answer)
    → Run p c frames line arrivals answers → BurstRule p B line arrivals
    → (n : ℕ) → n < length answers
    → (n < length frames) × ((repaired : ℕ) × (answer_at answers n ≡ delivered repaired (frame_at frames n)))

-- Runs are told apart: under the burst rule finished runs with the same arrivals have the same frames.
abbrev pub ToldApart : Plan → Code → (B : ℕ) → Type 0
ToldApart p c B =
    (frames frames' : List (List ℕ)) (line line' : List ℕ) (arrivals : List Arrival) (answers answers' : List Answer)
    → FinishedRun p c frames line arrivals answers → BurstRule p B line arrivals
    → FinishedRun p c frames' line' arrivals answers' → BurstRule p B line' arrivals
    → frames ≡ frames'

-- Each octet of word n among the L places from a on arrives as an octet of another value, and every other octet as it was sent.
pub record Altered (p : Plan) (n a L : ℕ) (line : List ℕ) (arrivals : List Arrival) : Type 0 where
  pub there : (k : ℕ) → k < p.word → a ≤ place p n k → place p n k < a + L → place p n k < length arrivals
      → (o : ℕ) × (arrived_at arrivals (place p n k) ≡ Octet o) × (o ≢ sent_at line (place p n k))
  pub elsewhere : (i : ℕ) → i < length arrivals
      → ((k : ℕ) → k < p.word → a ≤ place p n k → place p n k < a + L → place p n k ≢ i)
      → arrived_at arrivals i ≡ Octet (sent_at line i)

-- The limit is sharp: each frame has B + 1 line places in a row, within its word's reach, such that its receive does not hand it out if its octets there
-- are altered.
abbrev pub SharpLimit : Plan → Code → (B : ℕ) → Type 0
SharpLimit p c B =
    (n : ℕ) → (a : ℕ) × (n * p.word ≤ a) × (a + B < n * p.word + p.reach)
    × ((frames : List (List ℕ)) (line : List ℕ) (arrivals : List Arrival) (answers : List Answer)
    → Run p c frames line arrivals answers → n < length frames → n < length answers → Altered p n a (B + 1) line arrivals
    → (repaired : ℕ) → answer_at answers n ≢ delivered repaired (frame_at frames n))

-- the scrambler's earlier bits before frame number n, and its word
unfoldable pub earlier_at : List (List ℕ) → ℕ → List Bool
earlier_at frames zero = opening
earlier_at frames (suc n) = after (earlier_at frames n) (scrambled (earlier_at frames n) (frame_at frames n))

abbrev pub word_at : Code → List (List ℕ) → ℕ → List ℕ
word_at c frames n = c.word_of (scrambled (earlier_at frames n) (frame_at frames n))

-- The line of a sender's run: octet k of word n stands at its place, and a place where no octet of a word sent so far stands holds 0.
pub record LineHolds (p : Plan) (c : Code) (frames : List (List ℕ)) (line : List ℕ) : Type 0 where
  pub words : (n k : ℕ) → n < length frames → k < p.word → place p n k < length line → sent_at line (place p n k) ≡ slice_index (word_at c frames n) k
  pub others : (i : ℕ) → ((n k : ℕ) → n < length frames → k < p.word → place p n k ≢ i) → sent_at line i ≡ 0

-- Answer n rests on the arrivals at the places of word n.
pub record AnswersRest (p : Plan) (c : Code) (arrivals : List Arrival) (answers : List Answer) : Type 0 where
  pub state : ℕ → Running
  pub first : state 0 ≡ started
  pub word : (n : ℕ) → List Arrival
  pub long : (n : ℕ) → n < length answers → length (word n) ≡ p.word
  pub met : (n k : ℕ) → n < length answers → k < p.word → place p n k < length arrivals
  pub made : (n k : ℕ) → n < length answers → k < p.word → slice_index_or (word n) k Lost ≡ arrived_at arrivals (place p n k)
  pub gives : (n : ℕ) → n < length answers → Gives c (state n) (state (suc n)) (word n) (answer_at answers n)

-- All of it. B is the largest stretch that no word is spoilt past repair by.
pub record RidesOut (p : Plan) (c : Code) (B : ℕ) : Type 0 where
  pub limit : BurstLimit p B
  pub line_holds : (frames : List (List ℕ)) (line : List ℕ) → SenderRun p c frames line → LineHolds p c frames line
  pub answers_rest : (arrivals : List Arrival) (answers : List Answer) → ReceiverRun p c arrivals answers → AnswersRest p c arrivals answers
  pub frames_arrive : FramesArrive p c B
  pub told_apart : ToldApart p c B
  pub sharp_limit : SharpLimit p c B
