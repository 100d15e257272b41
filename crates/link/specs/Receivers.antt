-- What the calls of a receiver answer, over its states in the code. Assumes nothing.
use Rattle.std.specs.Prelude.{◌≡◌, ℕ, ◌+◌, Bool, true, false, List, replicate, Some, None, Option, Ok, Err, Result}
use Prim.{Unit, tt}
use Rattle.coder.specs.Codes.{Code}
use Rattle.coder.specs.declared.arrival.Arrival.{Arrival}
use Rattle.coder.specs.declared.arrival.Arrival.TheVariants.{Octet}
use Rattle.setting.specs.declared.setting.Setting.{Setting}
use Rattle.setting.specs.Settings.{plan}
use Rattle.scrambler.specs.declared.earlier.Earlier.{Earlier}
use Rattle.scrambler.specs.Scrambler.{opening}
use Rattle.scrambler.specs.States.{earlier_bits}
use Rattle.runs.specs.Receivers as runs
use Rattle.link.specs.declared.refused.Refused.{Refused}
use Rattle.link.specs.declared.loss.Unreceived.{Unreceived}
use Rattle.link.specs.declared.loss.Unreceived.TheVariants.{Refused as NotTaken, Lost}
use Rattle.link.specs.declared.receiver.Filling.{Filling}
use Rattle.link.specs.declared.receiver.Running.{Running}
use Rattle.link.specs.declared.given_back.GivenBack.{GivenBack}
use Rattle.link.specs.Refusals.{refused_number}
use Rattle.link.specs.Losses.{answer_of}

-- what a state keeps, besides its setting
abbrev pub filling : Filling → runs.Filling
filling s = record { filled = s.filled }

-- no earlier bits: the coder lost the last word, and the bits are taken for ones
abbrev pub known_bits : Option Earlier → List Bool
known_bits (Some earlier) = earlier_bits earlier
known_bits None = opening

abbrev pub lost_last : Option Earlier → Bool
lost_last (Some earlier) = false
lost_last None = true

abbrev pub running : Running → runs.Running
running s = record { earlier = known_bits s.earlier; words = s.words; broken = lost_last s.earlier }

-- open
abbrev pub Opens : Setting → (memory memory' : List Arrival) → Result Filling Refused → Type 0
Opens setting memory memory' (Ok s) =
    (runs.open_answer (plan setting) memory ≡ Ok tt) × (s.setting ≡ setting) × (filling s ≡ runs.opened)
    × (memory' ≡ replicate ((plan setting).memory + (plan setting).word) (Octet 0))
Opens setting memory memory' (Err e) = (runs.open_answer (plan setting) memory ≡ Err (refused_number e)) × (memory' ≡ memory)

-- fill
abbrev pub Fills : (s s' : Filling) (memory memory' line : List Arrival) → Result (Unit {0}) Refused → Type 0
Fills s s' memory memory' line (Ok _) =
    (runs.fill_answer (plan s.setting) (filling s) memory line ≡ Ok tt) × (s'.setting ≡ s.setting)
    × runs.Filled (plan s.setting) (filling s) (filling s') memory memory' line
Fills s s' memory memory' line (Err e) =
    (runs.fill_answer (plan s.setting) (filling s) memory line ≡ Err (refused_number e)) × (s' ≡ s) × (memory' ≡ memory)

-- start
abbrev pub Starts : Filling → Result Running (GivenBack Filling) → Type 0
Starts s (Ok s') =
    (runs.start_answer (plan s.setting) (filling s) ≡ Ok tt) × (s'.setting ≡ s.setting) × (running s' ≡ runs.started)
Starts s (Err back) = (runs.start_answer (plan s.setting) (filling s) ≡ Err (refused_number back.refused)) × (back.state ≡ s)

-- receive: a frame, a loss that names its word, or a refusal
abbrev pub Receives : Code → (s s' : Running) (memory memory' line : List Arrival) (frame frame' : List ℕ) → Result ℕ Unreceived → Type 0
Receives c s s' memory memory' line frame frame' (Ok repaired) =
    (runs.receive_answer (plan s.setting) c (running s) memory line frame ≡ Ok tt) × (s'.setting ≡ s.setting)
    × runs.Received (plan s.setting) c (running s) (running s') memory memory' line (runs.delivered repaired frame')
Receives c s s' memory memory' line frame frame' (Err (Lost loss)) =
    (runs.receive_answer (plan s.setting) c (running s) memory line frame ≡ Ok tt) × (s'.setting ≡ s.setting)
    × runs.Received (plan s.setting) c (running s) (running s') memory memory' line (answer_of loss.cause)
    × (loss.word ≡ s.words) × (frame' ≡ frame)
Receives c s s' memory memory' line frame frame' (Err (NotTaken e)) =
    (runs.receive_answer (plan s.setting) c (running s) memory line frame ≡ Err (refused_number e))
    × (s' ≡ s) × (memory' ≡ memory) × (frame' ≡ frame)
