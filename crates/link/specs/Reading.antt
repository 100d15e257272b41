-- What a gathered word gives, layer by layer. Assumes nothing.
use Rattle.std.specs.Prelude.{◌≡◌, ℕ, List, map, Ok, Err, Option, Result}
use Prim.{⊥, tt}
use Rattle.coder.specs.Arrivals.{value_of}
use Rattle.coder.specs.Codes.{Code, Near, NoneNear}
use Rattle.coder.specs.declared.arrival.Arrival.{Arrival}
use Rattle.setting.specs.Settings.{plan}
use Rattle.runs.specs.Receivers.{Gives, Received, delivered, marks_in, receive_answer}
use Rattle.runs.specs.Receivers as runs
use Rattle.link.specs.declared.loss.Cause.{Cause}
use Rattle.link.specs.declared.loss.Cause.TheVariants.{Coder, Scrambler}
use Rattle.link.specs.declared.receiver.Running.{Running}
use Rattle.link.specs.Losses.{answer_of}
use Rattle.link.specs.Receivers.{running, known_bits, lost_last}
use Rattle.scrambler.specs.declared.earlier.Earlier.{Earlier}

-- the message that a word gives
abbrev pub Messages : Code → (word : List Arrival) (message : List ℕ) → Result ℕ Cause → Type 0
Messages c word message (Ok repaired) = Near c (map value_of word) message repaired
Messages c word message (Err (Coder marks)) = NoneNear c (map value_of word) × (marks ≡ marks_in word)
Messages c word message (Err Scrambler) = ⊥

-- a receiver's state as far as a word's frame rests on it
abbrev pub descrambling : Option Earlier → runs.Running
descrambling earlier = record { earlier = known_bits earlier; words = 0; broken = lost_last earlier }

-- the frame that a word gives
abbrev pub Frames : Code → (s s' : runs.Running) (word : List Arrival) (frame frame' : List ℕ) → Result ℕ Cause → Type 0
Frames c s s' word frame frame' (Ok repaired) = Gives c s s' word (delivered repaired frame')
Frames c s s' word frame frame' (Err cause) = Gives c s s' word (answer_of cause) × (frame' ≡ frame)

-- a receive that is not refused
abbrev pub Accepts : Code → Running → (memory line : List Arrival) (frame : List ℕ) → Type 0
Accepts c s memory line frame = receive_answer (plan s.setting) c (running s) memory line frame ≡ Ok tt

-- and what it leaves
abbrev pub Takes : Code → (s s' : Running) (memory memory' line : List Arrival) (frame frame' : List ℕ) → Result ℕ Cause → Type 0
Takes c s s' memory memory' line frame frame' (Ok repaired) =
    Received (plan s.setting) c (running s) (running s') memory memory' line (delivered repaired frame')
Takes c s s' memory memory' line frame frame' (Err cause) =
    Received (plan s.setting) c (running s) (running s') memory memory' line (answer_of cause) × (frame' ≡ frame)
