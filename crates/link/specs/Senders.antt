-- What the calls of a sender answer, over its states in the code. Assumes nothing.
use Rattle.std.specs.Prelude.{◌≡◌, ℕ, List, replicate, Ok, Err, Result}
use Prim.{Unit, tt}
use Rattle.coder.specs.Codes.{Code}
use Rattle.setting.specs.declared.setting.Setting.{Setting}
use Rattle.setting.specs.Settings.{plan}
use Rattle.scrambler.specs.States.{earlier_bits}
use Rattle.runs.specs.Senders as runs
use Rattle.link.specs.declared.refused.Refused.{Refused}
use Rattle.link.specs.declared.sender.Sending.{Sending}
use Rattle.link.specs.declared.sender.Draining.{Draining}
use Rattle.link.specs.declared.given_back.GivenBack.{GivenBack}
use Rattle.link.specs.Refusals.{refused_number}

-- what a state keeps, besides its setting
abbrev pub sending : Sending → runs.Sending
sending s = record { earlier = earlier_bits s.earlier; words = s.words }

abbrev pub draining : Draining → runs.Draining
draining s = record { words = s.words; drained = s.drained }

-- open
abbrev pub Opens : Setting → (memory memory' : List ℕ) → Result Sending Refused → Type 0
Opens setting memory memory' (Ok s) =
    (runs.open_answer (plan setting) memory ≡ Ok tt) × (s.setting ≡ setting) × (sending s ≡ runs.opened)
    × (memory' ≡ replicate (plan setting).memory 0)
Opens setting memory memory' (Err e) = (runs.open_answer (plan setting) memory ≡ Err (refused_number e)) × (memory' ≡ memory)

-- send
abbrev pub Sends : Code → (s s' : Sending) (memory memory' frame line line' : List ℕ) → Result (Unit {0}) Refused → Type 0
Sends c s s' memory memory' frame line line' (Ok _) =
    (runs.send_answer (plan s.setting) c (sending s) memory frame line ≡ Ok tt) × (s'.setting ≡ s.setting)
    × runs.Sent (plan s.setting) c (sending s) (sending s') memory memory' frame line'
Sends c s s' memory memory' frame line line' (Err e) =
    (runs.send_answer (plan s.setting) c (sending s) memory frame line ≡ Err (refused_number e))
    × (s' ≡ s) × (memory' ≡ memory) × (line' ≡ line)

-- end
abbrev pub Ends : Sending → Draining → Type 0
Ends s s' = (s'.setting ≡ s.setting) × (draining s' ≡ runs.ended (sending s))

-- drain
abbrev pub Drains : (s s' : Draining) (memory memory' line line' : List ℕ) → Result (Unit {0}) Refused → Type 0
Drains s s' memory memory' line line' (Ok _) =
    (runs.drain_answer (plan s.setting) (draining s) memory line ≡ Ok tt) × (s'.setting ≡ s.setting)
    × runs.Drained (plan s.setting) (draining s) (draining s') memory memory' line'
Drains s s' memory memory' line line' (Err e) =
    (runs.drain_answer (plan s.setting) (draining s) memory line ≡ Err (refused_number e))
    × (s' ≡ s) × (memory' ≡ memory) × (line' ≡ line)

-- close
abbrev pub Closes : Draining → Result (Unit {0}) (GivenBack Draining) → Type 0
Closes s (Ok _) = runs.close_answer (plan s.setting) (draining s) ≡ Ok tt
Closes s (Err back) = (runs.close_answer (plan s.setting) (draining s) ≡ Err (refused_number back.refused)) × (back.state ≡ s)
