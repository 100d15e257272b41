-- A word of arrivals into a receiver's delay line, and a word completed by what leaves. Assumes nothing.
use Rattle.std.specs.Prelude.{◌≡◌, ℕ, ◌-◌, List, ◌++◌, length, take, drop}
use Rattle.coder.specs.declared.arrival.Arrival.{Arrival}
use Rattle.places.specs.Line.{Plan}
use Rattle.runs.specs.Receivers.{Delays, gathered, kept, delayed}

pub record Gathered (p : Plan) (clock : ℕ) (memory memory' line word : List Arrival) : Type 0 where
  pub delays : Delays p clock memory memory' line
  -- as many leave as enter
  pub long : length (delayed p clock memory line) ≡ p.word
  -- what was gathered before comes first
  pub completes : word ≡ gathered p (kept p p.lag) memory ++ take (p.word - kept p p.lag) (delayed p clock memory line)
  -- and the rest is gathered for the next word
  pub gathers : gathered p (kept p p.lag) memory' ≡ drop (p.word - kept p p.lag) (delayed p clock memory line)
