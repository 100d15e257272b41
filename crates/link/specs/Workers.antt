-- What the private parts of the calls ask and ensure. Assumes nothing.
use Rattle.std.specs.Prelude.{◌≡◌, ℕ, ◌≤◌, Bool, List, length}
use Rattle.coder.specs.Codes.{Code, Octets}
use Rattle.scrambler.specs.Scrambler.{scrambled, after}

-- a frame and a word have the coder's lengths, and none is above 255
abbrev pub FitsCoder : {E : Type 0} → Code → (frame : List ℕ) (word : List E) → Type 0
FitsCoder c frame word = (length frame ≡ c.sizes.frame) × (length word ≡ c.sizes.word) × (length frame ≤ 255) × (length word ≤ 255)

-- a frame is scrambled and coded
pub record Coded (c : Code) (earlier earlier' : List Bool) (frame word : List ℕ) : Type 0 where
  pub octets : Octets frame
  pub coded : word ≡ c.word_of (scrambled earlier frame)
  pub later : earlier' ≡ after earlier (scrambled earlier frame)
