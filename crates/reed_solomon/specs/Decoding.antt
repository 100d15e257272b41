-- What decoding over any field answers. Assumes nothing.
use Rattle.std.specs.Prelude.{◌≡◌, ℕ, ◌/◌, ◌<◌, ◌≤◌, List, length, Some, None, Option}
use Rattle.field.specs.Field.{Field}
use Rattle.rs_algebra.specs.Polynomials.{Elements}
use Rattle.rs_algebra.specs.Words.{word_of}
use Rattle.coder.specs.Codes.{distance}

-- a message of K elements whose word differs from the received one in d places, d at most R/2
pub record NearWord (f : Field) (K R : ℕ) (received m : List ℕ) (d : ℕ) : Type 0 where
  pub long : length m ≡ K
  pub elements : Elements f m
  pub differing : distance (word_of f R m) received ≡ d
  pub within : d ≤ R / 2

-- The answer to a received word of elements, and the message buffer before and after: such a message and its d, or nothing
-- where the word of every message differs in more places.
abbrev pub Answered : (f : Field) (K R : ℕ) (received before after : List ℕ) → Option ℕ → Type 0
Answered f K R received before after (Some d) = NearWord f K R received after d
Answered f K R received before after None =
    ((m : List ℕ) → length m ≡ K → Elements f m → R / 2 < distance (word_of f R m) received) × (after ≡ before)
