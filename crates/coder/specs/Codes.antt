-- What a coder means: its sizes, the word of each message, and what decoding answers. Assumes nothing.
use Rattle.std.specs.Prelude.{◌≡◌, ℕ, ◌+◌, ◌*◌, ◌<◌, ◌≤◌, cond, ◌&&◌, ◌≢◌, List, [], ◌∷◌, length, Ok, Err, Result, ◌==◌, slice_index}
use Prim.{Unit, tt}
use Rattle.coder.specs.declared.misfit.Misfit.{Misfit}
use Rattle.coder.specs.declared.misfit.Misfit.TheVariants.{Frame, Line}
use Rattle.coder.specs.declared.undecoded.Undecoded.{Undecoded}
use Rattle.coder.specs.declared.undecoded.Undecoded.TheVariants.{Unfit, Lost}
use Rattle.coder.specs.Sizes.{Parameters}

pub record Code : Type 0 where
  pub sizes : Parameters
  pub word_of : List ℕ → List ℕ

-- every number of a list is an octet (past its end a list reads 0)
abbrev pub Octets : List ℕ → Type 0
Octets xs = (k : ℕ) → slice_index xs k < 256

-- a message of a code: K octets
pub record Message (c : Code) (m : List ℕ) : Type 0 where
  pub long : length m ≡ c.sizes.frame
  pub octets : Octets m

-- in how many places two words of the same length differ
unfoldable pub distance : List ℕ → List ℕ → ℕ
distance [] ys = 0
distance (x ∷ xs) [] = 0
distance (x ∷ xs) (y ∷ ys) = cond (x == y) 0 1 + distance xs ys

-- What a code owes.
pub record Sound (c : Code) : Type 0 where
  pub shortest : 3 ≤ c.sizes.frame
  pub frame_fits : c.sizes.frame ≤ c.sizes.word
  pub longest : c.sizes.word ≤ 255
  pub word_long : (m : List ℕ) → Message c m → length (c.word_of m) ≡ c.sizes.word
  pub word_octets : (m : List ℕ) → Message c m → Octets (c.word_of m)
  -- words of different messages differ in at least 2×t + 1 places
  pub apart : (a b : List ℕ) → Message c a → Message c b → a ≢ b → 2 * c.sizes.repairs + 1 ≤ distance (c.word_of a) (c.word_of b)

-- the refusal of a message or word buffer by its length: 5 before 6
abbrev pub of_sizes : (p : Parameters) (message word : List ℕ) → Result Unit Misfit
of_sizes p message word =
    cond (length message == p.frame) (cond (length word == p.word) (Ok tt) (Err Line)) (Err Frame)

abbrev pub fitting : (c : Code) (message word : List ℕ) → Result Unit Misfit
fitting c message word = of_sizes c.sizes message word

-- a word buffer after encoding: the word, or what it held where the lengths are refused
abbrev pub encoded : (c : Code) (message word : List ℕ) → List ℕ
encoded c message word =
    cond (length message == c.sizes.frame && length word == c.sizes.word) (c.word_of message) word

-- this message, at this distance: its word differs from the received one in d places, d at most t
pub record Near (c : Code) (received m : List ℕ) (d : ℕ) : Type 0 where
  pub message : Message c m
  pub differing : distance (c.word_of m) received ≡ d
  pub within : d ≤ c.sizes.repairs

-- no message's word is as near
abbrev pub NoneNear : (c : Code) (received : List ℕ) → Type 0
NoneNear c received = (m : List ℕ) → Message c m → c.sizes.repairs < distance (c.word_of m) received

-- What decoding answers, and the message buffer before and after. A loss or a refusal writes nothing.
abbrev pub Decoded : (c : Code) (received before after : List ℕ) → Result ℕ Undecoded → Type 0
Decoded c received before after (Ok d) = (fitting c before received ≡ Ok tt) × Near c received after d
Decoded c received before after (Err Lost) = (fitting c before received ≡ Ok tt) × NoneNear c received × (after ≡ before)
Decoded c received before after (Err (Unfit misfit)) = (fitting c before received ≡ Err misfit) × (after ≡ before)
