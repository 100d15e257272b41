-- What holds of every message that goes through the scrambler. Assumes nothing.
use Rattle.std.specs.Prelude.{◌≡◌, ℕ, ◌+◌, ◌-◌, ◌<◌, ◌≤◌, Bool, false, List, ◌++◌, length, drop, slice_index_or}
use Rattle.scrambler.specs.Bits.{◌⊕◌, message_bits, Octets}
use Rattle.scrambler.specs.Scrambler.{scrambled, descrambled, after}

-- bit n of a list of bits
abbrev pub bit : List Bool → ℕ → Bool
bit bits n = slice_index_or bits n false

-- x(n) = m(n) + x(n−18) + x(n−23) for each bit m(n) of a message. The 23 earlier bits come first on the line, so x(n) is
-- bit 23 + n of the line.
abbrev pub Sums : (line message : List Bool) → Type 0
Sums line message =
    (n : ℕ) → n < length message → bit line (23 + n) ≡ bit message n ⊕ bit line (23 + n - 18) ⊕ bit line (23 + n - 23)

abbrev pub Formula : (earlier : List Bool) (message sent : List ℕ) → Type 0
Formula earlier message sent = Sums (earlier ++ message_bits sent) (message_bits message)

-- After three octets or more the earlier bits are the same whatever they were before.
abbrev pub Renewed : (later : List Bool) (sent : List ℕ) → Type 0
Renewed later sent = 3 ≤ length sent → (earlier : List Bool) → after earlier sent ≡ later

-- A message scrambled with these bits earlier, and those later.
pub record Sending (earlier later : List Bool) (message sent : List ℕ) : Type 0 where
  pub formula : Formula earlier message sent
  -- a receiver with the same earlier bits has the message back, and then the sender's earlier bits again
  pub undone : descrambled earlier sent ≡ message
  pub alike : after earlier sent ≡ later
  pub renewed : Renewed later sent

-- Octets descrambled with these bits earlier, and those later.
pub record Receiving (earlier later : List Bool) (received message : List ℕ) : Type 0 where
  pub formula : Formula earlier message received
  -- from the same earlier bits the message would be sent as what was received
  pub redone : scrambled earlier message ≡ received
  -- and no other octets give that message
  pub alone : (other : List ℕ) → Octets other → descrambled earlier other ≡ message → other ≡ received
  pub renewed : Renewed later received
  -- a receiver with any other 23 earlier bits has all but the first three octets of the message right
  pub recovers : (others : List Bool) → length others ≡ 23 → drop 3 (descrambled others received) ≡ drop 3 message
