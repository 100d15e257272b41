-- The self-synchronising scrambler. Each sent bit is x(n) = m(n) + x(n−18) + x(n−23) modulo 2. Assumes nothing.
use Rattle.std.specs.Prelude.{◌≡◌, ℕ, ◌-◌, Bool, true, false, List, [], ◌∷◌, ◌++◌, length, drop, replicate, slice_index_or}
use Rattle.scrambler.specs.Bits.{◌⊕◌, message_bits, octets_of}

-- The last 23 bits of a list. Both ends keep the last 23 bits on the line, oldest first.
abbrev pub latest : List Bool → List Bool
latest bits = drop (length bits - 23) bits

-- x(n−18) + x(n−23): of the 23 bits before bit n, number 23−18 = 5 is x(n−18) and number 23−23 = 0 is x(n−23)
abbrev pub taps : (earlier : List Bool) → Bool
taps earlier = slice_index_or earlier (23 - 18) false ⊕ slice_index_or earlier (23 - 23) false

-- the bits to send for the bits of a message
unfoldable pub scrambled_bits : (earlier message : List Bool) → List Bool
scrambled_bits earlier [] = []
scrambled_bits earlier (m ∷ ms) = let x = m ⊕ taps earlier in x ∷ scrambled_bits (latest (earlier ++ x ∷ [])) ms

-- the bits of a message from the bits received: m(n) = x(n) + x(n−18) + x(n−23)
unfoldable pub descrambled_bits : (earlier received : List Bool) → List Bool
descrambled_bits earlier [] = []
descrambled_bits earlier (x ∷ xs) = (x ⊕ taps earlier) ∷ descrambled_bits (latest (earlier ++ x ∷ [])) xs

-- the octets to send for a message, the message from the octets received, and the earlier bits after octets on the line
unfoldable pub scrambled : (earlier : List Bool) (message : List ℕ) → List ℕ
scrambled earlier message = octets_of (length message) (scrambled_bits earlier (message_bits message))

unfoldable pub descrambled : (earlier : List Bool) (received : List ℕ) → List ℕ
descrambled earlier received = octets_of (length received) (descrambled_bits earlier (message_bits received))

unfoldable pub after : (earlier : List Bool) (sent : List ℕ) → List Bool
after earlier sent = latest (earlier ++ message_bits sent)

-- at opening the 23 earlier bits are ones
abbrev pub opening : List Bool
opening = replicate 23 true

-- four octets 0 are sent as 00 00 7C 00 from the opening on
abbrev pub Sample : Type 0
Sample = scrambled opening (0 ∷ 0 ∷ 0 ∷ 0 ∷ []) ≡ 0 ∷ 0 ∷ 124 ∷ 0 ∷ []
