-- Octets as bits, the least significant first. Assumes nothing.
use Rattle.std.specs.Prelude.{ℕ, zero, suc, ◌+◌, ◌*◌, ◌/◌, ◌%◌, ◌<◌, Bool, true, false, cond, not, List, [], ◌∷◌, ◌++◌, take, drop, ◌==◌}
use Rattle.std.specs.List.{AllByRecursion}

-- the sum of two bits modulo 2
infixl 65 ◌⊕◌
abbrev pub ◌⊕◌ : Bool → Bool → Bool
true ⊕ b = not b
false ⊕ b = b

-- the k lowest bits of a number
unfoldable pub bits_of : (k n : ℕ) → List Bool
bits_of zero n = []
bits_of (suc k) n = (n % 2 == 1) ∷ bits_of k (n / 2)

-- the number with these bits
unfoldable pub number_of : List Bool → ℕ
number_of [] = 0
number_of (b ∷ bs) = number_of bs * 2 + cond b 1 0

-- the bits of a message, octet after octet
unfoldable pub message_bits : List ℕ → List Bool
message_bits [] = []
message_bits (m ∷ ms) = bits_of 8 m ++ message_bits ms

-- the n octets that bits fill
unfoldable pub octets_of : (n : ℕ) → List Bool → List ℕ
octets_of zero bs = []
octets_of (suc n) bs = number_of (take 8 bs) ∷ octets_of n (drop 8 bs)

-- each number of a list is an octet
abbrev pub Octets : List ℕ → Type 0
Octets ms = AllByRecursion (λ m. m < 256) ms
