-- How many octets of a word a stretch of the line holds, and the longest burst that a word rides out. Assumes nothing.
use Rattle.std.specs.Prelude.{ℕ, zero, suc, ◌+◌, ◌*◌, ◌/◌, ◌%◌, ◌<◌, ◌≤◌, Bool, cond, ◌&&◌, nat_le, nat_lt}
use Rattle.places.specs.Line.{Plan, place}

-- how many of the numbers below n pass a test
unfoldable pub tally : (ℕ → Bool) → ℕ → ℕ
tally test zero = 0
tally test (suc n) = tally test n + cond (test n) 1 0

-- whether x is one of the L places in a row that begin at a
unfoldable pub within : (a L x : ℕ) → Bool
within a L x = nat_le a x && nat_lt x (a + L)

-- how many octets of word c the L line places from a on hold
unfoldable pub held : Plan → (c a L : ℕ) → ℕ
held p c a L = tally (λ n. within a L (place p c n)) p.word

-- no L line places in a row hold more than e octets of one word
abbrev pub Spreads : Plan → (e L : ℕ) → Type 0
Spreads p e L = (c a : ℕ) → held p c a L ≤ e

-- B is the largest such L
pub record Longest (p : Plan) (e B : ℕ) : Type 0 where
  pub spreads : Spreads p e B
  pub largest : (L : ℕ) → Spreads p e L → L ≤ B

-- The burst limit: the longest stretch of the line that never holds more octets of one word than can be repaired.
abbrev pub BurstLimit : Plan → ℕ → Type 0
BurstLimit p B = Longest p p.repairs B

-- Of each word some B + 1 places in a row, between its first octet and its last, hold more than e octets.
abbrev pub Sharp : Plan → (e B : ℕ) → Type 0
Sharp p e B =
    (c : ℕ) → (a : ℕ) × (c * p.word ≤ a) × (a + B < c * p.word + p.reach) × (e < held p c a (B + 1))

-- what the longest stretch comes to where each branch waits at least a whole word longer than the one before it (M ≥ q):
-- f×(M×I + 1) + r×I, f the quotient and r the remainder of e by q
abbrev pub wide_limit : Plan → (e : ℕ) → ℕ
wide_limit p e = (e / p.parts) * (p.step * p.block + 1) + (e % p.parts) * p.block
