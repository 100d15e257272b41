-- A setting as plain numbers, and where the octets of its words stand on the line. Assumes nothing.
use Rattle.std.specs.Prelude.{◌≡◌, ℕ, ◌+◌, ◌-◌, ◌*◌, ◌/◌, ◌%◌, ◌<◌, ◌≤◌}

-- The numbers of a setting. A frame of K octets becomes a word of N, of which t octets can be repaired; the word is cut
-- into q blocks of I octets, and branch j of the interleaver delays octet j of each block by M×j blocks.
pub record Plan : Type 0 where
  -- K, the octets of a frame
  pub frame : ℕ
  -- N, the octets of a word
  pub word : ℕ
  -- t, the octets of a word that can be repaired
  pub repairs : ℕ
  -- I, the octets of a block
  pub block : ℕ
  -- M, how many blocks each branch waits longer than the one before it
  pub step : ℕ
  -- q, the blocks of a word
  pub parts : ℕ
  -- P, the elements of delay memory at each end
  pub memory : ℕ
  -- d, the blocks from one end to the other
  pub delay : ℕ
  -- w, the words from one end to the other, the last one begun counting in full
  pub lag : ℕ
  -- Z, the line places from a word's first octet to its last
  pub reach : ℕ

-- octet j of block k of word c stands at this line place
abbrev pub spot : Plan → (c k j : ℕ) → ℕ
spot p c k j = (c * p.parts + k + p.step * j) * p.block + j

-- octet n of word c is octet n % I of its block n / I
unfoldable pub place : Plan → (c n : ℕ) → ℕ
place p c n = spot p c (n / p.block) (n % p.block)

-- How words lie on the line: word c as word 0 does, c×N places further on. Its octets stand on the Z places from c×N on,
-- the first octet on the first of them and the last on the last.
pub record Lies (p : Plan) : Type 0 where
  pub alike : (c n : ℕ) → place p c n ≡ c * p.word + place p 0 n
  pub between : (c n : ℕ) → n < p.word → (c * p.word ≤ place p c n) × (place p c n < c * p.word + p.reach)
  pub first : (c : ℕ) → place p c 0 ≡ c * p.word
  pub last : (c : ℕ) → place p c (p.word - 1) + 1 ≡ c * p.word + p.reach
