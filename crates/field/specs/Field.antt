-- A finite field on the numbers below `size`. The sum of two elements is their exclusive-or. Assumes nothing.
use Rattle.std.specs.Prelude.{◌≡◌, ℕ, zero, suc, ◌-◌, ◌%◌, ◌<◌, ◌≤◌, bit_xor}

pub record Field : Type 0 where
  pub size : ℕ
  pub times : ℕ → ℕ → ℕ
  pub inverse : ℕ → ℕ
  pub alpha : ℕ

-- x to the power k
unfoldable pub raised : (ℕ → ℕ → ℕ) → (x k : ℕ) → ℕ
raised times x zero = 1
raised times x (suc k) = times x (raised times x k)

-- the powers of alpha
abbrev pub power : Field → ℕ → ℕ
power f k = raised f.times f.alpha k

-- What a field owes. A number that is no element stands for its remainder by size, so the laws of the product have no premise.
pub record Laws (f : Field) : Type 0 where
  pub at_least_four : 4 ≤ f.size
  pub at_most_octets : f.size ≤ 256
  pub sum_below : (a b : ℕ) → a < f.size → b < f.size → bit_xor a b < f.size
  pub times_below : (a b : ℕ) → f.times a b < f.size
  pub remainder_stands : (a b : ℕ) → f.times (a % f.size) b ≡ f.times a b
  pub associative : (a b c : ℕ) → f.times (f.times a b) c ≡ f.times a (f.times b c)
  pub commutative : (a b : ℕ) → f.times a b ≡ f.times b a
  pub distributive : (a b c : ℕ) → f.times a (bit_xor b c) ≡ bit_xor (f.times a b) (f.times a c)
  pub neutral : (a : ℕ) → a < f.size → f.times 1 a ≡ a
  pub inverse_below : (a : ℕ) → f.inverse a < f.size
  pub inverts : (a : ℕ) → 0 < a % f.size → f.times a (f.inverse a) ≡ 1
  pub nothing_inverts : (a : ℕ) → a % f.size ≡ 0 → f.inverse a ≡ 0
  pub alpha_below : f.alpha < f.size
  -- the powers 0 to n-2 of alpha are all the elements but 0, each once
  pub every_power : (a : ℕ) → 0 < a → a < f.size → (k : ℕ) × (k < f.size - 1) × (power f k ≡ a)
  pub powers_differ : (j k : ℕ) → j < f.size - 1 → k < f.size - 1 → power f j ≡ power f k → j ≡ k
