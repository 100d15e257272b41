-- The message that most copies of a received word speak for: words of the private functions, no public contract cites them.
-- Assumes nothing.
use Rattle.std.specs.Prelude.{ℕ, ◌+◌, ◌*◌, ◌<◌, ◌≤◌, cond, List, ◌++◌, map, sum, ◌==◌, slice_index}
use Rattle.std.specs.List.{range_with_len, zip}
use Rattle.coder.specs.Codes.{Near, NoneNear}
use Rattle.threefold.specs.declared.threefold.Threefold.{Threefold}
use Rattle.threefold.specs.declared.threefold.Thirds.{Thirds}
use Rattle.threefold.specs.Threefold.{threefold_code}

-- of three octets the one that two of them are; the first where all differ
abbrev pub majority_of : (a b c : ℕ) → ℕ
majority_of a b c = cond (b == c) b a

-- how many of three octets are not x
abbrev pub others : (a b c x : ℕ) → ℕ
others a b c x = cond (x == a) 0 1 + cond (x == b) 0 1 + cond (x == c) 0 1

-- and how many are not their majority
abbrev pub odd_of : (a b c : ℕ) → ℕ
odd_of a b c = others a b c (majority_of a b c)

-- and in three copies of a message, octet by octet
abbrev pub odds_of : (first second third : List ℕ) → ℕ
odds_of first second third = sum (map (λ p. odd_of p.0.0 p.0.1 p.1) (zip (zip first second) third))

-- octet i of the message by the three copies of it
abbrev pub voted_at : (K : ℕ) (received : List ℕ) → ℕ → ℕ
voted_at K received i = majority_of (slice_index received i) (slice_index received (K + i)) (slice_index received (2 * K + i))

unfoldable pub voted : (K : ℕ) (received : List ℕ) → List ℕ
voted K received = map (voted_at K received) (range_with_len 0 K)

-- the received word whose copies these are
abbrev pub whole : Thirds → List ℕ
whole c = c.first.now ++ c.second.now ++ c.third.now

-- What the number of octets tells that differ from the voted message's word: it is near, or no message is.
pub record Judged (coder : Threefold) (received : List ℕ) (faults : ℕ) : Type 0 where
  pub near : faults ≤ coder.sizes.repairs → Near (threefold_code coder) received (voted coder.sizes.frame received) faults
  pub far : coder.sizes.repairs < faults → NoneNear (threefold_code coder) received
