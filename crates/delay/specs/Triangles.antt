-- How long the branches of a delay line are, where each lies in memory, and what waits in it. Assumes nothing.
use Rattle.std.specs.Prelude.{◌≡◌, ℕ, zero, suc, ◌+◌, ◌-◌, ◌*◌, ◌/◌, ◌%◌, ◌<◌, ◌≤◌, List, ◌++◌, take, drop, replicate}
use Rattle.delay.specs.declared.lengths.Lengths.{Lengths}
use Rattle.delay.specs.declared.lengths.Lengths.TheVariants.{Rising, Falling}
use Rattle.delay.specs.declared.triangle.Triangle.{Triangle}
use Rattle.delay.specs.Queues.{Alike, Bank}

-- the delay lines of sender and receiver, with block length I and step M
abbrev pub rising : (I M : ℕ) → Triangle
rising I M = record { block = I; step = M; lengths = Rising }

abbrev pub falling : (I M : ℕ) → Triangle
falling I M = record { block = I; step = M; lengths = Falling }

-- how many branches lie before branch j in memory, where the shortest lies first
abbrev pub rank_in : Lengths → (I j : ℕ) → ℕ
rank_in Rising I j = j
rank_in Falling I j = I - 1 - j

abbrev pub rank_of : Triangle → ℕ → ℕ
rank_of t j = rank_in t.lengths t.block j

-- n: branch j waits that many blocks
unfoldable pub wait_of : Triangle → ℕ → ℕ
wait_of t j = t.step * rank_of t j

-- P: all branches together
abbrev pub memory_of : Triangle → ℕ
memory_of t = t.step * t.block * (t.block - 1) / 2

-- d: from one end to the other
abbrev pub delay_of : Triangle → ℕ
delay_of t = t.step * (t.block - 1)

-- Each branch begins where the one before it ends, which is M elements shorter.
unfoldable pub start_at : (M rank : ℕ) → ℕ
start_at M zero = 0
start_at M (suc rank) = start_at M rank + M * rank

-- place k of memory belongs to branch j
abbrev pub Owns : Triangle → (j k : ℕ) → Type 0
Owns t j k = (start_at t.step (rank_of t j) ≤ k) × (k < start_at t.step (rank_of t j) + wait_of t j)

-- Each of the P places of memory belongs to just one branch, and no branch goes on behind them.
pub record Fills (t : Triangle) (P : ℕ) : Type 0 where
  pub owned : (k : ℕ) → k < P → (j : ℕ) × (j < t.block) × Owns t j k
  pub apart : (i j k : ℕ) → i < t.block → j < t.block → Owns t i k → Owns t j k → i ≡ j
  pub inside : (j : ℕ) → j < t.block → start_at t.step (rank_of t j) + wait_of t j ≤ P

-- the n elements from a place on
abbrev pub part : {E : Type 0} → (start n : ℕ) → List E → List E
part start n xs = take n (drop start xs)

-- a ring read from a place on, round to the element before it
unfoldable pub turned : {E : Type 0} → ℕ → List E → List E
turned at ring = drop at ring ++ take at ring

-- A branch is a ring. After as many blocks as the clock says its oldest element is where the clock points, modulo the
-- ring's length (a ring of length 0 holds nothing wherever it is read from).
unfoldable pub queue : {E : Type 0} → Triangle → (clock : ℕ) → List E → Bank E
queue t clock memory j = turned (clock % wait_of t j) (part (start_at t.step (rank_of t j)) (wait_of t j) memory)

-- each branch is full of the clearing element
abbrev pub Cleared : {E : Type 0} → Triangle → E → Bank E → Type 0
Cleared t empty bank = Alike t.block bank (λ j. replicate (wait_of t j) empty)
