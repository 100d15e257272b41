use Rattle.std.proofs.Common.{◌≡◌, ℕ, ◌<◌, get_or}
use Rattle.threefold.specs.Votes.{voted_at, whole}
use Rattle.threefold.proofs.threefold.Thirds.write_voted.Given as goal

abbrev pub invariant-loop-place : goal.invariant-loop-place
invariant-loop-place l = (k : ℕ) → k < l.place → get_or l.message k 0 ≡ voted_at l.self.coder.sizes.frame (whole l.self) k
