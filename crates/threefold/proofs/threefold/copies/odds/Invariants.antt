use Rattle.std.proofs.Common.{◌≡◌, ◌*◌, ◌≤◌, take}
use Rattle.threefold.specs.Votes.{odds_of}
use Rattle.threefold.proofs.threefold.copies.odds.Given as goal

abbrev pub invariant-loop-place : goal.invariant-loop-place
invariant-loop-place l =
    (l.odds ≡ odds_of (take l.place l.first) (take l.place l.second) (take l.place l.third)) × (l.odds ≤ 3 * l.place)
