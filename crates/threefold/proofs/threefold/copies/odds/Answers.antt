use Rattle.std.proofs.Common.{◌≤◌, get_or, arith}
use Rattle.threefold.specs.Votes.{odd_of}
use Rattle.threefold.proofs.Nearest.{odd_le, odds_next}
use Rattle.threefold.proofs.threefold.copies.odds.Goals as goal

pub loop-place-preserved : goal.loop-place-preserved
loop-place-preserved c =
    let a = c.args.first.now in
    let b = c.args.second.now in
    let d = c.args.third.now in
    let i = c.loop-place.place in
    let more = odds_next a b d i c.loop-place-test.true c.requires.lengths.0 c.requires.lengths.1 in
    let few : odd_of (get_or a i 0) (get_or b i 0) (get_or d i 0) ≤ 3 = odd_le (get_or a i 0) (get_or b i 0) (get_or d i 0) in
    (omega (arith, c.loop-place.invariant.0, c.odd-odds.ensures, more), omega (arith, c.loop-place.invariant.1, c.odd-odds.ensures, few))
