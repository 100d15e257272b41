use Rattle.std.proofs.Common.{arith}
use Rattle.std.proofs.lemmas.List.FromFn.{fill_by_all}
use Rattle.threefold.specs.Votes.{voted, voted_at, whole}
use Rattle.threefold.proofs.threefold.Thirds.write_voted.Goals as goal

pub returns : goal.returns
unfolding voted
returns c =
    let t = c.args.self.now in
    fill_by_all (voted_at t.coder.sizes.frame (whole t)) c.loop-place.message t.coder.sizes.frame 0 (omega arith)
    (λ k h. c.loop-place.invariant k (omega arith))
