use Rattle.std.proofs.Common.{◌≡◌, ◌+◌, ◌*◌, ◌≤◌, length, refl, arith}
use Rattle.delay.proofs.Places.{within}
use Rattle.delay.proofs.Turns.{Turning, begin, end, more}
use Rattle.delay.proofs.triangle.Triangle.turn.Goals as goal

pub loop-rank-init : goal.loop-rank-init
loop-rank-init g c = begin c.args.self.now c.args.clock c.args.memory.now c.args.block.now

pub loop-rank-preserved : goal.loop-rank-preserved
loop-rank-preserved g c =
    let t = c.args.self.now in
    let inside : c.loop-rank.start + t.step * c.loop-rank.rank ≤ length c.loop-rank.memory
    = omega (arith, c.loop-rank.invariant.place, within t c.loop-rank.rank c.loop-rank-test.true) in
    more t c.args.clock c.args.memory.now c.args.block.now c.loop-rank.invariant c.loop-rank-test.true
    (omega arith) inside c.rank-branch.result c.rank-branch.ensures.value c.index-block-branch.result c.pass.result _ c.pass.new.ring
    c.index-block-branch.is refl c.pass.auto.ring c.pass.ensures.left c.pass.ensures.waits

pub returns : goal.returns
returns g c =
    let t = c.args.self.now in
    let all : c.loop-rank.rank ≡ t.block = omega arith in
    let turning : Turning _ t c.args.clock t.block c.loop-rank.start c.args.memory.now c.loop-rank.memory c.args.block.now c.loop-rank.block
    = rw all at c.loop-rank.invariant in
    end t c.args.clock c.args.memory.now c.args.block.now turning c.requires.block_len c.loop-rank.auto.block c.loop-rank.auto.memory
