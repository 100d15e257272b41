use Rattle.std.proofs.Common.{◌≡◌, ◌+◌, ◌-◌, ◌*◌, length, take, drop, sym, ◌∙◌, arith}
use Rattle.delay.specs.Answers.{Through}
use Rattle.link.specs.Passing.{line_of}
use Rattle.link.proofs.Blocks.{begin, inside, more}
use Rattle.link.proofs.passing.pass_word.Goals as goal

pub loop-part-init : goal.loop-part-init
loop-part-init g c =
    let s = c.args.setting.now in
    begin (line_of s c.args.lengths) (c.args.before * s.parts) c.args.memory.now c.args.word.now

pub loop-part-preserved : goal.loop-part-preserved
loop-part-preserved g c =
    let s = c.args.setting.now in
    let t = line_of s c.args.lengths in
    let start = c.loop-part.part * t.block in
    let clock = c.args.before * s.parts in
    let block-long : start + t.block - start ≡ t.block = omega arith in
    let within = inside t.block c.loop-part.part s.parts (length c.args.word.now) c.loop-part-test.true (c.requires.word_len ∙ sym s.cut.1) in
    let pushed : Through _ t (clock + c.loop-part.part) c.loop-part.memory c.push.new.memory
    (take t.block (drop start c.loop-part.word)) c.push.new.block
    = let answer = rw c.unwrap.ensures at c.push.ensures in rw block-long at answer.2 in
    rw block-long (more t clock c.args.memory.now c.args.word.now c.loop-part.invariant within pushed)
