use Rattle.std.proofs.Common.{refl, rules}
use Rattle.link.proofs.Taken.{filled_word}
use Rattle.link.proofs.receiver.Filling.fill.Goals as goal

pub returns : goal.returns
returns c = (
  search rules,
  refl,
  filled_word c.args.self.now c.args.memory.now c.next_word.new.memory c.args.line.now _ (search rules) c.next_word.ensures,
)
