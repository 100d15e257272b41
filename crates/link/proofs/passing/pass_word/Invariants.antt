use Rattle.link.proofs.Blocks.{Underway}
use Rattle.link.proofs.passing.pass_word.Given as goal

abbrev pub invariant-loop-part : goal.invariant-loop-part
invariant-loop-part g l = Underway _ l.line l.part l.clock l.initial.memory l.memory l.initial.word l.word
