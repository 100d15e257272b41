use Rattle.std.proofs.Common.{get_or, set, sym, refl, ap, ◌∙◌}
use lib.Bits.{bit_xor}
use Rattle.rs_algebra.specs.Words.{mend}
use Rattle.reed_solomon.specs.declared.terms.Term.{Term}
use Rattle.reed_solomon.proofs.OneMore.{none, mend_next, mend-past}
use Rattle.reed_solomon.proofs.mending.mend_message.Goals as goal
use Rattle.reed_solomon.proofs.mending.mend_message.Goals.{then-place-message, else-place-message}

pub loop-term-init : goal.loop-term-init
unfolding mend
loop-term-init c = refl

pub loop-term-preserved : goal.loop-term-preserved
loop-term-preserved c =
    let xs = c.args.message.now in
    let ts = c.args.terms.now in
    let i = c.loop-term.term-index in
    let h = c.loop-term-test.true in
    let t : Term = get_or ts i none in
    elim c.if-place-message.branch [
      | then-place-message w ↦
          w.message-is ∙ ap (λ ys. set ys t.place (bit_xor (get_or ys t.place 0) t.value)) c.loop-term.invariant ∙ sym (mend_next ts i h xs)
      | else-place-message w ↦ w.message-is ∙ mend-past ts i h xs c.loop-term.message c.loop-term.invariant w.if-place-message.false
    ]
