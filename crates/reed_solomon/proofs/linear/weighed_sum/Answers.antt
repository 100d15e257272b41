use Rattle.std.proofs.Common.{ℕ, ◌∙◌, rules, tests}
use lib.Bits.{bit_xor}
use Rattle.std.proofs.lemmas.Iterator.{YieldsList-from_slice, YieldsList-from_zip}
use Rattle.std.proofs.lemmas.Iterator.Consumers.{fold_from_yields_List}
use Rattle.reed_solomon.proofs.WeighedSums.{weighed_folded}
use Rattle.reed_solomon.proofs.linear.weighed_sum.Goals as goal

pub returns : goal.returns
returns g c =
    let f = g.F.Field.field in
    let l = c.args.weights.now in
    let s = c.args.numbers.now in
    fold_from_yields_List _ (λ a (p : ℕ × ℕ). bit_xor a (f.times p.0 p.1)) 0 c.fold.result c.fold.ensures.ran
    (YieldsList-from_zip (YieldsList-from_slice l cc) (YieldsList-from_slice s cc)) (λ a x b q k. search (rules, tests))
    ∙ weighed_folded f g.met.F.Field.laws l s
