use Rattle.std.proofs.Common.{◌+◌, ◌*◌, ◌/◌, ◌^◌, ◌∙◌, rules, tests}
use Rattle.std.proofs.lemmas.Iterator.Adapters.{YieldsList-from_rev_slice}
use Rattle.std.proofs.lemmas.Iterator.Consumers.{fold_from_yields_List}
use Rattle.field.specs.Binary.{octets}
use Rattle.reed_solomon.proofs.RowRegisters.{row_folded}
use Rattle.reed_solomon.proofs.rows.filling.row.Goals as goal

pub returns : goal.returns
returns c =
    let factor = c.args.factor in
    let p = c.args.coefficients.now in
    fold_from_yields_List _ (λ row c. octets.times factor c * 2 ^ 120 + row / 256) 0 c.fold.result c.fold.ensures.ran (YieldsList-from_rev_slice p cc)
    (λ a x b q k. search (rules, tests))
    ∙ row_folded factor p
