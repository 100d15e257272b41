use Rattle.std.proofs.Common.{◌∙◌, rules, tests}
use Rattle.std.proofs.lemmas.Iterator.{YieldsList-from_slice}
use Rattle.std.proofs.lemmas.Iterator.Consumers.{fold_from_yields_List}
use Rattle.reed_solomon.specs.Rows.{fed_back}
use Rattle.reed_solomon.proofs.RowRegisters.{packed_check}
use Rattle.reed_solomon.proofs.rows.row_coder.RowCoder.register_of.Goals as goal

pub returns : goal.returns
returns c =
    let s = c.args.self.now in
    let m = c.args.message.now in
    fold_from_yields_List _ (fed_back s.rows) 0 c.fold.result c.fold.ensures.ran (YieldsList-from_slice m cc) (λ a x b q k. search (rules, tests))
    ∙ packed_check s.plain.check s.rows s.products s.plain.even.1 m (λ k. (c.type_inv.message k).fits)
