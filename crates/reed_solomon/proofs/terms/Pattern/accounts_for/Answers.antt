use Rattle.std.proofs.Common.{sym, ◌∙◌, arith}
use Rattle.std.proofs.lemmas.Bool.{false≢true}
use Rattle.field.specs.Sums.{xor_same, xor_none}
use Rattle.reed_solomon.proofs.Nearness.{zero_reads, reads_zero}
use Rattle.reed_solomon.proofs.terms.Pattern.accounts_for.Goals as goal

pub returns-clause-passes : goal.returns-clause-passes
returns-clause-passes g c none j h =
    sym (xor_same _ _ (sym (c.add_terms.ensures j (omega arith)) ∙ zero_reads c.add_terms.new.sums (sym c.is_zero.ensures ∙ none) j))

pub returns-clause-fails : goal.returns-clause-fails
returns-clause-fails g c left passes =
    let sums = c.add_terms.new.sums in
    false≢true (sym left ∙ c.is_zero.ensures
    ∙ reads_zero sums (λ j h. c.add_terms.ensures j h ∙ xor_none _ _ (sym (passes j (omega arith)))))
