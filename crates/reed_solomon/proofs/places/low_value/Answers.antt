use Rattle.std.proofs.Common.{◌≡◌, List, ℕ, refl, ◌∙◌, fold, reverse, rules, tests}
use lib.Bits.{bit_xor}
use Rattle.std.proofs.lemmas.Iterator.Adapters.{YieldsList-from_rev_slice}
use Rattle.std.proofs.lemmas.Iterator.Consumers.{fold_from_yields_List}
use Rattle.field.specs.Field.{Field}
use Rattle.rs_algebra.specs.Polynomials.{low_at}
use Rattle.reed_solomon.proofs.Folds.{fold-reverse}
use Rattle.reed_solomon.proofs.places.low_value.Goals as goal

low_folded : (f : Field) (x : ℕ) (l : List ℕ) → fold (λ a c. bit_xor c (f.times x a)) 0 (reverse l) ≡ low_at f l x
unfolding low_at
low_folded f x = fold-reverse (λ a c. bit_xor c (f.times x a)) 0 (λ l. low_at f l x) refl (λ c l. refl)

pub returns : goal.returns
returns g c =
    let f = g.F.Field.field in
    let x = c.args.x in
    let l = c.args.polynomial.now in
    fold_from_yields_List _ (λ a c. bit_xor c (f.times x a)) 0 c.fold.result c.fold.ensures.ran (YieldsList-from_rev_slice l cc)
    (λ a x b q k. search (rules, tests))
    ∙ low_folded f x l
