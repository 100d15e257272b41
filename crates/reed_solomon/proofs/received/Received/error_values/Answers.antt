use Rattle.std.proofs.Common.{◌≡◌, ℕ, ◌+◌, ◌<◌, List, length, get_or, set, sym, refl, ap, ◌∙◌, subst, arith}
use Rattle.std.proofs.Math.Seq.{map-set_same}
use Rattle.std.proofs.lemmas.List.{length-map, map-set}
use Rattle.rs_algebra.specs.Words.{ValueFor}
use Rattle.rs_algebra.proofs.Lists.{elements_within}
use Rattle.reed_solomon.specs.declared.terms.Term.{Term}
use Rattle.reed_solomon.specs.Repairs.{places_of, values_of}
use Rattle.reed_solomon.proofs.Filling.{Filled, filled_more}
use Rattle.reed_solomon.proofs.Elsewhere.{value_element}
use Rattle.reed_solomon.proofs.OneMore.{none, place_at}
use Rattle.reed_solomon.proofs.received.Received.error_values.Goals as goal

pub loop-i-preserved : goal.loop-i-preserved
loop-i-preserved g c =
    let f = g.F.Field.field in
    let N = (length c.args.self.now.octets.now) in
    let ws = places_of c.args.terms.now in
    let ts = c.loop-i.terms in
    let i = c.loop-i.i in
    let S : ℕ → ℕ = λ j. get_or c.args.syndromes.now j 0 in
    let inside : i < length ts = omega arith in
    let t : Term = get_or ts i none in
    let y : Term = record { place = t.place; value = c.value_at-value.result } in
    let at : t.place ≡ get_or ws i 0 = sym (place_at ts i inside) ∙ ap (λ xs. get_or xs i 0) c.loop-i.invariant.0 in
    let found : ValueFor f N S (places_of ts) t.place y.value = c.value_at-value.ensures in
    let same : places_of (set ts i y) ≡ ws = map-set_same (λ (t : Term). t.place) ts i y none refl ∙ c.loop-i.invariant.0 in
    let P : ℕ → ℕ → Type 0 = λ i value. ValueFor f N S ws (get_or ws i 0) value in
    let here : P i y.value = subst (λ k. ValueFor f N S ws k y.value) at (subst (λ (xs : List ℕ). ValueFor f N S xs t.place y.value) c.loop-i.invariant.0 found) in (
      same,
      subst (λ vs. Filled P (i + 1) vs) (sym (map-set (λ (t : Term). t.value) ts i y))
          (filled_more P (values_of ts) i y.value (omega (arith, length-map ts (λ (t : Term). t.value))) c.loop-i.invariant.1 here),
    )

pub returns-clause-values : goal.returns-clause-values
returns-clause-values g c i h = c.loop-i.invariant.1 i (omega (arith, length-map c.args.terms.now (λ (t : Term). t.place)))

pub returns-clause-elements : goal.returns-clause-elements
returns-clause-elements g c =
    let f = g.F.Field.field in
    let laws = g.met.F.Field.laws in
    let ws = places_of c.args.terms.now in
    let vs = values_of c.loop-i.terms in
    let S : ℕ → ℕ = λ j. get_or c.args.syndromes.now j 0 in
    elements_within f laws vs
    (λ i h. value_element f laws (length c.args.self.now.octets.now) (get_or ws i 0) S ws (get_or vs i 0)
    (c.loop-i.invariant.1 i (omega (arith, length-map c.loop-i.terms (λ (t : Term). t.value)))))
