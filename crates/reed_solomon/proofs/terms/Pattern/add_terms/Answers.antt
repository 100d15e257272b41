use Rattle.std.proofs.Common.{ap, ap₂, ◌∙◌, get_or, take, sym, arith}
use lib.Bits.{bit_xor, xor_assoc, xor_zero_r}
use Rattle.field.specs.Field.{raised}
use Rattle.rs_algebra.specs.Words.{locator, terms_at}
use Rattle.reed_solomon.specs.declared.terms.Term.{Term}
use Rattle.reed_solomon.specs.Repairs.{places_of, values_of}
use Rattle.reed_solomon.proofs.OneMore.{none, among_places, place_at, value_at, terms_next}
use Rattle.reed_solomon.proofs.terms.Pattern.add_terms.Goals as goal

pub loop-term-init : goal.loop-term-init
unfolding terms_at
loop-term-init g c j h = sym (xor_zero_r (get_or c.args.sums.now j 0))

pub loop-term-preserved : goal.loop-term-preserved
loop-term-preserved g c j h =
    let f = g.F.Field.field in
    let ts = c.args.self.now.terms.now in
    let i = c.loop-term.term-index in
    let t : Term = get_or ts i none in
    let start = get_or c.args.sums.now j 0 in
    let before = terms_at f c.args.self.now.word (take i (places_of ts)) (take i (values_of ts)) j in
    let term = f.times t.value (raised f.times (locator f c.args.self.now.word t.place) j) in
    c.add_term.ensures j (omega arith)
    ∙ ap₂ (λ a x. bit_xor a (f.times t.value (raised f.times x j))) (c.loop-term.invariant j h) c.place_locator-locator.ensures
    ∙ xor_assoc start before term
    ∙ ap (bit_xor start) (sym (terms_next ts i c.loop-term-test.true f g.met.F.Field.laws c.args.self.now.word j))

pub place_locator-locator-requires-clause-inside : goal.place_locator-locator-requires-clause-inside
place_locator-locator-requires-clause-inside g c =
    let ts = c.args.self.now.terms.now in
    let i = c.loop-term.term-index in
    let h = c.loop-term-test.true in
    omega (arith, c.args.self.now.places.inside i (among_places ts i h), place_at ts i h)

pub add_term-requires : goal.add_term-requires
add_term-requires g c =
    let i = c.loop-term.term-index in
    rw (value_at c.args.self.now.terms.now i c.loop-term-test.true) at (c.requires.elements i)
