use Rattle.std.proofs.Common.{◌≡◌, ℕ, ◌<◌, length, get_or, sym, ap, ◌∙◌, arith, length-set}
use Rattle.std.proofs.lemmas.List.{length-map}
use Rattle.rs_algebra.specs.Words.{locator}
use Rattle.reed_solomon.specs.declared.terms.Term.{Term}
use Rattle.reed_solomon.specs.Repairs.{places_of}
use Rattle.reed_solomon.proofs.Elsewhere.{begun, kept, more, ended}
use Rattle.reed_solomon.proofs.OneMore.{none, among_places, place_at}
use Rattle.reed_solomon.proofs.terms.Pattern.vanishing_elsewhere.Goals as goal
use Rattle.reed_solomon.proofs.terms.Pattern.vanishing_elsewhere.Goals.{then-other-place, else-other-place}

pub place_locator-locator-requires-clause-inside : goal.place_locator-locator-requires-clause-inside
place_locator-locator-requires-clause-inside g c =
    let ts = c.args.self.now.terms.now in
    let i = c.loop-other.other-index in
    let h = c.loop-other-test.true in
    omega (arith, c.args.self.now.places.inside i (among_places ts i h), place_at ts i h)

pub loop-other-init : goal.loop-other-init
loop-other-init g c =
    begun g.F.Field.field g.met.F.Field.laws c.args.self.now.word c.args.place (length c.args.polynomial.now) c.fill.new.self
    (omega (arith, c.requires.among.1, length-map c.args.self.now.terms.now (λ (t : Term). t.place)))
    (c.fill.ensures.after (λ y e. e))

pub loop-other-preserved : goal.loop-other-preserved
loop-other-preserved g c =
    let f = g.F.Field.field in
    let laws = g.met.F.Field.laws in
    let N = c.args.self.now.word in
    let k = c.args.place in
    let ts = c.args.self.now.terms.now in
    let ws = places_of ts in
    let i = c.loop-other.other-index in
    let h : i < length ws = among_places ts i c.loop-other-test.true in
    let at : get_or ws i 0 ≡ (get_or ts i none).place = place_at ts i c.loop-other-test.true in
    let xs = c.loop-other.polynomial in
    let among = c.requires.among in
    let here : k < N = rw among.2 at (c.args.self.now.places.inside among.0 among.1) in
    let wide : length xs ≡ length ws = omega (arith, length-set {A = ℕ}, length-map ts (λ (t : Term). t.place)) in
    elim c.if-other-place.branch [
      | then-other-place w ↦
          rw w.polynomial-is
          (more f laws N k ws i h xs c.loop-other.invariant among wide c.args.self.now.fits here (c.args.self.now.places.inside i h)
          (λ e. w.if-other-place.true (sym at ∙ e)) w.place_locator-locator.result w.times_root.new.polynomial
          (w.place_locator-locator.ensures ∙ ap (locator f N) (sym at)) w.times_root.ensures)
      | else-other-place w ↦
          rw w.polynomial-is (kept f laws N k ws i h xs c.loop-other.invariant (at ∙ w.if-other-place.false))
    ]

pub returns : goal.returns
returns g c =
    ended g.F.Field.field g.met.F.Field.laws c.args.self.now.word c.args.place (places_of c.args.self.now.terms.now) c.loop-other.other-index c.loop-other.polynomial
    (omega (arith, length-map c.args.self.now.terms.now (λ (t : Term). t.place))) (omega (arith, length-set {A = ℕ}, length-map c.args.self.now.terms.now (λ (t : Term). t.place)))
    c.loop-other.invariant
