use Rattle.std.proofs.Common.{◌≡◌, ◌+◌, ◌<◌, ◌≤◌, length, take, set, sym, ap, ◌∙◌, arith}
use Rattle.std.proofs.lemmas.List.{length-map, map-set, take-map}
use Rattle.rs_algebra.specs.Polynomials.{low_at}
use Rattle.rs_algebra.specs.Words.{locator}
use Rattle.reed_solomon.specs.declared.terms.Term.{Term}
use Rattle.reed_solomon.specs.Repairs.{places_of}
use Rattle.reed_solomon.specs.Roots.{RootPlaces}
use Rattle.reed_solomon.proofs.Rooted.{rooted_same, rooted_places, found_few, found_more}
use Rattle.reed_solomon.proofs.received.Received.root_places.Goals as goal
use Rattle.reed_solomon.proofs.received.Received.root_places.Goals.{then-low_value-eq0, else-low_value-eq0}

pub bounds-terms-count : goal.bounds-terms-count
bounds-terms-count g c =
    let f = g.F.Field.field in
    let l = c.args.locator.now in
    let ts = c.loop-place.terms in
    let many = length-map ts (λ (t : Term). t.place) in
    let value : low_at f l (locator f (length c.args.self.now.octets.now) c.loop-place.place) ≡ c.low_value.result
    = ap (low_at f l) (sym c.place_locator.ensures) ∙ sym c.low_value.ensures in
    let more
    = found_more f (length c.args.self.now.octets.now) l g.met.F.Field.laws c.requires.some.0 c.args.self.now.fits c.requires.elements c.requires.some.1
    c.loop-place.place c.loop-place.count (places_of ts) (omega (arith, c.loop-place.invariant.0, many)) c.loop-place.invariant.1
    (omega arith) (value ∙ c.if-low_value-eq0.true) (omega (arith, c.requires.room, many)) in
    omega (arith, more.0, many)

pub loop-place-preserved : goal.loop-place-preserved
loop-place-preserved g c =
    let f = g.F.Field.field in
    let N = (length c.args.self.now.octets.now) in
    let l = c.args.locator.now in
    let n = c.loop-place.place in
    let count = c.loop-place.count in
    let ts = c.loop-place.terms in
    let xs = places_of ts in
    let many = length-map ts (λ (t : Term). t.place) in
    let long : count ≤ length xs = omega (arith, c.loop-place.invariant.0, many) in
    let room : length l ≤ length xs + 1 = omega (arith, c.requires.room, many) in
    let inside : n < N = omega arith in
    let value : low_at f l (locator f N n) ≡ c.low_value.result = ap (low_at f l) (sym c.place_locator.ensures) ∙ sym c.low_value.ensures in
    elim c.if-low_value-eq0.branch [
      | then-low_value-eq0 w ↦
          let root : low_at f l (locator f N n) ≡ 0 = value ∙ w.if-low_value-eq0.true in
          let y : Term = record { place = n; value = 0 } in
          let more
          = found_more f N l g.met.F.Field.laws c.requires.some.0 c.args.self.now.fits c.requires.elements c.requires.some.1 n count xs long c.loop-place.invariant.1 inside root room in
          let told : places_of (set ts count y) ≡ set xs count n = map-set (λ (t : Term). t.place) ts count y in
          (omega (arith, w.count-is, more.0, many), rw (w.count-is, w.terms-is, told) more.1)
      | else-low_value-eq0 w ↦
          let same = rooted_same f N l n (take count xs) c.loop-place.invariant.1 (omega (arith, value, w.if-low_value-eq0.false)) in
          (omega (arith, w.count-is, c.loop-place.invariant.0), rw (w.count-is, w.terms-is) same)
    ]

pub returns : goal.returns
returns g c =
    let f = g.F.Field.field in
    let N = (length c.args.self.now.octets.now) in
    let l = c.args.locator.now in
    let count = c.loop-place.count in
    let ts = c.loop-place.terms in
    let xs = places_of ts in
    let long : count ≤ length xs = omega (arith, c.loop-place.invariant.0, length-map ts (λ (t : Term). t.place)) in
    let end : c.loop-place.place ≡ N = omega arith in
    let found : RootPlaces f N l N (take count xs) = rw end at c.loop-place.invariant.1 in
    let front : take count xs ≡ places_of (take count ts) = take-map (λ (t : Term). t.place) count ts in
    record {
      few = found_few f N l g.met.F.Field.laws c.requires.some.0 c.args.self.now.fits c.requires.elements c.requires.some.1 N count xs long found (omega arith);
      long = omega (arith, c.loop-place.invariant.0);
      roots = rw front at found;
      places = rw front at (rooted_places f N l N (take count xs) found (omega arith));
    }
