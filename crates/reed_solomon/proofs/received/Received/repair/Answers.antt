use Rattle.std.proofs.Common.{take, arith, length-take}
use Rattle.std.proofs.lemmas.List.{length-map}
use Rattle.reed_solomon.specs.declared.terms.Term.{Term}
use Rattle.reed_solomon.specs.Repairs.{places_of, values_of}
use Rattle.reed_solomon.proofs.received.Received.repair.Goals as goal

pub returns : goal.returns
returns g c =
    let found = take c.root_places-count.result c.root_places-count.new.terms in
    let terms = c.repair_at.new.terms in
    let places = length-map found (λ (t : Term). t.place) in (
      places_of found,
      values_of terms,
      record {
        alike = omega (arith, places, length-map terms (λ (t : Term). t.value), c.repair_at.auto.terms);
        few = omega (arith, places, c.root_places-count.ensures.few, length-take c.root_places-count.result c.root_places-count.new.terms);
        roots = c.root_places-count.ensures.roots;
        values = c.repair_at.ensures.values;
        elements = c.repair_at.ensures.elements;
      },
      c.repair_at.ensures.answer,
    )
