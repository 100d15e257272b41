use Rattle.std.proofs.Common.{◌≡◌, ℕ, ◌+◌, ◌-◌, ◌<◌, ◌≤◌, List, [], length, get_or, set, take, drop, sym, ap, ◌∙◌, subst, arith, rules, length-set, length-take, length-drop}
use Rattle.reed_solomon.specs.Locating.{cleared, front, held, vector}
use Rattle.reed_solomon.proofs.Clearing.{front_else, front-moved, front_below, front_within, front_part}
use Rattle.reed_solomon.proofs.Elimination.{all_meet, pivoted}
use Rattle.reed_solomon.proofs.WeighedSums.{cleared_from, weighed_from}
use Rattle.reed_solomon.proofs.locator.vectors.Vectors.meet.Goals as goal

pub returns-in_default-clause-met : goal.returns-in_default-clause-met
returns-in_default-clause-met g c =
    let v = c.args.self.now in
    all_meet g.F.Field.field g.met.F.Field.laws c.requires.met (omega arith)
    (λ k h. sym (weighed_from g.F.Field.field c.args.syndromes.now c.args.number (vector v k)) ∙ c.in_default.ensures k h)

pub returns-clause-met : goal.returns-clause-met
returns-clause-met g c =
    let v = c.args.self.now in
    let w : ℕ = v.width in
    let m = v.kept - 1 in
    let f = g.F.Field.field in
    let nine : length v.rows ≡ 9 = search rules in
    let p : ℕ = c.in-Some.p in
    let off = c.in-Some.ensures in
    let here : p < length v.rows = omega (arith, off.0) in
    let j = c.args.number in
    let s = c.args.syndromes.now in
    let from = weighed_from f s j in
    let moved = set v.rows p (get_or v.rows m []) in
    let cleared-rows = c.eliminate.new.rows in
    let rest = take (m - p) (drop p moved) in
    let inside : p + (m - p) ≤ length moved = omega (arith, length-set {A = List ℕ}) in
    let many : length rest ≡ m - p = omega (arith, length-take {A = List ℕ}, length-drop {A = List ℕ}) in
    let long : length cleared-rows ≡ m - p = c.eliminate.auto.rows ∙ many in
    let u = vector v p in
    let S₀ = held (take (length s - j) (drop j s)) in
    let wide : length (front w v.rows p) ≡ w = c.requires.met.long p off.0 in
    pivoted f g.met.F.Field.laws c.requires.met (omega arith) p (omega (arith, off.0)) {R₁ = front w moved}
    (rw (from (vector v p)) at off.1) (λ i l. sym (from (vector v i)) ∙ off.2 i l)
    (front-moved w v.rows m p here) (λ k ne. front_else w v.rows m p k ne)
    (λ k h. front_below w p (m - p) moved cleared-rows inside long k h)
    (λ k h l.
    front_within w p (m - p) moved cleared-rows inside long k h (omega arith)
    ∙ subst (λ n. front n cleared-rows (k - p) ≡ cleared f S₀ 0 u (front n rest (k - p))) wide (c.eliminate.ensures (k - p) (omega arith))
    ∙ cleared_from f s j u (front w rest (k - p))
    ∙ ap (cleared f (held s) j (vector v p)) (front_part w p (m - p) moved cleared-rows inside long k h (omega arith)))
