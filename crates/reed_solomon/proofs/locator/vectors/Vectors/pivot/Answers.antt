use Rattle.std.proofs.Common.{◌≡◌, ℕ, ◌<◌, ◌≤◌, List, [], Option, Some, None, length, get_or, take, ap, arith, rules, tests, get_or-take}
use Rattle.std.specs.Option.{MatchOption}
use Rattle.std.specs.List.{AllWithin, HoldsAt}
use Rattle.std.proofs.lemmas.Iterator.{IsFirst-from_position, YieldsList-from_slice}
use Rattle.std.proofs.lemmas.List.{length-take-le}
use Rattle.field.specs.Field.{Field}
use Rattle.rs_algebra.specs.Polynomials.{weighed}
use Rattle.reed_solomon.specs.declared.locator.vectors.Vectors.{Vectors}
use Rattle.reed_solomon.specs.Locating.{FirstOff, held, vector}
use Rattle.reed_solomon.proofs.locator.vectors.Vectors.pivot.Goals as goal

module _ (f : Field) (S : ℕ → ℕ) (v : Vectors) (long : v.kept ≤ length v.rows) where
  abbrev value : List ℕ → ℕ
  value row = weighed f (take v.width row) S 0

  all : length (take v.kept v.rows) ≡ v.kept
  all = length-take-le v.kept v.rows long

  same : (k : ℕ) → k < v.kept → value (get_or (take v.kept v.rows) k []) ≡ weighed f (vector v k) S 0
  same k l = ap value (get_or-take v.kept v.rows k [] l)

  first_off : (r : Option ℕ)
      → MatchOption r (AllWithin (λ row. value row ≡ 0) (take v.kept v.rows) 0 (length (take v.kept v.rows)))
      (λ i. (i < length (take v.kept v.rows)) × HoldsAt (λ row. 0 < value row) (take v.kept v.rows) i × AllWithin (λ row. value row ≡ 0) (take v.kept v.rows) 0 i)
      → FirstOff f S 0 v r
  first_off None h = λ k l. rw (same k l) at (h k [] (omega arith) (omega (arith, all)))
  first_off (Some p) h =
      let l : p < v.kept = omega (arith, h.0, all) in
      (l, rw (same p l) at (h.1 []), λ k less. rw (same k (omega arith)) at (h.2 k [] (omega arith) less))

pub returns : goal.returns
returns g c =
    let f = g.F.Field.field in
    let S = held c.args.equation.now in
    let v = c.args.self.now in
    let nine : length v.rows ≡ 9 = search rules in
    first_off f S v (omega arith) c.position.result
    (IsFirst-from_position _ _ c.position.result (λ row. 0 < weighed f (take v.width row) S 0) (λ row. weighed f (take v.width row) S 0 ≡ 0)
    c.position.ensures.ran (YieldsList-from_slice (take v.kept v.rows) cc)
    (λ k q h. search (rules, tests)) (λ k q h. (search (rules, tests), search (rules, tests))))
