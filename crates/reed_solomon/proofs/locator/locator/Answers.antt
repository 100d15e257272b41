use Rattle.std.proofs.Common.{◌≡◌, ℕ, ◌+◌, List, sym, subst, arith}
use Rattle.reed_solomon.specs.Locating.{Locating, held, vector}
use Rattle.reed_solomon.proofs.Elimination.{found, units}
use Rattle.reed_solomon.proofs.locator.locator.Goals as goal

pub loop-equation-init : goal.loop-equation-init
loop-equation-init g c =
    let told = c.units-vectors.ensures in
    (told.width, omega arith, units g.F.Field.field g.met.F.Field.laws told.width told.kept told.units)

pub returns : goal.returns
returns g c =
    let v = c.loop-equation.vectors in
    let one : v.kept ≡ 1 = omega arith in
    let all : v.width ≡ c.loop-equation.equation + 1 = omega arith in
    let P : List ℕ → Type 0 = λ l. Locating g.F.Field.field (held c.args.syndromes.now) l in
    subst P (sym c.copy_first.ensures) (found g.F.Field.field g.met.F.Field.laws {R = vector v} c.loop-equation.invariant.2 one all)
