use Rattle.std.proofs.Common.{length, take, refl, ◌∙◌}
use Rattle.reed_solomon.specs.Locating.{held}
use Rattle.reed_solomon.proofs.Clearing.{front_stored, made_clear}
use Rattle.reed_solomon.proofs.locator.elimination.clear.Goals as goal

pub returns : goal.returns
returns g c =
    let u = c.args.pivot.now in
    front_stored (length u) c.add_multiple.new.list c.args.row.now c.add_multiple.auto.list
    ∙ made_clear g.F.Field.field (held c.args.equation.now) 0 u (take (length u) c.args.row.now) c.add_multiple.ensures c.times-factor.ensures
    c.weighed_sum.ensures c.requires.inverse refl
