use Rattle.std.proofs.Common.{replicate, ap, ◌∙◌, rules}
use Rattle.delay.proofs.Rings.{filled}
use Rattle.delay.proofs.line.fill.Goals as goal

pub returns : goal.returns
returns g c =
    let ran = c.fill_with.ensures.ran in
    filled _ _ c.args.empty (λ x q k. search rules) c.fill_with.new.self ran.0 ran.1
    ∙ ap (λ n. replicate n c.args.empty) c.fill_with.ensures.len
