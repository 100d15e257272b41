use Rattle.std.proofs.Common.{◌≡◌, ◌++◌, take, drop}
use Rattle.reed_solomon.proofs.Carries.{carried}
use Rattle.reed_solomon.proofs.Products.{up}
use Rattle.reed_solomon.proofs.values.times_root.Given as goal

-- what was done and what is to be done is the whole
abbrev pub invariant-loop-coefficient : goal.invariant-loop-coefficient
invariant-loop-coefficient g l =
    take l.coefficient-index l.polynomial ++ carried (up g.F.Field.field l.root) l.below (drop l.coefficient-index l.polynomial)
    ≡ carried (up g.F.Field.field l.root) 0 l.initial.polynomial
