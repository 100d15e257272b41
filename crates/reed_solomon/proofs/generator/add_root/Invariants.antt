use Rattle.std.proofs.Common.{◌≡◌, ◌++◌, take, drop}
use Rattle.reed_solomon.proofs.Carries.{carried}
use Rattle.reed_solomon.proofs.Generators.{down}
use Rattle.reed_solomon.proofs.generator.add_root.Given as goal

-- what was done and what is to be done is the whole
abbrev pub invariant-loop-coefficient : goal.invariant-loop-coefficient
invariant-loop-coefficient g l =
    take l.coefficient-index l.polynomial ++ carried (down g.F.Field.field l.root) l.before (drop l.coefficient-index l.polynomial)
    ≡ carried (down g.F.Field.field l.root) 0 l.initial.polynomial
