use Rattle.std.proofs.Common.{length}
use Rattle.reed_solomon.specs.Locating.{held}
use Rattle.reed_solomon.proofs.Clearing.{Clearing}
use Rattle.reed_solomon.proofs.locator.elimination.eliminate.Given as goal

-- the rows so far are cleared
abbrev pub invariant-loop-row : goal.invariant-loop-row
invariant-loop-row g l = Clearing g.F.Field.field (held l.equation) (length l.pivot) l.pivot l.row-index l.initial.rows l.rows
