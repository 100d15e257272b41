-- What the burst limit's call answers. Assumes nothing.
use Rattle.std.specs.Prelude.{◌≡◌, ℕ, cond, ◌&&◌, Ok, Err, Result, ◌==◌}
use Prim.{Unit, tt}
use Rattle.coder.specs.declared.misfit.Misfit.{Misfit}
use Rattle.coder.specs.declared.misfit.Misfit.TheVariants.{Frame, Line}
use Rattle.coder.specs.Codes.{Code}
use Rattle.places.specs.Line.{Plan}
use Rattle.runs.specs.Theorem.{RidesOut}

-- refusal 5 for a coder of another K or t than the setting's, else 6 for one of another N
abbrev pub coder_fits : Plan → Code → Result (Unit {0}) Misfit
coder_fits p c =
    cond (c.sizes.frame == p.frame && c.sizes.repairs == p.repairs)
    (cond (c.sizes.word == p.word) (Ok tt) (Err Line)) (Err Frame)

-- the burst limit, with all that a pair of ends promises for whole runs
abbrev pub Limits : Plan → Code → Result ℕ Misfit → Type 0
Limits p c (Ok B) = (coder_fits p c ≡ Ok tt) × RidesOut p c B
Limits p c (Err e) = coder_fits p c ≡ Err e
