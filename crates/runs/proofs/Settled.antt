-- What the theorems need of a setting and a coder. Assumes nothing.
use Rattle.std.proofs.Common.{◌≡◌, ◌+◌, ◌-◌, ◌*◌, ◌/◌, ◌<◌, ◌≤◌}
use Rattle.places.specs.Line.{Plan}
use Rattle.places.proofs.Places.{Laid}
use Rattle.coder.specs.Codes.{Code, Sound}

-- the relations between the numbers of a setting
pub record Settled (p : Plan) : Type 0 where
  pub laid : Laid p
  pub some_parts : 0 < p.parts
  pub remembers : p.memory ≡ p.step * p.block * (p.block - 1) / 2
  pub delays : p.delay ≡ p.step * (p.block - 1)
  pub lag_enough : p.delay ≤ p.lag * p.parts
  pub lag_least : p.lag * p.parts < p.delay + p.parts

-- a coder that keeps the meaning, and has the setting's sizes
pub record Fits (p : Plan) (c : Code) : Type 0 where
  pub sound : Sound c
  pub frame : c.sizes.frame ≡ p.frame
  pub word : c.sizes.word ≡ p.word
  pub repairs : c.sizes.repairs ≡ p.repairs
