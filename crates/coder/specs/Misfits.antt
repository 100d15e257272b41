-- The number of each refusal of a buffer's length. Assumes nothing.
use Rattle.std.specs.Prelude.{ℕ}
use Rattle.coder.specs.declared.misfit.Misfit.{Misfit}
use Rattle.coder.specs.declared.misfit.Misfit.TheVariants.{Frame, Line, Memory}

abbrev pub misfit_number : Misfit → ℕ
misfit_number Frame = 5
misfit_number Line = 6
misfit_number Memory = 7
