-- The number of each answer of a decoder that gives no message. Assumes nothing.
use Rattle.std.specs.Prelude.{ℕ}
use Rattle.coder.specs.declared.undecoded.Undecoded.{Undecoded}
use Rattle.coder.specs.declared.undecoded.Undecoded.TheVariants.{Unfit, Lost}
use Rattle.coder.specs.Misfits.{misfit_number}

abbrev pub undecoded_number : Undecoded → ℕ
undecoded_number (Unfit m) = misfit_number m
undecoded_number Lost = 8
