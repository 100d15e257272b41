-- The number of each refusal. Assumes nothing.
use Rattle.std.specs.Prelude.{ℕ}
use Rattle.coder.specs.declared.refusal.Refusal.{Refusal}
use Rattle.coder.specs.declared.refusal.Refusal.TheVariants.{UnfitSizes, UnevenBlocks, TooDeep, Unreadable}

abbrev pub number_of : Refusal → ℕ
number_of UnfitSizes = 1
number_of UnevenBlocks = 2
number_of TooDeep = 3
number_of Unreadable = 4
