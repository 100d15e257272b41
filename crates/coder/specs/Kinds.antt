-- The coders that a setting can name. Assumes nothing.
use Rattle.std.specs.Prelude.{ℕ, cond, Ok, Err, Result, ◌==◌}
use Rattle.coder.specs.declared.kind.Kind.{Kind}
use Rattle.coder.specs.declared.kind.Kind.TheVariants.{ReedSolomon, Threefold}
use Rattle.coder.specs.declared.refusal.Refusal.{Refusal}
use Rattle.coder.specs.declared.refusal.Refusal.TheVariants.{Unreadable}
use Rattle.coder.specs.Sizes.{Parameters, reed_solomon_sizes, threefold_sizes}

-- 0 names Reed-Solomon and 1 threefold; another octet names none
abbrev pub kind_of : ℕ → Result Kind Refusal
kind_of octet = cond (octet == 0) (Ok ReedSolomon) (cond (octet == 1) (Ok Threefold) (Err Unreadable))

abbrev pub sizes_of_kind : Kind → (K R : ℕ) → Result Parameters ℕ
sizes_of_kind ReedSolomon K R = reed_solomon_sizes K R
sizes_of_kind Threefold K R = threefold_sizes K R
