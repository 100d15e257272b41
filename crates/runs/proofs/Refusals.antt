-- What an accepted call's tests told. Assumes nothing.
use Rattle.std.proofs.Common.{◌≡◌, ℕ, Bool, true, false, Ok, Err, Result, refl, ap, true≢false}
use Prim.{Unit, tt}
use Rattle.runs.specs.Senders.{unless}

refused : Result (Unit {0}) ℕ → Bool
refused (Ok u) = false
refused (Err n) = true

pub test_passed : (test : Bool) (number : ℕ) (others : Result (Unit {0}) ℕ) → unless test number others ≡ Ok tt
    → (test ≡ true) × (others ≡ Ok tt)
unfolding refused
test_passed true number others e = (refl, e)
test_passed false number others e = absurd (true≢false (ap refused e))
