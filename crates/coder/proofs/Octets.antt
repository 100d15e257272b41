-- Lists of octets. Assumes nothing.
use Rattle.std.proofs.Common.{ℕ, zero, suc, List, [], ◌∷◌, ◌++◌}
use Rattle.coder.specs.Codes.{Octets}

pub octets-append : (a b : List ℕ) → Octets a → Octets b → Octets (a ++ b)
octets-append [] b of-a of-b k = of-b k
octets-append (x ∷ a) b of-a of-b zero = of-a 0
octets-append (x ∷ a) b of-a of-b (suc k) = octets-append a b (λ j. of-a (suc j)) of-b k
