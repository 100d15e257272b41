-- Queues, each a list with the oldest element first, and what a block does that is pushed through a bank of them.
-- Assumes nothing.
use Rattle.std.specs.Prelude.{◌≡◌, ℕ, zero, suc, ◌<◌, List, [], ◌∷◌, ◌++◌}

-- what leaves a queue when x is pushed into it: the oldest element, or x itself where none waits
unfoldable pub leaves : {E : Type 0} → List E → E → E
leaves [] x = x
leaves (oldest ∷ rest) x = oldest

-- what waits in it afterwards
unfoldable pub stays : {E : Type 0} → List E → E → List E
stays [] x = []
stays (oldest ∷ rest) x = rest ++ x ∷ []

-- a queue for each branch
abbrev pub Bank : Type 0 → Type 0
Bank E = ℕ → List E

-- two banks hold the same in each of I branches
abbrev pub Alike : {E : Type 0} → (I : ℕ) → Bank E → Bank E → Type 0
Alike I bank other = (j : ℕ) → j < I → bank j ≡ other j

-- the branches without the first one
abbrev pub others : {E : Type 0} → Bank E → Bank E
others bank j = bank (suc j)

-- What leaves when a block is pushed: element j goes through branch j.
unfoldable pub leaving : {E : Type 0} → Bank E → List E → List E
leaving bank [] = []
leaving bank (x ∷ xs) = leaves (bank 0) x ∷ leaving (others bank) xs

-- What waits afterwards. A branch that has no element in the block stays as it is.
unfoldable pub staying : {E : Type 0} → Bank E → List E → Bank E
staying bank [] j = bank j
staying bank (x ∷ xs) zero = stays (bank 0) x
staying bank (x ∷ xs) (suc j) = staying (others bank) xs j
