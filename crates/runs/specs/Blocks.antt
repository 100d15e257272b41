-- Words cut into blocks, and passed through a delay line. Assumes nothing.
use Rattle.std.specs.Prelude.{ℕ, zero, suc, List, [], ◌∷◌, ◌++◌, take, drop}
use Rattle.delay.specs.Queues.{Bank}
use Rattle.delay.specs.Runs.{outs, rest}

-- the q blocks of I elements from the front of a list
unfoldable pub cut : {E : Type 0} → (I q : ℕ) → List E → List (List E)
cut I zero xs = []
cut I (suc q) xs = take I xs ∷ cut I q (drop I xs)

-- blocks end to end
unfoldable pub joined : {E : Type 0} → List (List E) → List E
joined [] = []
joined (b ∷ bs) = b ++ joined bs

-- what leaves a bank of queues when q blocks of I are pushed, end to end
abbrev pub through : {E : Type 0} → (I q : ℕ) → Bank E → List E → List E
through I q bank entering = joined (outs bank (cut I q entering))

-- what waits in it then
abbrev pub left : {E : Type 0} → (I q : ℕ) → Bank E → List E → Bank E
left I q bank entering = rest bank (cut I q entering)
