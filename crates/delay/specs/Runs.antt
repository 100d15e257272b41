-- Whole runs: blocks pushed one after another, and when each comes out again. Assumes nothing.
use Rattle.std.specs.Prelude.{◌≡◌, ℕ, ◌-◌, ◌<◌, cond, List, [], ◌∷◌, length, get_or, replicate, nat_lt, slice_index_or}
use Rattle.std.specs.List.{AllByRecursion}
use Rattle.delay.specs.declared.triangle.Triangle.{Triangle}
use Rattle.delay.specs.Queues.{Bank, leaving, staying}
use Rattle.delay.specs.Triangles.{rising, falling, wait_of, Cleared}

-- the blocks that leave while blocks are pushed one after another
unfoldable pub outs : {E : Type 0} → Bank E → List (List E) → List (List E)
outs bank [] = []
outs bank (b ∷ bs) = leaving bank b ∷ outs (staying bank b) bs

-- what waits after that
unfoldable pub rest : {E : Type 0} → Bank E → List (List E) → Bank E
rest bank [] = bank
rest bank (b ∷ bs) = rest (staying bank b) bs

-- each block has I elements
abbrev pub Blocks : {E : Type 0} → ℕ → List (List E) → Type 0
Blocks I bs = AllByRecursion (λ b. length b ≡ I) bs

-- element j of block u; x where there is none
abbrev pub element : {E : Type 0} → List (List E) → (u j : ℕ) → E → E
element bs u j x = slice_index_or (slice_index_or bs u []) j x

-- what is due at time u of what went in n earlier; nothing went in before time 0
unfoldable pub late : {X : Type 0} → (n : ℕ) (nothing : X) → (ℕ → X) → ℕ → X
late n nothing went u = cond (nat_lt u n) nothing (went (u - n))

-- A line whose branches were cleared: as many blocks leave as are pushed, each of I elements, and what leaves branch j
-- is what entered it as many blocks earlier as the branch is long.
pub record Delays (E : Type 0) (t : Triangle) (empty : E) (bank : Bank E) : Type 0 where
  pub shape : (bs : List (List E)) → Blocks t.block bs → (length (outs bank bs) ≡ length bs) × Blocks t.block (outs bank bs)
  pub elements : (bs : List (List E)) → Blocks t.block bs → (u j : ℕ) → u < length bs → j < t.block
      → (x : E) → element (outs bank bs) u j x ≡ late (wait_of t j) empty (λ v. element bs v j x) u

-- The two ends in a row, both cleared: block u comes out whole when block u + d goes in, and clearing blocks before that.
abbrev pub Returns : (E : Type 0) → Triangle → (empty : E) → (d : ℕ) → Type 0
Returns E t empty d =
    (sender receiver : Bank E) → Cleared (rising t.block t.step) empty sender
    → Cleared (falling t.block t.step) empty receiver
    → (bs : List (List E)) → Blocks t.block bs → (u : ℕ) → u < length bs
    → slice_index_or (outs receiver (outs sender bs)) u [] ≡ late d (replicate t.block empty) (λ v. get_or bs v []) u
