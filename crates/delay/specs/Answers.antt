-- What the calls of a delay line answer, and what memory and block hold afterwards. Assumes nothing.
use Rattle.std.specs.Prelude.{◌≡◌, ℕ, ◌+◌, ◌≢◌, List, [], ◌∷◌, ◌++◌, length, replicate, Ok, Err, Result}
use Rattle.coder.specs.declared.misfit.Misfit.{Misfit}
use Rattle.coder.specs.declared.misfit.Misfit.TheVariants.{Frame, Line, Memory}
use Rattle.delay.specs.declared.triangle.Triangle.{Triangle}
use Rattle.delay.specs.Queues.{Alike, Bank, leaving, staying}
use Rattle.delay.specs.Triangles.{memory_of, delay_of, queue, Cleared}
use Rattle.delay.specs.Runs.{Delays, Returns, outs, rest}

-- Memory as `clear` leaves it, whatever the clock says: each branch is full of the clearing element, and so delays what
-- is pushed; with its counterpart at the other end, cleared alike, whole blocks come back.
pub record Opened (E : Type 0) (t : Triangle) (empty : E) (after : List E) : Type 0 where
  pub held : after ≡ replicate (memory_of t) empty
  pub cleared : (clock : ℕ) → Cleared t empty (queue t clock after)
  pub delays : (clock : ℕ) → Delays E t empty (queue t clock after)
  pub returns : Returns E t empty (delay_of t)

-- refusal 7 for a memory of another length, which stays as it was
abbrev pub Clears : (E : Type 0) → Triangle → E → (before after : List E) → Result (Unit {0}) Misfit → Type 0
Clears E t empty before after (Ok _) = (length before ≡ memory_of t) × Opened E t empty after
Clears E t empty before after (Err Memory) = (length before ≢ memory_of t) × (after ≡ before)
Clears E t empty before after (Err Line) = ⊥
Clears E t empty before after (Err Frame) = ⊥

-- A block pushed through all branches at once. The branches fill memory, so nothing else is in it. Where memory holds
-- what a run of blocks has left, the block is one more of that run.
pub record Through (E : Type 0) (t : Triangle) (clock : ℕ) (memory memory' block block' : List E) : Type 0 where
  pub left : block' ≡ leaving (queue t clock memory) block
  pub waits : Alike t.block (queue t (clock + 1) memory') (staying (queue t clock memory) block)
  pub size : length memory' ≡ length memory
  pub run : (bank : Bank E) (bs : List (List E)) → Alike t.block (queue t clock memory) (rest bank bs)
      → (outs bank (bs ++ block ∷ []) ≡ outs bank bs ++ block' ∷ [])
      × Alike t.block (queue t (clock + 1) memory') (rest bank (bs ++ block ∷ []))

-- refusal 6 for a block of another length, else refusal 7 for a memory of another length; both stay as they were
abbrev pub Pushes : (E : Type 0) → Triangle → (clock : ℕ) → (memory memory' block block' : List E) → Result (Unit {0}) Misfit → Type 0
Pushes E t clock memory memory' block block' (Ok _) =
    (length block ≡ t.block) × (length memory ≡ memory_of t) × Through E t clock memory memory' block block'
Pushes E t clock memory memory' block block' (Err Line) = (length block ≢ t.block) × (memory' ≡ memory) × (block' ≡ block)
Pushes E t clock memory memory' block block' (Err Memory) =
    (length block ≡ t.block) × (length memory ≢ memory_of t) × (memory' ≡ memory) × (block' ≡ block)
Pushes E t clock memory memory' block block' (Err Frame) = ⊥
