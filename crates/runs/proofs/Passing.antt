-- A delay line from its clearing on, over any number of calls: what left it is what entered, later by as much as each branch waits.
-- Assumes nothing.
use Rattle.std.proofs.Common.{◌≡◌, ℕ, ◌+◌, ◌-◌, ◌*◌, ◌<◌, List, [], ◌++◌, length, get_or, replicate, sym, refl, ap, ◌∙◌, add-mul, zero-mul, arith}
use Rattle.std.proofs.lemmas.List.{length-append}
use Rattle.delay.specs.declared.triangle.Triangle.{Triangle}
use Rattle.delay.specs.Queues.{Alike, Bank}
use Rattle.delay.specs.Triangles.{Cleared, memory_of, queue, wait_of}
use Rattle.delay.specs.Runs.{Blocks, element, late, outs, rest}
use Rattle.delay.proofs.Runs.{blocks_outs, length-outs, outs-++, outs_same, rest-++, rest_same}
use Rattle.delay.proofs.Delays.{delays, late-after, late_before, late_same}
use Rattle.delay.proofs.Turns as turns
use Rattle.runs.specs.Blocks.{cut, joined, left, through}
use Rattle.runs.proofs.Blocks.{blocks_cut, cut-++, element-cut, get_d_joined, joined-++, length_cut, length-joined}

-- memory full of one element
pub cleared_memory : {E : Type 0} (t : Triangle) (empty : E) (clock : ℕ) → Cleared t empty (queue t clock (replicate (memory_of t) empty))
cleared_memory {E} t empty clock = (turns.opened E t empty (replicate (memory_of t) empty) refl).cleared clock

module _ {E : Type 0} (t : Triangle) (empty : E) where
  -- every branch as it is at first
  abbrev pub clearing : Bank E
  clearing j = replicate (wait_of t j) empty

  -- As many blocks entered as the clock says; `out` has left so far, and the bank waits.
  pub record Passed (clock : ℕ) (bank : Bank E) (entered out : List E) : Type 0 where
    pub long : length entered ≡ clock * t.block
    pub leaves : out ≡ through t.block clock clearing entered
    pub waits : Alike t.block bank (left t.block clock clearing entered)

  pub none_passed : (bank : Bank E) → Cleared t empty bank → Passed 0 bank [] []
  unfolding cut joined outs rest
  none_passed bank cleared = record { long = sym (zero-mul t.block); leaves = refl; waits = cleared }

  -- one call more
  pub pass_on : {clock : ℕ} {bank : Bank E} {entered out : List E} → Passed clock bank entered out
      → (q : ℕ) (after : Bank E) (more : List E) → length more ≡ q * t.block → Alike t.block after (left t.block q bank more)
      → Passed (clock + q) after (entered ++ more) (out ++ through t.block q bank more)
  pass_on {clock} {bank} {entered} {out} passed q after more whole waiting = record {
    long = omega (arith, length-append entered more, passed.long, whole, add-mul clock q I);
    leaves = sym
        (ap (λ bs. joined (outs clearing bs)) blocks
        ∙ ap joined (outs-++ clearing before now)
        ∙ joined-++ (outs clearing before) (outs (rest clearing before) now)
        ∙ ap (λ xs. xs ++ joined (outs (rest clearing before) now)) (sym passed.leaves)
        ∙ ap (λ bs. out ++ joined bs) (sym (outs_same I bank (rest clearing before) now now_blocks passed.waits)));
    waits = λ j l. waiting j l ∙ rest_same bank (rest clearing before) now j (passed.waits j l)
        ∙ ap (λ b. b j) (sym (rest-++ clearing before now) ∙ sym (ap (rest clearing) blocks));
  }
    where
      I : ℕ
      I = t.block

      before : List (List E)
      before = cut I clock entered

      now : List (List E)
      now = cut I q more

      now_blocks : Blocks I now
      now_blocks = blocks_cut I q more (omega (arith, whole))

      blocks : cut I (clock + q) (entered ++ more) ≡ before ++ now
      blocks = cut-++ I clock q entered more passed.long

  module _ {clock : ℕ} {bank : Bank E} {entered out : List E} (passed : Passed clock bank entered out) where
    blocks_in : Blocks t.block (cut t.block clock entered)
    blocks_in = blocks_cut t.block clock entered (omega (arith, passed.long))

    pub length_out : length out ≡ clock * t.block
    length_out =
        ap length passed.leaves
        ∙ length-joined t.block (outs clearing (cut t.block clock entered)) (blocks_outs t.block clearing (cut t.block clock entered) blocks_in)
        ∙ ap (λ n. n * t.block) (length-outs clearing (cut t.block clock entered) ∙ length_cut t.block clock entered)

    -- what left at each place of the line
    pub out_late : (u j : ℕ) → u < clock → j < t.block → (x : E)
        → get_or out (u * t.block + j) x ≡ late (wait_of t j) empty (λ v. get_or entered (v * t.block + j) x) u
    out_late u j h l x =
        let I = t.block in
        let bs = cut I clock entered in
        let n = wait_of t j in
        let inside : u < length bs = omega (arith, length_cut I clock entered) in
        ap (λ xs. get_or xs (u * I + j) x) passed.leaves
        ∙ get_d_joined I (outs clearing bs) (blocks_outs I clearing bs blocks_in) u j (omega (arith, length-outs clearing bs)) l x
        ∙ (delays t empty clearing (λ _ _. refl)).elements bs blocks_in u j inside l x
        ∙ late_same n empty (λ v. element bs v j x) (λ v. get_or entered (v * I + j) x) u
        (λ m. element-cut I clock entered (u - n) j (omega arith) l x)

    pub out_first : (u j : ℕ) → u < clock → j < t.block → (x : E) → u < wait_of t j → get_or out (u * t.block + j) x ≡ empty
    out_first u j h l x m = out_late u j h l x ∙ late_before (wait_of t j) empty (λ v. get_or entered (v * t.block + j) x) u m

    pub out_then : (u v j : ℕ) → u < clock → j < t.block → (x : E) → v + wait_of t j ≡ u
        → get_or out (u * t.block + j) x ≡ get_or entered (v * t.block + j) x
    out_then u v j h l x e =
        out_late u j h l x ∙ late-after (wait_of t j) empty (λ v. get_or entered (v * t.block + j) x) u (omega arith)
        ∙ ap (λ v. get_or entered (v * t.block + j) x) (omega arith)
