-- One block through all branches, rank by rank. Assumes nothing.
use Rattle.std.proofs.Common.{◌≡◌, ℕ, ◌+◌, ◌-◌, ◌*◌, ◌%◌, ◌<◌, ◌≤◌, ◌≢◌, ◌⊎◌, List, [], ◌∷◌, length, get_or, take, drop, set, replicate, sym, refl, ap, ◌∙◌, ap₂, inl, inr, arith, get_or-set_other, get_or-set_same, take-take, drop-drop}
use borrow.Rule.Slice.PartMut.{put_mid}
use Rattle.std.specs.List.{between}
use Rattle.std.proofs.lemmas.List.{drop-take, get_or_read, same_lists}
use Rattle.std.proofs.lemmas.Slice.{between-put_mid, drop-put_mid, take-put_mid_below}
use Rattle.std.proofs.lemmas.Bool.{cases_lt}
use Rattle.delay.specs.declared.triangle.Triangle.{Triangle}
use Rattle.delay.specs.Queues.{Alike, Bank, leaves, leaving, stays, staying}
use Rattle.delay.specs.Triangles.{Cleared, memory_of, part, queue, rank_of, start_at, turned, wait_of}
use Rattle.delay.specs.Answers.{Opened, Through}
use Rattle.delay.proofs.Delays.{delays, returns}
use Rattle.delay.proofs.Places.{ends_before, rank_back, rank_lt, start_suc, within}
use Rattle.delay.proofs.Queues.{leaving_at, length-leaving, staying_at}
use Rattle.delay.proofs.Rings.{length_part, ring_cleared}
use Rattle.delay.proofs.Runs.{run_on}

-- the ring of rank r as it turns
abbrev pub ringed : {E : Type 0} → (M r clock : ℕ) → List E → List E
ringed M r clock memory = turned (clock % (M * r)) (part (start_at M r) (M * r) memory)

pub queue_is : {E : Type 0} (t : Triangle) (clock : ℕ) (memory : List E) (j : ℕ)
    → queue t clock memory j ≡ ringed t.step (rank_of t j) clock memory
unfolding queue wait_of
queue_is t clock memory j = refl

-- a part that ends where two lists still agree
pub same_part : {E : Type 0} (s n k : ℕ) (xs ys : List E) → s + n ≤ k → take k xs ≡ take k ys → part s n xs ≡ part s n ys
same_part s n k xs ys h same =
    sym (drop-take s n xs)
    ∙ ap (drop s) (sym (take-take (s + n) k xs h) ∙ ap (take (s + n)) same ∙ take-take (s + n) k ys h)
    ∙ drop-take s n ys

-- The branches of rank below r have been pushed, and those from r on, which begin at `start`, have not.
pub record Turning (E : Type 0) (t : Triangle) (clock r start : ℕ) (memory memory' block block' : List E) : Type 0 where
  pub place : start ≡ start_at t.step r
  pub behind : drop start memory' ≡ drop start memory
  pub left : (j : ℕ) → j < t.block → rank_of t j < r → (x : E) → get_or block' j x ≡ leaves (queue t clock memory j) (get_or block j x)
  pub waits : (j : ℕ) → j < t.block → rank_of t j < r → (x : E)
      → queue t (clock + 1) memory' j ≡ stays (queue t clock memory j) (get_or block j x)
  pub yet : (j : ℕ) → j < t.block → r ≤ rank_of t j → (x : E) → get_or block' j x ≡ get_or block j x

module _ {E : Type 0} (t : Triangle) (clock : ℕ) (memory block : List E) where
  pub begin : Turning E t clock 0 0 memory memory block block
  unfolding start_at
  begin = record {
    place = refl;
    behind = refl;
    left = λ j h k x. absurd (omega arith);
    waits = λ j h k x. absurd (omega arith);
    yet = λ j h k x. refl;
  }

  -- one branch more, whose ring goes over to `after`
  pub more : {r start : ℕ} {memory' block' : List E} → Turning E t clock r start memory memory' block block' → r < t.block
      → length block' ≡ t.block → start + t.step * r ≤ length memory' → (b : ℕ) → b ≡ rank_of t r → (entering leaver : E) (ring after : List E)
      → entering ≡ get_or block' b entering → ring ≡ between start (start + t.step * r) memory' → length after ≡ length ring
      → leaver ≡ leaves (turned (clock % length ring) ring) entering
      → turned ((clock + 1) % length ring) after ≡ stays (turned (clock % length ring) ring) entering
      → Turning E t clock (r + 1) (start + t.step * r) memory (put_mid start (start + t.step * r - start) memory' after) block (set block' b leaver)
  more {r = r} {start = start} {memory' = memory'} {block' = block'} turning h whole inside b b-is entering leaver ring after read ring-is same left-is waits-is = record {
    place = ap (λ s. s + t.step * r) turning.place ∙ sym (start_suc t.step r) ∙ ap (start_at t.step) (omega arith);
    behind = behind ∙ sym (drop-drop wait start memory') ∙ ap (drop wait) turning.behind ∙ drop-drop wait start memory;
    left = λ j l k x. left_at j l x (cases_lt (rank_of t j) r) k;
    waits = λ j l k x. waits_at j l x (cases_lt (rank_of t j) r) k;
    yet = λ j l k x. get_or-set_other block' b j leaver x (apart j (λ e. absurd (omega (arith, e)))) ∙ turning.yet j l (omega arith) x;
  }
    where
      wait : ℕ
      wait = t.step * r

      wide : start + wait - start ≡ wait
      wide = omega arith

      memory'' : List E
      memory'' = put_mid start (start + wait - start) memory' after

      ring_part : ring ≡ part start wait memory'
      ring_part = ring-is ∙ ap (λ n. take n (drop start memory')) wide

      ring_long : length ring ≡ wait
      ring_long = ap length ring_part ∙ length_part start wait memory' inside

      before : take start memory'' ≡ take start memory'
      before = take-put_mid_below start (start + wait - start) memory' after start (omega arith) (omega arith)

      behind : drop (start + wait) memory'' ≡ drop (start + wait) memory'
      behind = drop-put_mid start (start + wait - start) memory' after (start + wait) (omega arith) (omega arith) (omega (arith, same, ring_long))

      after_part : part start wait memory'' ≡ after
      after_part =
          ap (λ n. take n (drop start memory'')) (sym wide)
          ∙ between-put_mid start (start + wait - start) memory' after (start + wait) (omega arith) (omega (arith, same, ring_long))

      leaver-is : leaver ≡ leaves (turned (clock % wait) (part start wait memory')) entering
      leaver-is = left-is ∙ ap₂ (λ n xs. leaves (turned (clock % n) xs) entering) ring_long ring_part

      stays-is : turned ((clock + 1) % wait) (part start wait memory'') ≡ stays (turned (clock % wait) (part start wait memory')) entering
      stays-is =
          ap₂ (λ n xs. turned ((clock + 1) % n) xs) (sym ring_long) after_part ∙ waits-is
          ∙ ap₂ (λ n xs. stays (turned (clock % n) xs) entering) ring_long ring_part

      b_lt : b < t.block
      b_lt = rw b-is (rank_lt t r h)

      b_back : rank_of t b ≡ r
      b_back = ap (rank_of t) b-is ∙ rank_back t r h

      apart : (j : ℕ) → (rank_of t j ≡ r → ⊥) → j ≢ b
      apart j other e = other (ap (rank_of t) e ∙ b_back)

      only : (j : ℕ) → j < t.block → rank_of t j ≡ r → j ≡ b
      only j l e = sym (rank_back t j l) ∙ ap (rank_of t) e ∙ sym b-is

      -- the ring of rank r before the push, in the list as it was at first
      ring_now : turned (clock % wait) (part start wait memory') ≡ queue t clock memory b
      ring_now =
          ap (λ xs. turned (clock % wait) (take wait xs)) turning.behind
          ∙ ap (λ s. turned (clock % wait) (part s wait memory)) turning.place
          ∙ ap (λ k. ringed t.step k clock memory) (sym b_back)
          ∙ sym (queue_is t clock memory b)

      ring_next : turned ((clock + 1) % wait) (part start wait memory'') ≡ queue t (clock + 1) memory'' b
      ring_next =
          ap (λ s. turned ((clock + 1) % wait) (part s wait memory'')) turning.place
          ∙ ap (λ k. ringed t.step k (clock + 1) memory'') (sym b_back)
          ∙ sym (queue_is t (clock + 1) memory'' b)

      entered : (x : E) → entering ≡ get_or block b x
      entered x = get_or_read block' b entering (omega (arith, b_lt, whole)) read x ∙ turning.yet b b_lt (omega (arith, b_back)) x

      kept : (j : ℕ) → rank_of t j < r → queue t (clock + 1) memory'' j ≡ queue t (clock + 1) memory' j
      kept j k =
          let n = t.step * rank_of t j in
          let s = start_at t.step (rank_of t j) in
          queue_is t (clock + 1) memory'' j
          ∙ ap (turned ((clock + 1) % n)) (same_part s n start memory'' memory' (omega (arith, turning.place, ends_before t.step (rank_of t j) r k)) before)
          ∙ sym (queue_is t (clock + 1) memory' j)

      left_b : (x : E) → get_or (set block' b leaver) b x ≡ leaves (queue t clock memory b) (get_or block b x)
      left_b x =
          get_or-set_same block' b leaver x (omega (arith, b_lt, whole)) ∙ leaver-is ∙ ap₂ leaves ring_now (entered x)

      left_at : (j : ℕ) → j < t.block → (x : E) → (rank_of t j < r) ⊎ (r ≤ rank_of t j) → rank_of t j < r + 1
          → get_or (set block' b leaver) j x ≡ leaves (queue t clock memory j) (get_or block j x)
      left_at j l x (inl k) _ = get_or-set_other block' b j leaver x (apart j (λ e. absurd (omega (arith, e)))) ∙ turning.left j l k x
      left_at j l x (inr k) m = rw (only j l (omega arith)) (left_b x)

      waits_b : (x : E) → queue t (clock + 1) memory'' b ≡ stays (queue t clock memory b) (get_or block b x)
      waits_b x = sym ring_next ∙ stays-is ∙ ap₂ stays ring_now (entered x)

      waits_at : (j : ℕ) → j < t.block → (x : E) → (rank_of t j < r) ⊎ (r ≤ rank_of t j) → rank_of t j < r + 1
          → queue t (clock + 1) memory'' j ≡ stays (queue t clock memory j) (get_or block j x)
      waits_at j l x (inl k) _ = kept j k ∙ turning.waits j l k x
      waits_at j l x (inr k) m = rw (only j l (omega arith)) (waits_b x)

  -- all branches
  pub end : {start : ℕ} {memory' block' : List E} → Turning E t clock t.block start memory memory' block block'
      → length block ≡ t.block → length block' ≡ length block → length memory' ≡ length memory
      → Through E t clock memory memory' block block'
  end {memory' = memory'} {block' = block'} turning whole same size = record {
    left = left;
    waits = waits;
    size = size;
    run = λ bank bs alike. run_on t.block bank (queue t clock memory) (queue t (clock + 1) memory') bs block block' whole alike left waits;
  }
    where
      bank : Bank E
      bank = queue t clock memory

      left : block' ≡ leaving bank block
      left = same_lists block' (leaving bank block) (same ∙ sym (length-leaving bank block)) (λ j x h. each j x (omega (arith, same, h)))
        where
          each : (j : ℕ) (x : E) → j < length block → get_or block' j x ≡ get_or (leaving bank block) j x
          each j x h =
              let l : j < t.block = omega (arith, whole) in
              turning.left j l (rank_lt t j l) x ∙ sym (leaving_at bank block j h x)

      some_of : (xs : List E) (j : ℕ) → j < length xs → E
      some_of [] j h = absurd (omega arith)
      some_of (x ∷ xs) j h = x

      waits : Alike t.block (queue t (clock + 1) memory') (staying bank block)
      waits j l =
          let in_block : j < length block = omega (arith, whole) in
          let x = some_of block j in_block in
          turning.waits j l (rank_lt t j l) x ∙ sym (staying_at bank block j in_block x)

-- memory full of one element
pub opened : (E : Type 0) (t : Triangle) (empty : E) (memory : List E) → memory ≡ replicate (memory_of t) empty → Opened E t empty memory
opened E t empty memory full = record {
  held = full;
  cleared = cleared;
  delays = λ clock. delays t empty (queue t clock memory) (cleared clock);
  returns = returns E t empty;
}
  where
    cleared : (clock : ℕ) → Cleared t empty (queue t clock memory)
    cleared clock j h =
        ap (λ xs. queue t clock xs j) full
        ∙ unfold queue wait_of in ring_cleared clock (start_at t.step (rank_of t j)) (t.step * rank_of t j) (memory_of t) empty (within t (rank_of t j) (rank_lt t j h))
