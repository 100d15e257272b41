-- Runs from cleared branches: one end, and both in a row. Assumes nothing.
use Rattle.std.proofs.Common.{◌≡◌, ℕ, ◌+◌, ◌-◌, ◌*◌, ◌<◌, ◌≤◌, ◌⊎◌, List, [], ◌++◌, length, get_or, replicate, sym, ap, ◌∙◌, inl, inr, mul-add, arith}
use Rattle.std.proofs.ByRecursion.{All-get_or}
use Rattle.std.proofs.lemmas.List.{get_or_append_left, get_or-append_right, get_or-map, get_or-replicate, length-replicate, same_lists}
use Rattle.std.proofs.lemmas.Bool.{cases_lt, le-ltb, lt-ltb}
use Rattle.delay.specs.declared.triangle.Triangle.{Triangle}
use Rattle.delay.specs.Queues.{Bank}
use Rattle.delay.specs.Triangles.{rising, falling, wait_of, delay_of, Cleared}
use Rattle.delay.specs.Runs.{Blocks, Delays, Returns, element, late, outs}
use Rattle.delay.proofs.Runs.{blocks_outs, column, element-outs, length-outs}

module _ {X : Type 0} (n : ℕ) (nothing : X) (went : ℕ → X) (u : ℕ) where
  pub late_before : u < n → late n nothing went u ≡ nothing
  unfolding late
  late_before h = rw (lt-ltb u n h)

  pub late-after : n ≤ u → late n nothing went u ≡ went (u - n)
  unfolding late
  late-after h = rw (le-ltb u n h)

-- only what went in n earlier counts
pub late_same : {X : Type 0} (n : ℕ) (nothing : X) (f g : ℕ → X) (u : ℕ) → (n ≤ u → f (u - n) ≡ g (u - n))
    → late n nothing f u ≡ late n nothing g u
late_same n nothing f g u same = go (cases_lt u n)
  where
    go : (u < n) ⊎ (n ≤ u) → late n nothing f u ≡ late n nothing g u
    go (inl h) = late_before n nothing f u h ∙ sym (late_before n nothing g u h)
    go (inr h) = late-after n nothing f u h ∙ same h ∙ sym (late-after n nothing g u h)

-- one delay behind another
pub late-late : {X : Type 0} (m n : ℕ) (nothing : X) (f : ℕ → X) (u : ℕ) → late m nothing (late n nothing f) u ≡ late (n + m) nothing f u
late-late m n nothing f u = go (cases_lt u m) (cases_lt u (n + m))
  where
    go : (u < m) ⊎ (m ≤ u) → (u < n + m) ⊎ (n + m ≤ u) → late m nothing (late n nothing f) u ≡ late (n + m) nothing f u
    go (inl h) (inl k) = late_before m nothing (late n nothing f) u h ∙ sym (late_before (n + m) nothing f u k)
    go (inl h) (inr k) = absurd (omega arith)
    go (inr h) (inl k) =
        late-after m nothing (late n nothing f) u h ∙ late_before n nothing f (u - m) (omega arith)
        ∙ sym (late_before (n + m) nothing f u k)
    go (inr h) (inr k) =
        let e : u - m - n ≡ u - (n + m) = omega arith in
        late-after m nothing (late n nothing f) u h ∙ late-after n nothing f (u - m) (omega arith) ∙ ap f e
        ∙ sym (late-after (n + m) nothing f u k)

-- a part of what is due is that part of what went in
pub late-map : {X Y : Type 0} (g : X → Y) (n : ℕ) (nothing : X) (f : ℕ → X) (u : ℕ)
    → g (late n nothing f u) ≡ late n (g nothing) (λ v. g (f v)) u
late-map g n nothing f u = go (cases_lt u n)
  where
    go : (u < n) ⊎ (n ≤ u) → g (late n nothing f u) ≡ late n (g nothing) (λ v. g (f v)) u
    go (inl h) = ap g (late_before n nothing f u h) ∙ sym (late_before n (g nothing) (λ v. g (f v)) u h)
    go (inr h) = ap g (late-after n nothing f u h) ∙ sym (late-after n (g nothing) (λ v. g (f v)) u h)

module _ {E : Type 0} where
  -- a queue of n clearing elements and then what entered
  pub get_d_late : (n : ℕ) (empty x : E) (xs : List E) (u : ℕ) → get_or (replicate n empty ++ xs) u x ≡ late n empty (λ v. get_or xs v x) u
  get_d_late n empty x xs u = go (cases_lt u n)
    where
      go : (u < n) ⊎ (n ≤ u) → get_or (replicate n empty ++ xs) u x ≡ late n empty (λ v. get_or xs v x) u
      go (inl h) =
          let within : u < length (replicate n empty) = omega (arith, length-replicate n empty) in
          get_or_append_left (replicate n empty) xs x u within ∙ get_or-replicate n u empty x h
          ∙ sym (late_before n empty (λ v. get_or xs v x) u h)
      go (inr h) =
          get_or-append_right (replicate n empty) xs n u x (length-replicate n empty) h
          ∙ sym (late-after n empty (λ v. get_or xs v x) u h)

  pub delays : (t : Triangle) (empty : E) (bank : Bank E) → Cleared t empty bank → Delays E t empty bank
  delays t empty bank cleared = record {
    shape = λ bs h. (length-outs bank bs, blocks_outs t.block bank bs h);
    elements = λ bs h u j k l x. element-outs t.block bank bs h u j k l x ∙ ap (λ q. get_or (q ++ column x j bs) u x) (cleared j l)
        ∙ get_d_late (wait_of t j) empty x (column x j bs) u
        ∙ late_same (wait_of t j) empty (λ v. get_or (column x j bs) v x) (λ v. element bs v j x) u
        (λ m. get_or-map (λ b. get_or b j x) bs (u - wait_of t j) [] x (omega arith));
  }

-- the waits of a branch at both ends make the delay
pub waits : (I M j : ℕ) → j < I → wait_of (rising I M) j + wait_of (falling I M) j ≡ M * (I - 1)
unfolding wait_of
waits I M j h = let e : j + (I - 1 - j) ≡ I - 1 = omega arith in sym (mul-add M j (I - 1 - j)) ∙ ap (λ k. M * k) e

pub returns : (E : Type 0) (t : Triangle) (empty : E) → Returns E t empty (delay_of t)
returns E t empty sender receiver sent received bs h u k =
    same_lists (get_or twice u []) due (twice_length ∙ sym due_length) (λ j x l. each j x (omega (arith, twice_length)))
  where
    I : ℕ
    I = t.block

    M : ℕ
    M = t.step

    once : List (List E)
    once = outs sender bs

    twice : List (List E)
    twice = outs receiver once

    due : List E
    due = late (delay_of t) (replicate I empty) (λ v. get_or bs v []) u

    once_blocks : Blocks I once
    once_blocks = blocks_outs I sender bs h

    once_length : length once ≡ length bs
    once_length = length-outs sender bs

    twice_length : length (get_or twice u []) ≡ I
    twice_length =
        All-get_or (λ b. length b ≡ I) twice u [] (omega (arith, length-outs receiver once, once_length, k)) (blocks_outs I receiver once once_blocks)

    due_length : length due ≡ I
    due_length = go (cases_lt u (delay_of t))
      where
        go : (u < delay_of t) ⊎ (delay_of t ≤ u) → length due ≡ I
        go (inl m) = ap length (late_before (delay_of t) (replicate I empty) (λ v. get_or bs v []) u m) ∙ length-replicate I empty
        go (inr m) =
            ap length (late-after (delay_of t) (replicate I empty) (λ v. get_or bs v []) u m)
            ∙ All-get_or (λ b. length b ≡ I) bs (u - delay_of t) [] (omega (arith, k)) h

    each : (j : ℕ) (x : E) → j < I → get_or (get_or twice u []) j x ≡ get_or due j x
    each j x l =
        let m = wait_of (falling I M) j in
        let n = wait_of (rising I M) j in
        let f : ℕ → E = λ v. element bs v j x in
        (delays (falling I M) empty receiver received).elements once once_blocks u j (omega (arith, once_length, k)) l x
        ∙ late_same m empty (λ v. element once v j x) (late n empty f) u
        (λ b. (delays (rising I M) empty sender sent).elements bs h (u - m) j (omega (arith, k)) l x)
        ∙ late-late m n empty f u ∙ ap (λ d. late d empty f u) (waits I M j l)
        ∙ ap (λ y. late (delay_of t) y f u) (sym (get_or-replicate I j empty x l))
        ∙ sym (late-map (λ b. get_or b j x) (delay_of t) (replicate I empty) (λ v. get_or bs v []) u)

pub returns_at : (t : Triangle) (empty d : ℕ) → d ≡ delay_of t → Returns ℕ t empty d
returns_at t empty d is = rw is (returns ℕ t empty)
