-- The line of a sender's run. Assumes nothing.
use Rattle.std.proofs.Common.{◌≡◌, ℕ, suc, ◌+◌, ◌-◌, ◌*◌, ◌/◌, ◌%◌, ◌<◌, ◌≤◌, eqb, ltb, ◌⊎◌, List, [], ◌∷◌, ◌++◌, length, get_or, replicate, sym, refl, ap, ◌∙◌, subst, ap₂, inl, inr, mod-lt, suc-mul, div-lt_iff_lt-mul, div-add-mod', zero-mul, arith}
use Prim.{⊥}
use lib.Arith.{digits_div, digits_lt, digits_mod}
use Rattle.std.proofs.lemmas.List.{get_or-append-add, get_or_append_left, get_or-append_right, get_or_past, get_or-replicate, length-append, length_push, length-replicate}
use Rattle.std.proofs.lemmas.Bool.{and_parts, cases_lt, eqb-true}
use Rattle.places.specs.Line.{Plan, place}
use Rattle.coder.specs.Codes.{Code}
use Rattle.scrambler.specs.Scrambler.{scrambled, after}
use Rattle.delay.specs.declared.triangle.Triangle.{Triangle}
use Rattle.delay.specs.Triangles.{memory_of, queue, rising, wait_of}
use Rattle.runs.specs.Senders.{Draining, Interleaves, Sending, Sent, frame_fits, most_words, senders_bank}
use Rattle.runs.specs.Histories.{DrainingRun, SenderRun, SendingRun, draining, drains, ends, opens, sending, sends}
use Rattle.runs.specs.Histories as histories
use Rattle.runs.specs.Theorem.{LineHolds, earlier_at, sent_at, word_at}
use Rattle.runs.proofs.Settled.{Fits, Settled}
use Rattle.runs.proofs.Refusals.{test_passed}
use Rattle.runs.proofs.Rows.{row_below, some_word, stream_place, words_blocks}
use Rattle.runs.proofs.Words.{last_earlier, last_word, length_word, word_same}
use Rattle.runs.proofs.Passing.{Passed, cleared_memory, length_out, none_passed, out_first, out_then, pass_on}

zeros_at : (n k : ℕ) → let none : ℕ = 0 in get_or (replicate n none) k none ≡ none
zeros_at n k = go (cases_lt k n)
  where
    none : ℕ
    none = 0

    go : (k < n) ⊎ (n ≤ k) → get_or (replicate n none) k none ≡ none
    go (inl l) = get_or-replicate n k none none l
    go (inr l) = get_or_past (replicate n none) k none (omega (arith, length-replicate n none))

-- ---- what a sender has put on the line

-- The words of all frames have entered the interleaver in order, and zeros since.
pub record Sends (p : Plan) (c : Code) (frames : List (List ℕ)) (line : List ℕ) (clock : ℕ) (memory : List ℕ) : Type 0 where
  pub entered : List ℕ
  pub passed : Passed (rising p.block p.step) 0 clock (senders_bank p clock memory) entered line
  pub enough : length frames * p.word ≤ length entered
  pub held : (n k : ℕ) → n < length frames → k < p.word → get_or entered (n * p.word + k) 0 ≡ get_or (word_at c frames n) k 0
  pub zeros : (i : ℕ) → length frames * p.word ≤ i → get_or entered i 0 ≡ 0

pub record SendsNow (p : Plan) (c : Code) (frames : List (List ℕ)) (line : List ℕ) (s : Sending) (memory : List ℕ) : Type 0 where
  pub words : s.words ≡ length frames
  pub earlier : s.earlier ≡ earlier_at frames (length frames)
  pub sends : Sends p c frames line (s.words * p.parts) memory

at_clock : {p : Plan} {c : Code} {frames : List (List ℕ)} {line memory : List ℕ} {clock clock' : ℕ} → clock ≡ clock'
    → Sends p c frames line clock memory → Sends p c frames line clock' memory
at_clock {p} {c} {frames} {line} {memory} e h = subst (λ u. Sends p c frames line u memory) e h

module _ {p : Plan} {c : Code} (settled : Settled p) (fits : Fits p c) where
  none_sent : Sends p c [] [] 0 (replicate p.memory 0)
  none_sent = record {
    entered = [];
    passed = rw settled.remembers (none_passed t 0 (queue t 0 (replicate (memory_of t) 0)) (cleared_memory t 0 0));
    enough = omega (arith, zero-mul p.word);
    held = λ n k h l. absurd (omega arith);
    zeros = λ i h. refl;
  }
    where
      t : Triangle
      t = rising p.block p.step

  -- N octets more enter
  enters : {frames : List (List ℕ)} {line memory memory' : List ℕ} {clock : ℕ} (sent : Sends p c frames line clock memory)
      → (entering written : List ℕ) → length entering ≡ p.word → Interleaves p clock memory memory' entering written
      → Passed (rising p.block p.step) 0 (clock + p.parts) (senders_bank p (clock + p.parts) memory') (sent.entered ++ entering) (line ++ written)
  enters {line = line} {memory} {memory'} {clock} sent entering written whole interleaves =
      let t = rising p.block p.step in
      rw interleaves.line_octets
      (pass_on t 0 sent.passed p.parts (senders_bank p (clock + p.parts) memory') entering (whole ∙ sym settled.laid.whole) interleaves.waits)

  word_enters : {frames : List (List ℕ)} {line : List ℕ} {s s' : Sending} {memory memory' : List ℕ} (frame written : List ℕ)
      → SendsNow p c frames line s memory → length frame ≡ p.frame → Sent p c s s' memory memory' frame written
      → SendsNow p c (frames ++ frame ∷ []) (line ++ written) s' memory'
  word_enters {frames} {line} {s} {s'} {memory} {memory'} frame written now whole sent = record {
    words = sent.words ∙ ap suc now.words ∙ sym count;
    earlier = sent.earlier ∙ ap (λ e. after e (scrambled e frame)) now.earlier
        ∙ sym (last_earlier frames frame) ∙ ap (earlier_at (frames ++ frame ∷ [])) (sym count);
    sends = at_clock (sym (ap (λ w. w * p.parts) sent.words ∙ suc-mul s.words p.parts)) (record {
      entered = so_far ++ word;
      passed = enters now.sends word written long sent.interleaves;
      enough = omega (arith, all_entered, length-append so_far word, long, ap (λ m. m * p.word) count, suc-mul (length frames) p.word);
      held = λ n k h l. held_at n k (cases_lt n (length frames)) h l;
      zeros = λ i h. get_or_past (so_far ++ word) i 0
          (omega (arith, all_entered, length-append so_far word, long, ap (λ m. m * p.word) count, suc-mul (length frames) p.word));
    });
  }
    where
      word : List ℕ
      word = c.word_of (scrambled s.earlier frame)

      so_far : List ℕ
      so_far = now.sends.entered

      long : length word ≡ p.word
      long = length_word fits s.earlier frame whole

      count : length (frames ++ frame ∷ []) ≡ suc (length frames)
      count = length_push frames frame ∙ omega arith

      all_entered : length so_far ≡ length frames * p.word
      all_entered =
          now.sends.passed.long ∙ ap (λ w. w * p.parts * p.block) now.words ∙ words_blocks settled (length frames)

      held_at : (n k : ℕ) → (n < length frames) ⊎ (length frames ≤ n) → n < length (frames ++ frame ∷ []) → k < p.word
          → get_or (so_far ++ word) (n * p.word + k) 0 ≡ get_or (word_at c (frames ++ frame ∷ []) n) k 0
      held_at n k (inl h) _ l =
          get_or_append_left so_far word 0 (n * p.word + k) (rw all_entered (digits_lt h l)) ∙ now.sends.held n k h l
          ∙ ap (λ w. get_or w k 0) (sym (word_same c frames (frame ∷ []) n h))
      held_at n k (inr h) m l =
          let e : n ≡ length frames = omega (arith, count) in
          ap (λ i. get_or (so_far ++ word) i 0) (omega (arith, ap (λ i. i * p.word) e, all_entered))
          ∙ get_or-append-add so_far word k 0
          ∙ ap (λ e. get_or (c.word_of (scrambled e frame)) k 0) now.earlier
          ∙ ap (λ w. get_or w k 0) (sym (last_word c frames frame))
          ∙ ap (λ i. get_or (word_at c (frames ++ frame ∷ []) i) k 0) (sym e)

  zeros_enter : {frames : List (List ℕ)} {line memory memory' : List ℕ} {clock : ℕ} (written : List ℕ) → Sends p c frames line clock memory
      → Interleaves p clock memory memory' (replicate p.word 0) written → Sends p c frames (line ++ written) (clock + p.parts) memory'
  zeros_enter {frames} written sent interleaves = record {
    entered = so_far ++ none;
    passed = enters sent none written (length-replicate p.word 0) interleaves;
    enough = omega (arith, sent.enough, length-append so_far none);
    held = λ n k h l. get_or_append_left so_far none 0 (n * p.word + k) (omega (arith, digits_lt h l, sent.enough)) ∙ sent.held n k h l;
    zeros = λ i h. zero_at i h (cases_lt i (length so_far));
  }
    where
      none : List ℕ
      none = replicate p.word 0

      so_far : List ℕ
      so_far = sent.entered

      zero_at : (i : ℕ) → length frames * p.word ≤ i → (i < length so_far) ⊎ (length so_far ≤ i) → get_or (so_far ++ none) i 0 ≡ 0
      zero_at i h (inl l) = get_or_append_left so_far none 0 i l ∙ sent.zeros i h
      zero_at i h (inr l) = get_or-append_right so_far none (length so_far) i 0 refl l ∙ zeros_at p.word (i - length so_far)

  -- ---- histories

  sends_now : {frames : List (List ℕ)} {line : List ℕ} {s : Sending} {memory : List ℕ} → SendingRun p c frames line s memory
      → SendsNow p c frames line s memory
  unfolding earlier_at
  sends_now opens = record { words = refl; earlier = refl; sends = at_clock (sym (zero-mul p.parts)) none_sent }
  sends_now (sends {s = s} {memory = memory} frame before written run answer sent) =
      let tests = (test_passed (ltb s.words most_words) 10 _ answer).1 in
      let fitting = (test_passed (frame_fits p c frame) 5 _ tests).0 in
      word_enters frame written (sends_now run) (eqb-true (length frame) p.frame (and_parts (eqb (length frame) p.frame) _ fitting).0) sent
  sends_now (histories.SendingRun.refuses run) = sends_now run

  drains_now : {frames : List (List ℕ)} {line : List ℕ} {s : Draining} {memory : List ℕ} → DrainingRun p c frames line s memory
      → Sends p c frames line ((s.words + s.drained) * p.parts) memory
  drains_now (ends {s = s} run) = at_clock (ap (λ w. w * p.parts) (omega arith)) (sends_now run).sends
  drains_now (drains {s = s} {s' = s'} before written run answer drained) =
      let e : s'.words + s'.drained ≡ suc (s.words + s.drained) = omega (arith, drained.words, drained.drained) in
      at_clock (sym (ap (λ w. w * p.parts) e ∙ suc-mul (s.words + s.drained) p.parts)) (zeros_enter written (drains_now run) drained.interleaves)
  drains_now (histories.DrainingRun.refuses run) = drains_now run

  -- ---- places

  wait_is : (j : ℕ) → wait_of (rising p.block p.step) j ≡ p.step * j
  unfolding wait_of
  wait_is j = refl

  module _ {frames : List (List ℕ)} {line memory : List ℕ} {clock : ℕ} (sent : Sends p c frames line clock memory) where
    length_line : length line ≡ clock * p.block
    length_line = length_out (rising p.block p.step) 0 sent.passed

    words_stand : (n k : ℕ) → n < length frames → k < p.word → place p n k < length line
        → sent_at line (place p n k) ≡ get_or (word_at c frames n) k 0
    unfolding place
    words_stand n k h l m =
        let v = n * p.parts + k / p.block in
        let j = k % p.block in
        let u = v + p.step * j in
        let below : u < clock = row_below settled u j clock (omega (arith, m, length_line)) in
        out_then (rising p.block p.step) 0 sent.passed u v j below (mod-lt k settled.laid.some) 0 (omega (arith, wait_is j))
        ∙ ap (λ i. get_or sent.entered i 0) (stream_place settled n k) ∙ sent.held n k h l

    -- the octet that stands at a place
    module _ (i : ℕ) (none : (n k : ℕ) → n < length frames → k < p.word → place p n k ≡ i → ⊥) where
      past_words : (v : ℕ) → v + p.step * (i % p.block) ≡ i / p.block → length frames * p.word ≤ v * p.block + i % p.block
      unfolding place
      past_words v row = go (cases_lt e (length frames * p.word))
        where
          j : ℕ
          j = i % p.block

          e : ℕ
          e = v * p.block + j

          n : ℕ
          n = e / p.word

          k : ℕ
          k = e % p.word

          same : v * p.block + j ≡ (n * p.parts + k / p.block) * p.block + k % p.block
          same = sym (div-add-mod' e p.word) ∙ sym (stream_place settled n k)

          j_lt : j < p.block
          j_lt = mod-lt i settled.laid.some

          k_lt : k % p.block < p.block
          k_lt = mod-lt k settled.laid.some

          branch : k % p.block ≡ j
          branch = sym (digits_mod (n * p.parts + k / p.block) k_lt) ∙ ap (λ x. x % p.block) (sym same) ∙ digits_mod v j_lt

          block_row : n * p.parts + k / p.block ≡ v
          block_row = sym (digits_div (n * p.parts + k / p.block) k_lt) ∙ ap (λ x. x / p.block) (sym same) ∙ digits_div v j_lt

          there : place p n k ≡ i
          there =
              unfold place in ap₂ (λ b x. (b + p.step * x) * p.block + x) block_row branch
              ∙ ap (λ r. r * p.block + j) row ∙ div-add-mod' i p.block

          go : (e < length frames * p.word) ⊎ (length frames * p.word ≤ e) → length frames * p.word ≤ e
          go (inl h) = absurd (none n k ((div-lt_iff_lt-mul (some_word settled)).1 h) (mod-lt e (some_word settled)) there)
          go (inr h) = h

      nothing_stands : sent_at line i ≡ 0
      nothing_stands = go (cases_lt i (length line)) (cases_lt (i / p.block) (p.step * (i % p.block)))
        where
          u : ℕ
          u = i / p.block

          j : ℕ
          j = i % p.block

          t : Triangle
          t = rising p.block p.step

          j_lt : j < p.block
          j_lt = mod-lt i settled.laid.some

          at : sent_at line i ≡ sent_at line (u * p.block + j)
          at = ap (sent_at line) (sym (div-add-mod' i p.block))

          below : i < length line → u < clock
          below h = row_below settled u j clock (omega (arith, h, length_line, div-add-mod' i p.block))

          go : (i < length line) ⊎ (length line ≤ i) → (u < p.step * j) ⊎ (p.step * j ≤ u) → sent_at line i ≡ 0
          go (inr h) _ = get_or_past line i 0 h
          go (inl h) (inl l) = at ∙ out_first t 0 sent.passed u j (below h) j_lt 0 (omega (arith, wait_is j))
          go (inl h) (inr l) =
              let v = u - p.step * j in
              at ∙ out_then t 0 sent.passed u v j (below h) j_lt 0 (omega (arith, wait_is j, l))
              ∙ sent.zeros (v * p.block + j) (past_words v (omega (arith, l)))

    stands : LineHolds p c frames line
    stands = record { words = words_stand; others = nothing_stands }

  pub line_holds : (frames : List (List ℕ)) (line : List ℕ) → SenderRun p c frames line → LineHolds p c frames line
  line_holds frames line (sending s memory run) = stands (sends_now run).sends
  line_holds frames line (draining s memory run) = stands (drains_now run)
