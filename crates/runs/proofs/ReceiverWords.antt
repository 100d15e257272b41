-- The words that a receiver gathers. Assumes nothing.
use Rattle.std.proofs.Common.{◌≡◌, ℕ, zero, suc, ◌+◌, ◌-◌, ◌*◌, ◌/◌, ◌%◌, ◌<◌, ◌≤◌, eqb, ltb, ◌⊎◌, List, [], ◌∷◌, ◌++◌, length, get_or, take, drop, replicate, sym, refl, ap, ◌∙◌, subst, ap₂, inl, inr, mul-le-mul_right, mod-lt, suc-mul, mul_comm, add-mul, zero-mul, arith}
use native.Mathlib.Nat.{mul-sub}
use lib.Arith.{digits_lt}
use lib.Seq.{drop-append-add, drop-nil, take-append-add}
use Rattle.std.proofs.lemmas.List.{drop_all, drop-append-le, get_or_append_left, get_or-drop, get_or_push, get_or-take, length-append, length-drop, length_push, length-take-le, take-append-le, take-replicate}
use Rattle.std.proofs.lemmas.Bool.{and_parts, cases_lt, eqb-true}
use Rattle.places.specs.Line.{Plan, place}
use Rattle.places.proofs.Places.{part_lt}
use Rattle.coder.specs.declared.arrival.Arrival.{Arrival}
use Rattle.coder.specs.declared.arrival.Arrival.TheVariants.{Octet, Lost}
use Rattle.coder.specs.Codes.{Code}
use Rattle.delay.specs.declared.triangle.Triangle.{Triangle}
use Rattle.delay.specs.Triangles.{falling, wait_of}
use Rattle.delay.proofs.Delays.{waits}
use Rattle.runs.specs.Senders.{frame_fits, line_fits, most_words}
use Rattle.runs.specs.Receivers.{Answer, coder_loss, Delays, Filled, Filling, Gives, Received, Running, completed, delayed, gathered, kept, receivers_bank, started}
use Rattle.runs.specs.Histories.{FillingRun, ReceiverRun, RunningRun, fills, filling, opens, receives, running, starts}
use Rattle.runs.specs.Histories as histories
use Rattle.runs.specs.Theorem.{AnswersRest, answer_at, arrived_at}
use Rattle.runs.proofs.Settled.{Settled}
use Rattle.runs.proofs.Refusals.{test_passed}
use Rattle.runs.proofs.Rows.{stream_place, words_blocks}
use Rattle.runs.proofs.Passing.{Passed, cleared_memory, length_out, none_passed, out_then, pass_on}

drop-append : {E : Type 0} (n : ℕ) (xs ys : List E) → drop n (xs ++ ys) ≡ drop n xs ++ drop (n - length xs) ys
drop-append zero xs ys = let e : 0 ≡ 0 - length xs = omega arith in ap (λ n. xs ++ drop n ys) e
drop-append (suc n) [] ys = let e : suc n ≡ suc n - 0 = omega arith in ap (λ m. drop m ys) e
drop-append (suc n) (x ∷ xs) ys = drop-append n xs ys ∙ ap (λ m. drop n xs ++ drop m ys) (omega arith)

gives_same : (c : Code) {s t s' t' : Running} {word other : List Arrival} {answer same : Answer} → s ≡ t → s' ≡ t' → word ≡ other → answer ≡ same
    → Gives c s s' word answer → Gives c t t' other same
gives_same c {s} {t} {s'} {t'} {word} {other} {answer} {same} a b d e h =
    subst (λ x. Gives c t t' other x) e
    (subst (λ x. Gives c t t' x answer) d (subst (λ x. Gives c t x word answer) b (subst (λ x. Gives c x s' word answer) a h)))

-- what has left the delay line of a receiver; the first d blocks are no part of a word
abbrev word_from : Plan → List Arrival → ℕ → List Arrival
word_from p out n = take p.word (drop (p.delay * p.block + n * p.word) out)

pub record Fills (p : Plan) (arrivals : List Arrival) (f : ℕ) (memory : List Arrival) : Type 0 where
  pub out : List Arrival
  pub passed : Passed (falling p.block p.step) (Octet 0) (f * p.parts) (receivers_bank p (f * p.parts) memory) arrivals out
  pub gathers : gathered p (kept p f) memory ≡ drop (p.delay * p.block) out

pub record Runs (p : Plan) (c : Code) (arrivals : List Arrival) (answers : List Answer) (s : Running) (memory : List Arrival) : Type 0 where
  pub out : List Arrival
  pub passed : Passed (falling p.block p.step) (Octet 0) ((p.lag + s.words) * p.parts)
      (receivers_bank p ((p.lag + s.words) * p.parts) memory) arrivals out
  pub words : s.words ≡ length answers
  pub gathers : gathered p (kept p p.lag) memory ≡ drop (p.delay * p.block + length answers * p.word) out
  pub states : List Running
  pub count : length states ≡ suc (length answers)
  pub first : get_or states 0 started ≡ started
  pub last : get_or states (length answers) started ≡ s
  pub gives : (n : ℕ) → n < length answers
      → Gives c (get_or states n started) (get_or states (suc n) started) (word_from p out n) (answer_at answers n)

module _ {p : Plan} (settled : Settled p) where
  -- d × I against whole words
  kept_is : (f : ℕ) → kept p f ≡ f * p.word - p.delay * p.block
  kept_is f =
      mul_comm (f * p.parts - p.delay) p.block ∙ mul-sub p.block (f * p.parts) p.delay
      ∙ ap₂ (λ a b. a - b) (mul_comm p.block (f * p.parts) ∙ words_blocks settled f) (mul_comm p.block p.delay)

  delay_low : p.delay * p.block ≤ p.lag * p.word
  delay_low =
      let h : p.delay * p.block ≤ p.lag * p.parts * p.block = mul-le-mul_right p.block settled.lag_enough in
      omega (arith, h, words_blocks settled p.lag)

  delay_high : p.lag * p.word ≤ p.delay * p.block + p.word
  delay_high =
      let h : p.lag * p.parts * p.block ≤ (p.delay + p.parts) * p.block = mul-le-mul_right p.block (omega (arith, settled.lag_least)) in
      omega (arith, h, words_blocks settled p.lag, add-mul p.delay p.parts p.block, settled.laid.whole)

  -- N arrivals more enter
  module _ {clock : ℕ} {memory memory' arrivals out : List Arrival} (line : List Arrival)
      (passed : Passed (falling p.block p.step) (Octet 0) clock (receivers_bank p clock memory) arrivals out)
      (whole : length line ≡ p.word) (delays : Delays p clock memory memory' line) where
    enter : Passed (falling p.block p.step) (Octet 0) (clock + p.parts) (receivers_bank p (clock + p.parts) memory') (arrivals ++ line)
        (out ++ delayed p clock memory line)
    enter =
        pass_on (falling p.block p.step) (Octet 0) passed p.parts (receivers_bank p (clock + p.parts) memory') line
        (whole ∙ sym settled.laid.whole) delays.waits

    leave : length (delayed p clock memory line) ≡ p.word
    leave =
        let t = falling p.block p.step in
        omega (
          arith,
          length_out t (Octet 0) passed,
          length_out t (Octet 0) enter,
          length-append out (delayed p clock memory line),
          add-mul clock p.parts p.block,
          settled.laid.whole,
        )

  -- ---- filling

  none_filled : Fills p [] 0 (replicate (p.memory + p.word) (Octet 0))
  none_filled = record {
    out = [];
    passed = subst (λ u. Passed t (Octet 0) u (receivers_bank p u memory) [] []) (sym (zero-mul p.parts))
        (none_passed t (Octet 0) (receivers_bank p 0 memory)
        (rw (take-replicate p.memory (p.memory + p.word) (Octet 0) (omega arith), settled.remembers) (cleared_memory t (Octet 0) 0)));
    gathers = ap (λ k. gathered p k memory) nothing ∙ sym (drop-nil (p.delay * p.block));
  }
    where
      t : Triangle
      t = falling p.block p.step

      memory : List Arrival
      memory = replicate (p.memory + p.word) (Octet 0)

      nothing : kept p 0 ≡ 0
      nothing = omega (arith, kept_is 0, zero-mul p.word)

  fill_on : {arrivals memory memory' : List Arrival} {s s' : Filling} (line : List Arrival) → Fills p arrivals s.filled memory
      → length line ≡ p.word → Filled p s s' memory memory' line → Fills p (arrivals ++ line) s'.filled memory'
  fill_on {arrivals} {memory} {memory'} {s} {s'} line now whole filled =
      subst (λ k. Fills p (arrivals ++ line) k memory') (sym filled.filled) (record {
        out = now.out ++ leaving;
        passed = subst (λ u. Passed (falling p.block p.step) (Octet 0) u (receivers_bank p u memory') (arrivals ++ line) (now.out ++ leaving))
            (sym (suc-mul f p.parts)) (enter line now.passed whole filled.delays);
        gathers = filled.gathers ∙ ap₂ (λ xs ys. xs ++ ys) now.gathers (go (cases_lt p.word (skipped - length now.out)))
            ∙ sym (drop-append skipped now.out leaving);
      })
    where
      f : ℕ
      f = s.filled

      leaving : List Arrival
      leaving = delayed p (f * p.parts) memory line

      skipped : ℕ
      skipped = p.delay * p.block

      long : length leaving ≡ p.word
      long = leave line now.passed whole filled.delays

      met : length now.out ≡ f * p.word
      met = length_out (falling p.block p.step) (Octet 0) now.passed ∙ words_blocks settled f

      go : (p.word < skipped - length now.out) ⊎ (skipped - length now.out ≤ p.word)
          → drop (p.word - (kept p (suc f) - kept p f)) leaving ≡ drop (skipped - length now.out) leaving
      go (inl h) =
          drop_all (p.word - (kept p (suc f) - kept p f)) leaving (omega (arith, long, met, kept_is f, kept_is (suc f), suc-mul f p.word, h))
          ∙ sym (drop_all (skipped - length now.out) leaving (omega (arith, long, h)))
      go (inr h) = ap (λ k. drop k leaving) (omega (arith, met, kept_is f, kept_is (suc f), suc-mul f p.word, h))

  fills_now : {arrivals : List Arrival} {s : Filling} {memory : List Arrival} → FillingRun p arrivals s memory → Fills p arrivals s.filled memory
  fills_now opens = none_filled
  fills_now (fills {s = s} {memory = memory} line run answer filled) =
      let tests = (test_passed (ltb s.filled p.lag) 11 _ answer).1 in
      fill_on line (fills_now run) (eqb-true (length line) p.word (test_passed (eqb (length line) p.word) 6 _ tests).0) filled
  fills_now (histories.FillingRun.refuses run) = fills_now run

  -- ---- running

  module _ {c : Code} where
    start_now : {arrivals : List Arrival} {f : ℕ} {memory : List Arrival} → Fills p arrivals f memory → f ≡ p.lag
        → Runs p c arrivals [] started memory
    start_now {arrivals} {f} {memory} now e = record {
      out = now.out;
      passed = subst (λ u. Passed (falling p.block p.step) (Octet 0) u (receivers_bank p u memory) arrivals now.out)
          (ap (λ w. w * p.parts) (omega (arith, e))) now.passed;
      words = refl;
      gathers = ap (λ w. gathered p (kept p w) memory) (sym e) ∙ now.gathers ∙ ap (λ k. drop k now.out) (omega (arith, zero-mul p.word));
      states = started ∷ [];
      count = refl;
      first = refl;
      last = refl;
      gives = λ n h. absurd (omega arith);
    }

    run_on : {arrivals memory memory' : List Arrival} {answers : List Answer} {s s' : Running} (line : List Arrival) (answer : Answer)
        → Runs p c arrivals answers s memory → length line ≡ p.word → Received p c s s' memory memory' line answer
        → Runs p c (arrivals ++ line) (answers ++ answer ∷ []) s' memory'
    run_on {arrivals} {memory} {memory'} {answers} {s} {s'} line answer now whole received = record {
      out = out ++ leaving;
      passed = subst (λ u. Passed (falling p.block p.step) (Octet 0) u (receivers_bank p u memory') (arrivals ++ line) (out ++ leaving))
          clock (enter line now.passed whole received.delays);
      words = received.words ∙ ap suc now.words ∙ sym one_more;
      gathers = received.gathers ∙ sym (drop-append-add out leaving (p.word - kept p p.lag)) ∙ ap (λ k. drop k (out ++ leaving)) next;
      states = now.states ++ s' ∷ [];
      count = length_push now.states s' ∙ omega (arith, now.count, one_more);
      first = get_or_append_left now.states (s' ∷ []) started 0 (omega (arith, now.count)) ∙ now.first;
      last = ap (λ k. get_or (now.states ++ s' ∷ []) k started) one_more ∙ get_or_push now.states s' started (suc n) now.count;
      gives = λ m h. gives_at m (cases_lt m n) h;
    }
      where
        n : ℕ
        n = length answers

        out : List Arrival
        out = now.out

        leaving : List Arrival
        leaving = delayed p ((p.lag + s.words) * p.parts) memory line

        one_more : length (answers ++ answer ∷ []) ≡ suc n
        one_more = length_push answers answer ∙ omega arith

        clock : (p.lag + s.words) * p.parts + p.parts ≡ (p.lag + s'.words) * p.parts
        clock =
            let e : suc (p.lag + s.words) ≡ p.lag + s'.words = omega (arith, received.words) in
            sym (suc-mul (p.lag + s.words) p.parts) ∙ ap (λ w. w * p.parts) e

        met : length out ≡ p.lag * p.word + n * p.word
        met =
            length_out (falling p.block p.step) (Octet 0) now.passed ∙ words_blocks settled (p.lag + s.words)
            ∙ ap (λ w. (p.lag + w) * p.word) now.words ∙ add-mul p.lag n p.word

        next : length out + (p.word - kept p p.lag) ≡ p.delay * p.block + length (answers ++ answer ∷ []) * p.word
        next = omega (arith, met, kept_is p.lag, delay_low, delay_high, ap (λ k. k * p.word) one_more, suc-mul n p.word)

        -- the word that is completed now
        begun : List Arrival
        begun = drop (p.delay * p.block + n * p.word) out

        begun_long : length begun + (p.word - kept p p.lag) ≡ p.word
        begun_long =
            omega (arith, length-drop (p.delay * p.block + n * p.word) out, met, kept_is p.lag, delay_low, delay_high)

        whole_word : completed p s memory line ≡ word_from p (out ++ leaving) n
        whole_word =
            ap (λ xs. xs ++ take (p.word - kept p p.lag) leaving) now.gathers
            ∙ sym (take-append-add begun leaving (p.word - kept p p.lag))
            ∙ ap (λ k. take k (begun ++ leaving)) begun_long
            ∙ ap (take p.word) (sym (drop-append-le (p.delay * p.block + n * p.word) out leaving (omega (arith, met, delay_low))))

        -- an earlier word
        same_word : (m : ℕ) → m < n → word_from p out m ≡ word_from p (out ++ leaving) m
        same_word m h =
            let a = p.delay * p.block + m * p.word in
            let l : suc m * p.word ≤ n * p.word = mul-le-mul_right p.word h in
            sym (ap (take p.word) (drop-append-le a out leaving (omega (arith, met, delay_low, l, suc-mul m p.word)))
            ∙ take-append-le p.word (drop a out) leaving (omega (arith, length-drop a out, met, delay_low, l, suc-mul m p.word)))

        state_same : (m : ℕ) → m < suc n → get_or now.states m started ≡ get_or (now.states ++ s' ∷ []) m started
        state_same m h = sym (get_or_append_left now.states (s' ∷ []) started m (omega (arith, now.count)))

        gives_at : (m : ℕ) → (m < n) ⊎ (n ≤ m) → m < length (answers ++ answer ∷ [])
            → Gives c (get_or (now.states ++ s' ∷ []) m started) (get_or (now.states ++ s' ∷ []) (suc m) started) (word_from p (out ++ leaving) m)
            (answer_at (answers ++ answer ∷ []) m)
        gives_at m (inl h) _ =
            gives_same c (state_same m (omega arith)) (state_same (suc m) (omega arith)) (same_word m h)
            (sym (get_or_append_left answers (answer ∷ []) (coder_loss 0) m h)) (now.gives m h)
        gives_at m (inr h) k =
            let e : n ≡ m = omega (arith, one_more) in
            gives_same c (sym now.last ∙ state_same n (omega arith) ∙ ap (λ i. get_or (now.states ++ s' ∷ []) i started) e)
            (sym (get_or_push now.states s' started (suc n) now.count) ∙ ap (λ i. get_or (now.states ++ s' ∷ []) (suc i) started) e)
            (whole_word ∙ ap (word_from p (out ++ leaving)) e)
            (sym (get_or_push answers answer (coder_loss 0) n refl) ∙ ap (answer_at (answers ++ answer ∷ [])) e)
            received.gives

    runs_now : {arrivals : List Arrival} {answers : List Answer} {s : Running} {memory : List Arrival} → RunningRun p c arrivals answers s memory
        → Runs p c arrivals answers s memory
    runs_now (starts {s = s} run answer) =
        start_now (fills_now run) (eqb-true s.filled p.lag (test_passed (eqb s.filled p.lag) 11 _ answer).0)
    runs_now (receives {s = s} line before answer run accepted received) =
        let tests = (test_passed (ltb s.words most_words) 10 _ accepted).1 in
        let later = (test_passed (frame_fits p c before) 5 _ tests).1 in
        let fitting = (test_passed (line_fits p c line) 6 _ later).0 in
        run_on line answer (runs_now run) (eqb-true (length line) p.word (and_parts (eqb (length line) p.word) _ fitting).0) received
    runs_now (histories.RunningRun.refuses run) = runs_now run

    -- ---- places

    module _ {arrivals memory : List Arrival} {answers : List Answer} {s : Running} (now : Runs p c arrivals answers s memory)
        (n k : ℕ) (h : n < length answers) (l : k < p.word) where
      branch : ℕ
      branch = k % p.block

      -- the line block in which octet k of word n arrives, and the one with which it leaves
      row : ℕ
      row = n * p.parts + k / p.block + p.step * branch

      due : ℕ
      due = n * p.parts + k / p.block + p.delay

      branch_lt : branch < p.block
      unfolding branch
      branch_lt = mod-lt k settled.laid.some

      wait : row + wait_of (falling p.block p.step) branch ≡ due
      unfolding row due
      wait =
          let both : p.step * branch + wait_of (falling p.block p.step) branch ≡ p.step * (p.block - 1)
          = unfold wait_of in waits p.block p.step branch branch_lt in
          omega (arith, both, settled.delays)

      due_lt : due < (p.lag + s.words) * p.parts
      unfolding due
      due_lt =
          let m : suc n * p.parts ≤ s.words * p.parts = mul-le-mul_right p.parts (omega (arith, now.words, h)) in
          omega (arith, m, suc-mul n p.parts, add-mul p.lag s.words p.parts, part_lt settled.laid k l, settled.lag_enough)

      arrived : place p n k < length arrivals
      unfolding place row branch
      arrived =
          let inside : row * p.block + branch < (p.lag + s.words) * p.parts * p.block
          = digits_lt (omega (arith, wait, due_lt)) branch_lt in
          omega (arith, inside, now.passed.long)

      octet_is : get_or (word_from p now.out n) k Lost ≡ arrived_at arrivals (place p n k)
      unfolding place row branch due
      octet_is =
          let a = p.delay * p.block + n * p.word in
          let there : a + k ≡ due * p.block + branch
          = omega (arith, stream_place settled n k, add-mul (n * p.parts + k / p.block) p.delay p.block) in
          get_or-take p.word (drop a now.out) k Lost l ∙ get_or-drop a now.out k Lost
          ∙ ap (λ i. get_or now.out i Lost) there
          ∙ out_then (falling p.block p.step) (Octet 0) now.passed due row branch due_lt branch_lt Lost wait

    word_long : {arrivals memory : List Arrival} {answers : List Answer} {s : Running} (now : Runs p c arrivals answers s memory) (n : ℕ)
        → n < length answers → length (word_from p now.out n) ≡ p.word
    word_long {s = s} now n h =
        let a = p.delay * p.block + n * p.word in
        let m : suc n * p.word ≤ s.words * p.word = mul-le-mul_right p.word (omega (arith, now.words, h)) in
        let met : length now.out ≡ (p.lag + s.words) * p.word
        = length_out (falling p.block p.step) (Octet 0) now.passed ∙ words_blocks settled (p.lag + s.words) in
        length-take-le p.word (drop a now.out)
        (omega (arith, length-drop a now.out, m, met, delay_low, suc-mul n p.word, add-mul p.lag s.words p.word))

    pub answers_rest : (arrivals : List Arrival) (answers : List Answer) → ReceiverRun p c arrivals answers → AnswersRest p c arrivals answers
    answers_rest arrivals _ (filling s memory run) = record {
      state = λ n. started;
      first = refl;
      word = λ n. [];
      long = λ n h. absurd (omega arith);
      met = λ n k h l. absurd (omega arith);
      made = λ n k h l. absurd (omega arith);
      gives = λ n h. absurd (omega arith);
    }
    answers_rest arrivals answers (running s memory run) =
        let now = runs_now run in
        record {
          state = λ n. get_or now.states n started;
          first = now.first;
          word = word_from p now.out;
          long = word_long now;
          met = arrived now;
          made = octet_is now;
          gives = now.gives;
        }
