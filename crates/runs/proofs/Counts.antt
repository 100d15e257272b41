-- How much a run has sent, met and answered. Assumes nothing.
use Rattle.std.proofs.Common.{◌≡◌, ℕ, suc, ◌+◌, ◌*◌, ◌<◌, ◌≤◌, Bool, eqb, ltb, ◌⊎◌, List, [], ◌∷◌, ◌++◌, length, replicate, Ok, sym, refl, ap, ◌∙◌, inl, inr, suc-mul, zero-mul, le_of_mul-le-mul_right, arith, length-append}
use native.Mathlib.Nat.{eq_of_mul-eq-mul_right}
use lib.ListN.{length-replicate}
use Rattle.std.proofs.lemmas.List.{get_or_append_left, get_or_push, length_push}
use Rattle.std.proofs.lemmas.Bool.{and_parts, cases_lt, eqb-true, ltb-true}
use Rattle.places.specs.Line.{Plan}
use Rattle.coder.specs.declared.arrival.Arrival.{Arrival}
use Rattle.coder.specs.Codes.{Code, Message}
use Rattle.scrambler.specs.Scrambler.{scrambled}
use Rattle.scrambler.proofs.Scrambling.{length-scrambled, scrambled-octets}
use Rattle.delay.specs.Queues.{Bank}
use Rattle.delay.specs.Runs.{outs}
use Rattle.delay.proofs.Runs.{blocks_outs, length-outs}
use Rattle.runs.specs.Blocks.{cut, through}
use Rattle.runs.specs.Senders.{Sending, Draining, frame_fits, line_fits, most_words, send_answer}
use Rattle.runs.specs.Receivers.{Answer, Filling, Running}
use Rattle.runs.specs.Histories.{SendingRun, DrainingRun, SenderRun, ClosedRun, FillingRun, RunningRun, ReceiverRun}
use Rattle.runs.specs.Theorem.{FinishedRun, Run, frame_at}
use Rattle.runs.proofs.Settled.{Fits, Settled}
use Rattle.runs.proofs.Blocks.{blocks_cut, length_cut, length-joined}
use Rattle.runs.proofs.Refusals.{test_passed}
use Rattle.runs.proofs.Rows.{some_word}
use Rattle.runs.proofs.Words.{length_word, octets_at}

-- what leaves a delay line is as long as what entered
length-through : {E : Type 0} (I q : ℕ) (bank : Bank E) (entering : List E) → q * I ≤ length entering → length (through I q bank entering) ≡ q * I
length-through I q bank entering h =
    let blocks = cut I q entering in
    length-joined I (outs bank blocks) (blocks_outs I bank blocks (blocks_cut I q entering h))
    ∙ ap (λ (n : ℕ). n * I) (length-outs bank blocks ∙ length_cut I q entering)

-- a call more is a word more
word_more : (now more later words words' N : ℕ) → later ≡ now + more → now ≡ words * N → more ≡ N → words' ≡ suc words → later ≡ words' * N
word_more now more later words words' N e so_far one next =
    let grown : later ≡ suc words * N = omega (arith, suc-mul words N) in
    grown ∙ ap (λ (n : ℕ). n * N) (sym next)

-- ---- both ends

-- the scrambler makes a message of a message
pub scrambled_message : {c : Code} (earlier : List Bool) (frame : List ℕ) → Message c frame → Message c (scrambled earlier frame)
scrambled_message earlier frame of_frame = record {
  long = length-scrambled earlier frame ∙ of_frame.long;
  octets = octets_at (scrambled earlier frame) (scrambled-octets earlier frame);
}

-- what a sender has put on the line, a word for each frame and each drain
pub record SoFar (p : Plan) (c : Code) (frames : List (List ℕ)) (line : List ℕ) (drains : ℕ) : Type 0 where
  pub messages : (n : ℕ) → n < length frames → Message c (frame_at frames n)
  pub long : length line ≡ (length frames + drains) * p.word

-- a closed sender is one that has drained
pub sender_of : {p : Plan} {c : Code} {frames : List (List ℕ)} {line : List ℕ} → ClosedRun p c frames line → SenderRun p c frames line
sender_of closed = SenderRun.draining closed.state closed.memory closed.run

module _ {p : Plan} {c : Code} (settled : Settled p) (fits : Fits p c) where
  -- a frame that was accepted
  frame_long : (s : Sending) (memory frame before : List ℕ) → send_answer p c s memory frame before ≡ Ok tt → length frame ≡ p.frame
  frame_long s memory frame before ok =
      let later = (test_passed (ltb s.words most_words) 10 _ ok).1 in
      let fit = (test_passed (frame_fits p c frame) 5 _ later).0 in
      eqb-true (length frame) p.frame (and_parts _ _ fit).0

  -- N line octets leave the interleaver with each call
  one_word : (bank : Bank ℕ) (entering line : List ℕ) → p.parts * p.block ≤ length entering
      → line ≡ through p.block p.parts bank entering → length line ≡ p.word
  one_word bank entering line h e = ap length e ∙ length-through p.block p.parts bank entering h ∙ settled.laid.whole

  -- ---- the sender

  so_far_sending : {frames : List (List ℕ)} {line : List ℕ} {s : Sending} {memory : List ℕ}
      → SendingRun p c frames line s memory → SoFar p c frames line 0
  so_far_sending SendingRun.opens = record {
    messages = λ n h. absurd (omega arith);
    long = sym (zero-mul p.word);
  }
  so_far_sending (SendingRun.sends {frames} {line} {s} {memory} frame before after run ok sent) =
      go (so_far_sending run)
    where
      whole : length frame ≡ p.frame
      whole = frame_long s memory frame before ok

      of_frame : Message c frame
      of_frame = record {
        long = whole ∙ sym fits.frame;
        octets = sent.octets;
      }

      last : (n : ℕ) → (n < length frames) ⊎ (length frames ≤ n) → n < length (frames ++ frame ∷ []) → SoFar p c frames line 0
          → Message c (frame_at (frames ++ frame ∷ []) n)
      last n (inl below) h before = rw (get_or_append_left frames (frame ∷ []) [] n below) (before.messages n below)
      last n (inr above) h before =
          let e : length frames ≡ n = omega (arith, length_push frames frame) in
          rw (get_or_push frames frame [] n e) of_frame

      go : SoFar p c frames line 0 → SoFar p c (frames ++ frame ∷ []) (line ++ after) 0
      go before =
          let one : length after ≡ p.word
          = one_word _ _ after (omega (arith, length_word fits s.earlier frame whole, settled.laid.whole)) sent.interleaves.line_octets in record {
            messages = λ n h. last n (cases_lt n (length frames)) h before;
            long = word_more _ _ _ _ _ p.word (length-append line after) before.long one (omega (arith, length_push frames frame));
          }
  so_far_sending (SendingRun.refuses run) = so_far_sending run

  so_far_draining : {frames : List (List ℕ)} {line : List ℕ} {s : Draining} {memory : List ℕ}
      → DrainingRun p c frames line s memory → SoFar p c frames line s.drained × (s.drained ≤ p.lag)
  so_far_draining (DrainingRun.ends run) = (so_far_sending run, omega arith)
  so_far_draining (DrainingRun.drains {frames} {line} {s} {s'} {memory} before after run ok drained) = go (so_far_draining run)
    where
      go : SoFar p c frames line s.drained × (s.drained ≤ p.lag) → SoFar p c frames (line ++ after) s'.drained × (s'.drained ≤ p.lag)
      go earlier =
          let room : s.drained < p.lag = ltb-true s.drained p.lag (test_passed (ltb s.drained p.lag) 11 _ ok).0 in
          let zeros : length (replicate {A = ℕ} p.word 0) ≡ p.word = length-replicate p.word 0 in
          let one : length after ≡ p.word
          = one_word _ _ after (omega (arith, zeros, settled.laid.whole)) drained.interleaves.line_octets in (
            record {
              messages = earlier.0.messages;
              long = word_more _ _ _ _ _ p.word (length-append line after) earlier.0.long one (omega (arith, drained.drained));
            },
            omega (arith, drained.drained),
          )
  so_far_draining (DrainingRun.refuses run) = so_far_draining run

  -- at most w drains follow the words
  pub sent_so_far : {frames : List (List ℕ)} {line : List ℕ} → SenderRun p c frames line
      → (drains : ℕ) × (drains ≤ p.lag) × SoFar p c frames line drains
  sent_so_far (SenderRun.sending s memory run) = (0, omega arith, so_far_sending run)
  sent_so_far (SenderRun.draining s memory run) = let both = so_far_draining run in (s.drained, both.1, both.0)

  pub closed_so_far : {frames : List (List ℕ)} {line : List ℕ} → ClosedRun p c frames line → SoFar p c frames line p.lag
  closed_so_far closed =
      let all : closed.state.drained ≡ p.lag = eqb-true closed.state.drained p.lag (test_passed (eqb closed.state.drained p.lag) 11 _ closed.close).0 in
      rw all at (so_far_draining closed.run).0

  -- ---- the receiver

  so_far_filling : {arrivals : List Arrival} {s : Filling} {memory : List Arrival} → FillingRun p arrivals s memory
      → (length arrivals ≡ s.filled * p.word) × (s.filled ≤ p.lag)
  so_far_filling FillingRun.opens = (sym (zero-mul p.word), omega arith)
  so_far_filling (FillingRun.fills {arrivals} {s} {s'} {memory} line run ok filled) = go (so_far_filling run)
    where
      go : (length arrivals ≡ s.filled * p.word) × (s.filled ≤ p.lag) → (length (arrivals ++ line) ≡ s'.filled * p.word) × (s'.filled ≤ p.lag)
      go before =
          let first = test_passed (ltb s.filled p.lag) 11 _ ok in
          let room : s.filled < p.lag = ltb-true s.filled p.lag first.0 in
          let one : length line ≡ p.word = eqb-true (length line) p.word (test_passed (eqb (length line) p.word) 6 _ first.1).0 in
          (word_more _ _ _ _ _ p.word (length-append arrivals line) before.0 one filled.filled, omega (arith, filled.filled))
  so_far_filling (FillingRun.refuses run) = so_far_filling run

  so_far_running : {arrivals : List Arrival} {answers : List Answer} {s : Running} {memory : List Arrival}
      → RunningRun p c arrivals answers s memory → length arrivals ≡ (p.lag + length answers) * p.word
  so_far_running (RunningRun.starts {s} run ok) =
      let all : s.filled ≡ p.lag = eqb-true s.filled p.lag (test_passed (eqb s.filled p.lag) 11 _ ok).0 in
      let sum : s.filled ≡ p.lag + 0 = omega arith in
      (so_far_filling run).0 ∙ ap (λ (n : ℕ). n * p.word) sum
  so_far_running (RunningRun.receives {arrivals} {answers} {s} {s'} {memory} line before answer run ok received) =
      word_more _ _ _ _ _ p.word (length-append arrivals line) (so_far_running run) one (omega (arith, length_push answers answer))
    where
      one : length line ≡ p.word
      one =
          let first = test_passed (ltb s.words most_words) 10 _ ok in
          let second = test_passed (frame_fits p c before) 5 _ first.1 in
          eqb-true (length line) p.word (and_parts _ _ (test_passed (line_fits p c line) 6 _ second.1).0).0
  so_far_running (RunningRun.refuses run) = so_far_running run

  -- at most w fills come before the receives, and just w before the first
  pub met_so_far : {arrivals : List Arrival} {answers : List Answer} → ReceiverRun p c arrivals answers
      → (fills : ℕ) × (fills ≤ p.lag) × (length arrivals ≡ (fills + length answers) * p.word) × (0 < length answers → fills ≡ p.lag)
  met_so_far (ReceiverRun.filling s memory run) =
      let both = so_far_filling run in
      let sum : s.filled ≡ s.filled + 0 = omega arith in
      (s.filled, both.1, both.0 ∙ ap (λ (n : ℕ). n * p.word) sum, λ some. absurd (omega arith))
  met_so_far (ReceiverRun.running s memory run) = (p.lag, omega arith, so_far_running run, λ some. refl)

  -- ---- both

  -- what is answered was sent
  pub answered_sent : {frames : List (List ℕ)} {line : List ℕ} {arrivals : List Arrival} {answers : List Answer}
      → Run p c frames line arrivals answers → length answers ≤ length frames
  answered_sent {frames} {line} {arrivals} {answers} run = go (sent_so_far run.sender) (met_so_far run.receiver) (cases_lt 0 (length answers))
    where
      go : (drains : ℕ) × (drains ≤ p.lag) × SoFar p c frames line drains
          → (fills : ℕ) × (fills ≤ p.lag) × (length arrivals ≡ (fills + length answers) * p.word) × (0 < length answers → fills ≡ p.lag)
          → (0 < length answers) ⊎ (length answers ≤ 0) → length answers ≤ length frames
      go sent met (inl some) =
          let products : (met.0 + length answers) * p.word ≤ (length frames + sent.0) * p.word
          = omega (arith, sent.2.long, met.2, run.met) in
          let words : met.0 + length answers ≤ length frames + sent.0 = le_of_mul-le-mul_right products (some_word settled) in
          omega (arith, met.3 some, sent.1)
      go sent met (inr none) = omega arith

  -- of a finished run every frame is answered
  pub all_answered : {frames : List (List ℕ)} {line : List ℕ} {arrivals : List Arrival} {answers : List Answer}
      → FinishedRun p c frames line arrivals answers → length frames ≤ length answers
  all_answered {frames} {line} {arrivals} {answers} run =
      let sent = closed_so_far run.sender in
      let met = met_so_far run.receiver in
      let products : (length frames + p.lag) * p.word ≡ (met.0 + length answers) * p.word = sym sent.long ∙ sym run.met ∙ met.2 in
      let words : length frames + p.lag ≡ met.0 + length answers
      = eq_of_mul-eq-mul_right p.word (some_word settled) (length frames + p.lag) (met.0 + length answers) products in
      omega (arith, words, met.1)

  -- finished runs with as many arrivals have as many frames
  pub as_many : {frames frames' : List (List ℕ)} {line line' : List ℕ} {arrivals : List Arrival} {answers answers' : List Answer}
      → FinishedRun p c frames line arrivals answers → FinishedRun p c frames' line' arrivals answers' → length frames ≡ length frames'
  as_many {frames} {frames'} run run' =
      let products : (length frames + p.lag) * p.word ≡ (length frames' + p.lag) * p.word
      = sym (closed_so_far run.sender).long ∙ sym run.met ∙ run'.met ∙ (closed_so_far run'.sender).long in
      let words : length frames + p.lag ≡ length frames' + p.lag
      = eq_of_mul-eq-mul_right p.word (some_word settled) (length frames + p.lag) (length frames' + p.lag) products in
      omega (arith, words)
