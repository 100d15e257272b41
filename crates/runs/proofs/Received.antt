-- The word that an answer rests on, and the word sent. Assumes nothing.
use Rattle.std.proofs.Common.{◌≡◌, ℕ, zero, suc, ◌<◌, ◌≤◌, Bool, true, false, ◌≢◌, List, map, length, get_or, sym, ap, ◌∙◌, ap₂, arith}
use lib.ListN.{length-map, get_or-map}
use Rattle.std.proofs.lemmas.Bool.{true≢false}
use Rattle.places.specs.Line.{Plan, place}
use Rattle.places.specs.Limit.{tally}
use Rattle.coder.specs.declared.arrival.Arrival.{Arrival}
use Rattle.coder.specs.declared.arrival.Arrival.TheVariants.{Octet, Lost}
use Rattle.coder.specs.Arrivals.{value_of}
use Rattle.coder.specs.Codes.{Code, Message, Near, distance}
use Rattle.coder.proofs.Distances.{within_same}
use Rattle.scrambler.specs.Scrambler.{after, descrambled, scrambled}
use Rattle.scrambler.proofs.Scrambling.{undo}
use Rattle.runs.specs.Receivers.{Answer, Gives, Running, coder_loss, delivered, scrambler_loss}
use Rattle.runs.specs.Theorem.{AnswersRest, LineHolds, answer_at, arrived_at, earlier_at, frame_at, sent_at, word_at}
use Rattle.runs.proofs.Settled.{Fits}
use Rattle.runs.proofs.Differences.{few_differ, many_differ, octets_all}
use Rattle.runs.proofs.Counts.{scrambled_message}

-- what is known of the frames sent and of the line, as far as it was met
pub record Carries (p : Plan) (c : Code) (frames : List (List ℕ)) (line : List ℕ) (arrivals : List Arrival) : Type 0 where
  pub messages : (n : ℕ) → n < length frames → Message c (frame_at frames n)
  pub holds : LineHolds p c frames line
  pub met : length arrivals ≤ length line

-- the arrivals at the places of word n, in the order of its octets
pub record Gathered (p : Plan) (arrivals : List Arrival) (n : ℕ) (word : List Arrival) : Type 0 where
  pub long : length word ≡ p.word
  pub met : (k : ℕ) → k < p.word → place p n k < length arrivals
  pub made : (k : ℕ) → k < p.word → get_or word k Lost ≡ arrived_at arrivals (place p n k)

pub gathered_by : {p : Plan} {c : Code} {arrivals : List Arrival} {answers : List Answer} (rest : AnswersRest p c arrivals answers)
    (n : ℕ) → n < length answers → Gathered p arrivals n (rest.word n)
gathered_by rest n h = record {
  long = rest.long n h;
  met = λ k l. rest.met n k h l;
  made = λ k l. rest.made n k h l;
}

-- the word sent is within t places of the word gathered
abbrev pub Close : Code → List (List ℕ) → ℕ → List Arrival → Type 0
Close c frames n word = distance (word_at c frames n) (map value_of word) ≤ c.sizes.repairs

module _ {p : Plan} {c : Code} (fits : Fits p c) where
  pub long_values : {arrivals : List Arrival} {n : ℕ} {word : List Arrival} → Gathered p arrivals n word → length (map value_of word) ≡ c.sizes.word
  long_values {word = word} got = length-map word value_of ∙ got.long ∙ sym fits.word

  -- the octets of a gathered word are those that arrived
  value_at_lem : {arrivals : List Arrival} {n : ℕ} {word : List Arrival} → Gathered p arrivals n word → (k : ℕ) → k < p.word
      → get_or (map value_of word) k 0 ≡ value_of (arrived_at arrivals (place p n k))
  value_at_lem {word = word} got k l = get_or-map value_of word k Lost ∙ ap value_of (got.made k l)

  module _ {frames : List (List ℕ)} {line : List ℕ} {arrivals : List Arrival} (carries : Carries p c frames line arrivals) where
    pub sent_message : (n : ℕ) → n < length frames → Message c (scrambled (earlier_at frames n) (frame_at frames n))
    sent_message n h = scrambled_message (earlier_at frames n) (frame_at frames n) (carries.messages n h)

    long_word : (n : ℕ) → n < length frames → length (word_at c frames n) ≡ p.word
    long_word n h = fits.sound.word_long _ (sent_message n h) ∙ fits.word

    module _ (n : ℕ) (sent : n < length frames) {word : List Arrival} (got : Gathered p arrivals n word) where
      -- the octet of word n that stands at its place k
      octet_at : (k : ℕ) → k < p.word → sent_at line (place p n k) ≡ get_or (word_at c frames n) k 0
      octet_at k l = carries.holds.words n k sent l (omega (arith, got.met k l, carries.met))

      -- all octets arrived as sent but those of a kind
      pub spoilt_few : (f : ℕ → Bool) → ((k : ℕ) → k < p.word → f k ≡ false → arrived_at arrivals (place p n k) ≡ Octet (sent_at line (place p n k)))
          → distance (word_at c frames n) (map value_of word) ≤ tally f p.word
      spoilt_few f whole =
          few_differ (word_at c frames n) (map value_of word) p.word f (long_word n sent) (long_values got ∙ fits.word)
          (λ k l no-k. sym (octet_at k l) ∙ sym (value_at_lem got k l ∙ ap value_of (whole k l no-k)))

      -- all octets of a kind arrived as other octets
      pub spoilt_many : (f : ℕ → Bool)
          → ((k : ℕ) → k < p.word → f k ≡ true → (o : ℕ) × (arrived_at arrivals (place p n k) ≡ Octet o) × (o ≢ sent_at line (place p n k)))
          → tally f p.word ≤ distance (word_at c frames n) (map value_of word)
      spoilt_many f altered =
          many_differ (word_at c frames n) (map value_of word) p.word f (long_word n sent) (long_values got ∙ fits.word)
          (λ k l yes-k same.
          let other = altered k l yes-k in
          other.2 (sym (ap value_of other.1) ∙ sym (value_at_lem got k l) ∙ sym same ∙ sym (octet_at k l)))

  -- ---- one answer

  -- Where the earlier bits agree and the word sent is within t places, the frame is handed out, and the earlier bits agree again.
  pub one_answer : (s s' : Running) (earlier : List Bool) (frame : List ℕ) (word : List Arrival) (answer : Answer)
      → Message c frame → length (map value_of word) ≡ c.sizes.word → s.broken ≡ false → s.earlier ≡ earlier
      → distance (c.word_of (scrambled earlier frame)) (map value_of word) ≤ c.sizes.repairs → Gives c s s' word answer
      → ((repaired : ℕ) × (answer ≡ delivered repaired frame)) × (s'.broken ≡ false) × (s'.earlier ≡ after earlier (scrambled earlier frame))
  one_answer s s' earlier frame word (delivered repaired handed) of_frame long unbroken same close gives =
      let sent = scrambled earlier frame in
      let m = gives.0 in
      let near : Near c (map value_of word) m repaired = gives.1 in
      let found : m ≡ sent
      = within_same c fits.sound (map value_of word) m sent long near.message (scrambled_message earlier frame of_frame)
      (omega (arith, near.differing, near.within)) close in
      let back : handed ≡ frame = gives.2 ∙ ap₂ descrambled same found ∙ undo earlier frame (octets_all frame of_frame.octets) in
      ((repaired, ap (delivered repaired) back), gives.4, gives.5 ∙ ap₂ after same found)
  one_answer s s' earlier frame word (coder_loss marks) of_frame long unbroken same close gives =
      absurd (omega (arith, gives.0 (scrambled earlier frame) (scrambled_message earlier frame of_frame)))
  one_answer s s' earlier frame word scrambler_loss of_frame long unbroken same close gives =
      absurd (true≢false (sym gives.3 ∙ unbroken))

  -- ---- all answers up to one

  module _ {frames : List (List ℕ)} {line : List ℕ} {arrivals : List Arrival} {answers : List Answer}
      (carries : Carries p c frames line arrivals) (rest : AnswersRest p c arrivals answers) (sent : length answers ≤ length frames) where
    -- While the words sent are within t places, the receiver's earlier bits are the sender's.
    pub agree : (n : ℕ) → n ≤ length answers → ((m : ℕ) → m < n → Close c frames m (rest.word m))
        → ((rest.state n).broken ≡ false) × ((rest.state n).earlier ≡ earlier_at frames n)
    unfolding earlier_at
    agree zero h close = (ap (λ s. s.broken) rest.first, ap (λ s. s.earlier) rest.first)
    agree (suc n) h close =
        let before = agree n (omega arith) (λ m l. close m (omega arith)) in
        let now = one_answer (rest.state n) (rest.state (suc n)) (earlier_at frames n) (frame_at frames n) (rest.word n) (answer_at answers n)
        (carries.messages n (omega arith)) (long_values (gathered_by rest n (omega arith))) before.0 before.1
        (close n (omega arith)) (rest.gives n (omega arith)) in
        (now.1, now.2)

    pub handed_out : (n : ℕ) → n < length answers → ((m : ℕ) → m < length answers → Close c frames m (rest.word m))
        → (repaired : ℕ) × (answer_at answers n ≡ delivered repaired (frame_at frames n))
    handed_out n h close =
        let before = agree n (omega arith) (λ m l. close m (omega arith)) in
        (one_answer (rest.state n) (rest.state (suc n)) (earlier_at frames n) (frame_at frames n) (rest.word n) (answer_at answers n)
        (carries.messages n (omega arith)) (long_values (gathered_by rest n h)) before.0 before.1 (close n h) (rest.gives n h)
        ).0
