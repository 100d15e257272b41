-- The limit is sharp. Assumes nothing.
use Rattle.std.proofs.Common.{◌≡◌, ℕ, suc, ◌+◌, ◌*◌, ◌/◌, ◌%◌, ◌<◌, false, List, map, length, sym, refl, ap, ◌∙◌, subst, arith}
use lib.Arith.{digits_div}
use Rattle.places.specs.Line.{Plan, place}
use Rattle.places.specs.Limit.{BurstLimit, held, within}
use Rattle.places.proofs.Places.{Laid, branch_of, part_lt, row_of}
use Rattle.places.proofs.Stretches.{sharp}
use Rattle.places.proofs.Tallies.{tally_none, within_true}
use Rattle.coder.specs.declared.arrival.Arrival.{Arrival}
use Rattle.coder.specs.Arrivals.{value_of}
use Rattle.coder.specs.Codes.{Code, Message, Near, distance}
use Rattle.scrambler.specs.Scrambler.{descrambled, scrambled}
use Rattle.scrambler.proofs.Scrambling.{injective, undo}
use Rattle.runs.specs.Receivers.{Gives, Running, delivered}
use Rattle.runs.specs.Theorem.{Altered, SharpLimit, frame_at, word_at}
use Rattle.runs.proofs.Settled.{Fits, Settled}
use Rattle.runs.proofs.Differences.{octets_all}
use Rattle.runs.proofs.ReceiverWords.{answers_rest}
use Rattle.runs.proofs.Counts.{answered_sent, scrambled_message}
use Rattle.runs.proofs.Received.{Carries, Close, Gathered, agree, gathered_by, spoilt_few, spoilt_many}
use Rattle.runs.proofs.Arriving.{carried}

-- a place tells its word
pub word_of_place : {p : Plan} → Laid p → (n m k j : ℕ) → k < p.word → j < p.word → place p n k ≡ place p m j → n ≡ m
word_of_place {p} laid n m k j hk hj e =
    let branch : k % p.block ≡ j % p.block = sym (branch_of laid n k) ∙ ap (λ x. x % p.block) e ∙ branch_of laid m j in
    let row : n * p.parts + k / p.block + p.step * (k % p.block) ≡ m * p.parts + j / p.block + p.step * (j % p.block)
    = sym (row_of laid n k) ∙ ap (λ x. x / p.block) e ∙ row_of laid m j in
    let waits : p.step * (k % p.block) ≡ p.step * (j % p.block) = ap (λ x. p.step * x) branch in
    let begun : n * p.parts + k / p.block ≡ m * p.parts + j / p.block = omega (arith, row, waits) in
    sym (digits_div n (part_lt laid k hk)) ∙ ap (λ x. x / p.parts) begun ∙ digits_div m (part_lt laid j hj)

module _ {p : Plan} {c : Code} (settled : Settled p) (fits : Fits p c) where
  -- words before the altered one arrive whole
  whole_before : {frames : List (List ℕ)} {line : List ℕ} {arrivals : List Arrival} → Carries p c frames line arrivals
      → (n a L : ℕ) → Altered p n a L line arrivals → (m : ℕ) → m < n → m < length frames
      → {word : List Arrival} → Gathered p arrivals m word → Close c frames m word
  whole_before carries n a L altered m earlier sent got =
      let few = spoilt_few fits carries m sent got (λ k. false)
      (λ k l no-k. altered.elsewhere (place p m k) (got.met k l)
      (λ j hj low high same. absurd (omega (arith, word_of_place settled.laid n m j k hj l same)))) in
      omega (arith, few, tally_none (λ k. false) p.word (λ k l. refl))

  -- a word with more than t octets altered is not near the message sent
  far_off : {frames : List (List ℕ)} {line : List ℕ} {arrivals : List Arrival} → Carries p c frames line arrivals
      → (n a L : ℕ) → Altered p n a L line arrivals → p.repairs < held p n a L → n < length frames
      → {word : List Arrival} → Gathered p arrivals n word → c.sizes.repairs < distance (word_at c frames n) (map value_of word)
  unfolding held
  far_off carries n a L altered over sent got =
      let many = spoilt_many fits carries n sent got (λ k. within a L (place p n k))
      (λ k l inside. let there = within_true a L (place p n k) inside in altered.there k l there.0 there.1 (got.met k l)) in
      omega (arith, many, over, fits.repairs)

  -- from the same earlier bits only the message sent gives the frame
  not_handed_out : (s s' : Running) (frame : List ℕ) (word : List Arrival) (repaired : ℕ)
      → Message c frame
      → c.sizes.repairs < distance (c.word_of (scrambled s.earlier frame)) (map value_of word)
      → Gives c s s' word (delivered repaired frame) → ⊥
  not_handed_out s s' frame word repaired of_frame far gives =
      let m = gives.0 in
      let near : Near c (map value_of word) m repaired = gives.1 in
      let sent = scrambled s.earlier frame in
      let of-sent = scrambled_message s.earlier frame of_frame in
      let back : descrambled s.earlier m ≡ descrambled s.earlier sent
      = sym gives.2 ∙ sym (undo s.earlier frame (octets_all frame of_frame.octets)) in
      let same : m ≡ sent = injective s.earlier m sent (octets_all m near.message.octets) (octets_all sent of-sent.octets) back in
      let at-m : c.sizes.repairs < distance (c.word_of m) (map value_of word) = rw same far in
      absurd (omega (arith, at-m, near.differing, near.within))

  pub sharp_limit : (B : ℕ) → BurstLimit p B → SharpLimit p c B
  sharp_limit B limit n =
      let stretch = sharp settled.laid p.repairs B limit n in (
        stretch.0,
        stretch.1,
        stretch.2,
        λ frames line arrivals answers run sent answered altered repaired same.
            let carries = carried settled fits run.sender run.met in
            let rest = answers_rest settled arrivals answers run.receiver in
            let fewer = answered_sent settled fits run in
            let s = rest.state n in
            let bits = (agree fits carries rest fewer n (omega arith)
            (λ m l. whole_before carries n stretch.0 (B + 1) altered m l (omega arith) (gathered_by rest m (omega arith)))).1 in
            let far = far_off carries n stretch.0 (B + 1) altered stretch.3 sent (gathered_by rest n answered) in
            not_handed_out s (rest.state (suc n)) (frame_at frames n) (rest.word n) repaired (carries.messages n sent)
            (subst (λ e. c.sizes.repairs < distance (c.word_of (scrambled e (frame_at frames n))) (map value_of (rest.word n))) (sym bits) far)
            (subst (λ answer. Gives c s (rest.state (suc n)) (rest.word n) answer) same (rest.gives n answered)),
      )
