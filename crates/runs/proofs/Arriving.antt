-- Frames arrive. Assumes nothing.
use Rattle.std.proofs.Common.{◌≡◌, ℕ, ◌+◌, ◌-◌, ◌*◌, ◌<◌, ◌≤◌, Bool, true, false, ◌≢◌, ◌⊎◌, List, length, sym, ap, ◌∙◌, inl, inr, arith}
use Rattle.std.proofs.lemmas.Bool.{cases_eq, true≢false}
use Rattle.places.specs.Line.{Plan, place}
use Rattle.places.specs.Limit.{BurstLimit, held, tally, within}
use Rattle.places.proofs.Places.{lies}
use Rattle.places.proofs.Tallies.{within_from}
use Rattle.coder.specs.declared.arrival.Arrival.{Arrival}
use Rattle.coder.specs.declared.arrival.Arrival.TheVariants.{Octet, Lost}
use Rattle.coder.specs.Arrivals.{value_of}
use Rattle.coder.specs.Codes.{Code}
use Rattle.runs.specs.Histories.{SenderRun}
use Rattle.runs.specs.Theorem.{BurstRule, FramesArrive, Spoilt, arrived_at, sent_at}
use Rattle.runs.proofs.Settled.{Fits, Settled}
use Rattle.runs.proofs.Rows.{some_word}
use Rattle.runs.proofs.SenderLine.{line_holds}
use Rattle.runs.proofs.ReceiverWords.{answers_rest}
use Rattle.runs.proofs.Counts.{answered_sent, sent_so_far}
use Rattle.runs.proofs.Received.{Carries, Close, Gathered, gathered_by, handed_out, spoilt_few}

-- an arrival is a given octet, or it is not
is_octet : Arrival → Bool
is_octet (Octet o) = true
is_octet Lost = false

octet_or_not : (x : Arrival) (o : ℕ) → (x ≡ Octet o) ⊎ (x ≢ Octet o)
unfolding is_octet
octet_or_not (Octet y) o = go (cases_eq y o)
  where
    go : (y ≡ o) ⊎ (y ≡ o → ⊥) → (Octet y ≡ Octet o) ⊎ (Octet y ≢ Octet o)
    go (inl same) = inl (ap Octet same)
    go (inr other) = inr (λ e. other (ap value_of e))
octet_or_not Lost o = inr (λ e. true≢false (sym (ap is_octet e)))

module _ {p : Plan} {c : Code} (settled : Settled p) (fits : Fits p c) where
  -- the arrivals of a gathered word were met to the end of its reach
  reach_met : {arrivals : List Arrival} {n : ℕ} {word : List Arrival} → Gathered p arrivals n word → n * p.word + p.reach ≤ length arrivals
  reach_met {n = n} got =
      let last = got.met (p.word - 1) (omega (arith, some_word settled)) in
      omega (arith, last, (lies settled.laid settled.some_parts).last n)

  -- Under the burst rule a word gathered is within t places of the word sent.
  pub close_by : {frames : List (List ℕ)} {line : List ℕ} {arrivals : List Arrival} → Carries p c frames line arrivals
      → (B : ℕ) → BurstLimit p B → BurstRule p B line arrivals → (n : ℕ) → n < length frames
      → {word : List Arrival} → Gathered p arrivals n word → Close c frames n word
  close_by {frames} {line} {arrivals} carries B limit rule n sent {word} got =
      let few = spoilt_few fits carries n sent got (λ k. within b B (place p n k)) whole in
      omega (arith, few, counted, fits.repairs)
    where
      burst : (b : ℕ) × ((i : ℕ) → n * p.word ≤ i → i < n * p.word + p.reach → Spoilt line arrivals i → (b ≤ i) × (i < b + B))
      burst = rule (n * p.word) (reach_met got)

      b : ℕ
      b = burst.0

      counted : tally (λ k. within b B (place p n k)) p.word ≤ p.repairs
      counted = unfold held in (limit.spreads n b)

      whole : (k : ℕ) → k < p.word → within b B (place p n k) ≡ false → arrived_at arrivals (place p n k) ≡ Octet (sent_at line (place p n k))
      whole k l outside = go (octet_or_not (arrived_at arrivals (place p n k)) (sent_at line (place p n k)))
        where
          go : (arrived_at arrivals (place p n k) ≡ Octet (sent_at line (place p n k))) ⊎ Spoilt line arrivals (place p n k)
              → arrived_at arrivals (place p n k) ≡ Octet (sent_at line (place p n k))
          go (inl same) = same
          go (inr spoilt) =
              let between = (lies settled.laid settled.some_parts).between n k l in
              let inside = burst.1 (place p n k) between.0 between.1 spoilt in
              absurd (true≢false (sym (within_from b B (place p n k) inside.0 inside.1) ∙ outside))

  pub carried : {frames : List (List ℕ)} {line : List ℕ} {arrivals : List Arrival} → SenderRun p c frames line → length arrivals ≤ length line
      → Carries p c frames line arrivals
  carried {frames} {line} sender met = record {
    messages = (sent_so_far settled fits sender).2.messages;
    holds = line_holds settled fits frames line sender;
    met = met;
  }

  pub frames_arrive : (B : ℕ) → BurstLimit p B → FramesArrive p c B
  frames_arrive B limit frames line arrivals answers run rule n h =
      let carries = carried run.sender run.met in
      let rest = answers_rest settled arrivals answers run.receiver in
      let fewer = answered_sent settled fits run in (
        omega (arith, fewer),
        handed_out fits carries rest fewer n h
            (λ m l. close_by carries B limit rule m (omega (arith, fewer)) (gathered_by rest m l)),
      )
