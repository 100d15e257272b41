-- Finished runs with the same arrivals have the same frames. Assumes nothing.
use Rattle.std.proofs.Common.{◌≡◌, ℕ, zero, suc, ◌<◌, ◌≤◌, List, [], map, length, sym, refl, ◌∙◌, ap₂, le_of_eq, arith}
use Rattle.std.proofs.lemmas.List.{get_or_default, same_lists}
use Rattle.places.specs.Line.{Plan}
use Rattle.places.specs.Limit.{BurstLimit}
use Rattle.coder.specs.declared.arrival.Arrival.{Arrival}
use Rattle.coder.specs.Arrivals.{value_of}
use Rattle.coder.specs.Codes.{Code}
use Rattle.coder.proofs.Distances.{within_same}
use Rattle.scrambler.specs.Scrambler.{after, descrambled, scrambled}
use Rattle.scrambler.proofs.Scrambling.{undo}
use Rattle.runs.specs.Theorem.{ToldApart, earlier_at, frame_at}
use Rattle.runs.proofs.Settled.{Fits, Settled}
use Rattle.runs.proofs.Differences.{octets_all}
use Rattle.runs.proofs.ReceiverWords.{answers_rest}
use Rattle.runs.proofs.Counts.{all_answered, as_many, sender_of}
use Rattle.runs.proofs.Received.{Carries, Close, Gathered, gathered_by, long_values, sent_message}
use Rattle.runs.proofs.Arriving.{carried, close_by}

module _ {p : Plan} {c : Code} (fits : Fits p c) where
  module _ {frames frames' : List (List ℕ)} {line line' : List ℕ} {arrivals : List Arrival}
      (carries : Carries p c frames line arrivals) (carries' : Carries p c frames' line' arrivals)
      (as_long : length frames ≡ length frames') (word : ℕ → List Arrival)
      (got : (n : ℕ) → n < length frames → Gathered p arrivals n (word n))
      (close : (n : ℕ) → n < length frames → Close c frames n (word n))
      (close' : (n : ℕ) → n < length frames → Close c frames' n (word n)) where
    -- one received word is near both words sent, so they carry one message
    one_message : (n : ℕ) → n < length frames
        → scrambled (earlier_at frames n) (frame_at frames n) ≡ scrambled (earlier_at frames' n) (frame_at frames' n)
    one_message n h =
        within_same c fits.sound (map value_of (word n)) _ _ (long_values fits (got n h))
        (sent_message fits carries n h) (sent_message fits carries' n (omega arith)) (close n h) (close' n h)

    same_earlier : (n : ℕ) → n ≤ length frames → earlier_at frames n ≡ earlier_at frames' n
    unfolding earlier_at
    same_earlier zero h = refl
    same_earlier (suc n) h = ap₂ after (same_earlier n (omega arith)) (one_message n h)

    same_frame : (n : ℕ) → n < length frames → frame_at frames n ≡ frame_at frames' n
    same_frame n h =
        let of_frame = carries.messages n h in
        let of-frame' = carries'.messages n (omega arith) in
        sym (undo (earlier_at frames n) (frame_at frames n) (octets_all (frame_at frames n) of_frame.octets))
        ∙ ap₂ descrambled (same_earlier n (omega arith)) (one_message n h)
        ∙ undo (earlier_at frames' n) (frame_at frames' n) (octets_all (frame_at frames' n) of-frame'.octets)

    pub same_frames : frames ≡ frames'
    same_frames =
        same_lists frames frames' as_long
        (λ n d h. get_or_default frames n d [] h ∙ same_frame n h ∙ get_or_default frames' n [] d (omega arith))

module _ {p : Plan} {c : Code} (settled : Settled p) (fits : Fits p c) where
  pub told_apart : (B : ℕ) → BurstLimit p B → ToldApart p c B
  told_apart B limit frames frames' line line' arrivals answers answers' run rule run' rule' =
      let carries = carried settled fits (sender_of run.sender) (le_of_eq run.met) in
      let carries' = carried settled fits (sender_of run'.sender) (le_of_eq run'.met) in
      let rest = answers_rest settled arrivals answers run.receiver in
      let all = all_answered settled fits run in
      let as_long = as_many settled fits run run' in
      same_frames fits carries carries' as_long rest.word (λ n h. gathered_by rest n (omega (arith, all)))
      (λ n h. close_by settled fits carries B limit rule n h (gathered_by rest n (omega (arith, all))))
      (λ n h. close_by settled fits carries' B limit rule' n (omega (arith, as_long)) (gathered_by rest n (omega (arith, all))))
