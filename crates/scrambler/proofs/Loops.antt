-- A message worked through in place, octet after octet. Assumes nothing.
use Rattle.std.proofs.Common.{◌≡◌, ℕ, ◌+◌, ◌<◌, ◌≤◌, Bool, List, [], ◌∷◌, ◌++◌, length, get_or, take, drop, set, sym, refl, ap, ◌∙◌, ap₂, append_assoc, append-nil, arith, take_all, drop-set-lt}
use lib.Bits.{bit_xor}
use Rattle.std.proofs.lemmas.List.{drop_all, drop_more, take_more_set}
use Rattle.scrambler.specs.Bits.{Octets, bits_of, octets_of, message_bits}
use Rattle.scrambler.specs.Scrambler.{scrambled, descrambled, scrambled_bits, descrambled_bits, after}
use Rattle.scrambler.specs.Laws.{Receiving, Sending}
use Rattle.scrambler.proofs.Laws.{receiving, sending}
use Rattle.scrambler.proofs.Bits.{length-bits}
use Rattle.scrambler.proofs.Steps.{eight_on, eight_taps, on_bits, sent_octet, taken_octet}
use Rattle.scrambler.proofs.Scrambling.{after-append, after_none, descrambled-append, scrambled-append}

-- Messages go by F, and what then stands on the line is L of the message.
pub record Runs (F L : List Bool → List ℕ → List ℕ) : Type 0 where
  pub none : (e : List Bool) → F e [] ≡ []
  pub more : (e : List Bool) (m : ℕ) (ms : List ℕ) → length e ≡ 23 → F e (m ∷ ms) ≡ F e (m ∷ []) ++ F (after e (L e (m ∷ []))) ms
  pub idle : (e : List Bool) → length e ≡ 23 → after e (L e []) ≡ e
  pub onward : (e : List Bool) (m : ℕ) (ms : List ℕ) → length e ≡ 23
      → after e (L e (m ∷ ms)) ≡ after (after e (L e (m ∷ []))) (L (after e (L e (m ∷ []))) ms)

pub scrambling : Runs scrambled scrambled
unfolding scrambled scrambled_bits octets_of message_bits
scrambling = record {
  none = λ e. refl;
  more = λ e m ms h. scrambled-append e (m ∷ []) ms h;
  idle = λ e h. after_none e h;
  onward = λ e m ms h. ap (after e) (scrambled-append e (m ∷ []) ms h)
      ∙ after-append e (scrambled e (m ∷ [])) (scrambled (after e (scrambled e (m ∷ []))) ms);
}

pub descrambling : Runs descrambled (λ e xs. xs)
unfolding descrambled descrambled_bits octets_of message_bits
descrambling = record {
  none = λ e. refl;
  more = λ e m ms h. descrambled-append e (m ∷ []) ms h;
  idle = λ e h. after_none e h;
  onward = λ e m ms h. after-append e (m ∷ []) ms;
}

-- The message ms with its first i octets done: what is left goes on from the earlier bits e.
pub record Underway (F L : List Bool → List ℕ → List ℕ) (e₀ e : List Bool) (ms now : List ℕ) (i : ℕ) : Type 0 where
  pub made : F e₀ ms ≡ take i now ++ F e (drop i now)
  pub later : after e₀ (L e₀ ms) ≡ after e (L e (drop i now))
  pub octets : Octets (drop i now) → Octets ms

module _ {F L : List Bool → List ℕ → List ℕ} (runs : Runs F L) where
  pub begun : (e : List Bool) (ms : List ℕ) → Underway F L e e ms ms 0
  begun e ms = record { made = refl; later = refl; octets = λ h. h }

  pub turn : (e₀ e e' : List Bool) (ms now : List ℕ) (i r : ℕ) → Underway F L e₀ e ms now i → i < length now → length e ≡ 23
      → get_or now i 0 < 256 → F e (get_or now i 0 ∷ []) ≡ r ∷ [] → e' ≡ after e (L e (get_or now i 0 ∷ []))
      → Underway F L e₀ e' ms (set now i r) (i + 1)
  turn e₀ e e' ms now i r u l full small is on =
      let m = get_or now i 0 in
      let rest = drop (i + 1) now in
      let next : drop i now ≡ m ∷ rest = drop_more now i 0 l in
      let left : drop (i + 1) (set now i r) ≡ rest = drop-set-lt (i + 1) now i r (omega arith) in
      let front : take (i + 1) (set now i r) ≡ take i now ++ r ∷ [] = take_more_set now i r l in
      record {
        made = u.made ∙ ap (λ t. take i now ++ F e t) next
            ∙ ap (λ t. take i now ++ t) (runs.more e m rest full ∙ ap₂ (λ s t. s ++ F t rest) is (sym on))
            ∙ sym (append_assoc (take i now) (r ∷ []) (F e' rest))
            ∙ sym (ap₂ (λ s t. s ++ F e' t) front left);
        later = u.later ∙ ap (λ t. after e (L e t)) next ∙ runs.onward e m rest full
            ∙ ap (λ t. after t (L t rest)) (sym on) ∙ ap (λ t. after e' (L e' t)) (sym left);
        octets = λ h. u.octets (rw next (small, rw left at h));
      }

  module _ (e₀ e : List Bool) (ms now : List ℕ) (i : ℕ) (u : Underway F L e₀ e ms now i) (end : length now ≤ i) where
    pub all_made : now ≡ F e₀ ms
    all_made =
        sym (u.made ∙ ap₂ (λ s t. s ++ F e t) (take_all i now end) (drop_all i now end)
        ∙ ap (λ t. now ++ t) (runs.none e) ∙ append-nil now)

    pub all_later : length e ≡ 23 → e ≡ after e₀ (L e₀ ms)
    all_later full = sym (u.later ∙ ap (λ t. after e (L e t)) (drop_all i now end) ∙ runs.idle e full)

    pub all_octets : Octets ms
    all_octets = u.octets (rw (drop_all i now end) tt)

-- The same by the numbers that hold the earlier bits at first and now.
unfoldable pub Sent : (h₀ h : ℕ) (ms now : List ℕ) (i : ℕ) → Type 0
Sent h₀ h ms now i = Underway scrambled scrambled (bits_of 23 h₀) (bits_of 23 h) ms now i

unfoldable pub Taken : (h₀ h : ℕ) (xs now : List ℕ) (i : ℕ) → Type 0
Taken h₀ h xs now i = Underway descrambled (λ e xs. xs) (bits_of 23 h₀) (bits_of 23 h) xs now i

pub send_begun : (h : ℕ) (ms : List ℕ) → Sent h h ms ms 0
unfolding Sent
send_begun h ms = begun scrambling (bits_of 23 h) ms

pub take_begun : (h : ℕ) (xs : List ℕ) → Taken h h xs xs 0
unfolding Taken
take_begun h xs = begun descrambling (bits_of 23 h) xs

pub send_more : (h₀ h : ℕ) (ms now : List ℕ) (i : ℕ) → Sent h₀ h ms now i → i < length now → get_or now i 0 < 256 → h < 8388608
    → Sent h₀ (eight_on h (bit_xor (get_or now i 0) (eight_taps h))) ms (set now i (bit_xor (get_or now i 0) (eight_taps h))) (i + 1)
unfolding Sent
send_more h₀ h ms now i sent l small held =
    let one = sent_octet h (get_or now i 0) small in
    let r = bit_xor (get_or now i 0) (eight_taps h) in
    turn scrambling (bits_of 23 h₀) (bits_of 23 h) (bits_of 23 (eight_on h r)) ms now i r sent l (length-bits 23 h) small one
    (on_bits h r held ∙ ap (after (bits_of 23 h)) (sym one))

pub take_more : (h₀ h : ℕ) (xs now : List ℕ) (i : ℕ) → Taken h₀ h xs now i → i < length now → get_or now i 0 < 256 → h < 8388608
    → Taken h₀ (eight_on h (get_or now i 0)) xs (set now i (bit_xor (get_or now i 0) (eight_taps h))) (i + 1)
unfolding Taken
take_more h₀ h xs now i taken l small held =
    let x = get_or now i 0 in
    turn descrambling (bits_of 23 h₀) (bits_of 23 h) (bits_of 23 (eight_on h x)) xs now i (bit_xor x (eight_taps h)) taken l
    (length-bits 23 h) small (taken_octet h x small) (on_bits h x held)

-- and at the end of the octets
module _ (h₀ h : ℕ) (ms now : List ℕ) (i : ℕ) (sent : Sent h₀ h ms now i) (end : length now ≤ i) where
  pub all_sent : now ≡ scrambled (bits_of 23 h₀) ms
  unfolding Sent
  all_sent = all_made scrambling (bits_of 23 h₀) (bits_of 23 h) ms now i sent end

  later_sent : bits_of 23 h ≡ after (bits_of 23 h₀) (scrambled (bits_of 23 h₀) ms)
  unfolding Sent
  later_sent = all_later scrambling (bits_of 23 h₀) (bits_of 23 h) ms now i sent end (length-bits 23 h)

  pub sent_later : bits_of 23 h ≡ after (bits_of 23 h₀) now
  sent_later = later_sent ∙ ap (after (bits_of 23 h₀)) (sym all_sent)

  pub sent_laws : Sending (bits_of 23 h₀) (bits_of 23 h) ms now
  unfolding Sent
  sent_laws =
      sending (bits_of 23 h₀) (bits_of 23 h) ms now (length-bits 23 h₀)
      (all_octets scrambling (bits_of 23 h₀) (bits_of 23 h) ms now i sent end) all_sent later_sent

module _ (h₀ h : ℕ) (xs now : List ℕ) (i : ℕ) (taken : Taken h₀ h xs now i) (end : length now ≤ i) where
  pub all_taken : now ≡ descrambled (bits_of 23 h₀) xs
  unfolding Taken
  all_taken = all_made descrambling (bits_of 23 h₀) (bits_of 23 h) xs now i taken end

  pub taken_later : bits_of 23 h ≡ after (bits_of 23 h₀) xs
  unfolding Taken
  taken_later = all_later descrambling (bits_of 23 h₀) (bits_of 23 h) xs now i taken end (length-bits 23 h)

  pub taken_laws : Receiving (bits_of 23 h₀) (bits_of 23 h) xs now
  unfolding Taken
  taken_laws =
      receiving (bits_of 23 h₀) (bits_of 23 h) xs now (length-bits 23 h₀)
      (all_octets descrambling (bits_of 23 h₀) (bits_of 23 h) xs now i taken end) all_taken taken_later
