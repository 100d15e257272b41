-- An octet in one step. Assumes nothing.
use Rattle.std.proofs.Common.{◌≡◌, ℕ, ◌+◌, ◌*◌, ◌/◌, ◌^◌, ◌<◌, Bool, List, [], ◌∷◌, ◌++◌, take, drop, sym, refl, ap, ◌∙◌, arith, shr_lt}
use lib.Bits.{bit_and, bit_or, bit_xor, and_mask, mask_lt, or_lt, or_shifted_r, xor_lt}
use Rattle.scrambler.specs.Bits.{bits_of, number_of, message_bits, octets_of}
use Rattle.scrambler.specs.Scrambler.{scrambled_bits, descrambled_bits, scrambled, descrambled, after}
use Rattle.scrambler.proofs.Bits.{bits-joined, bits_low, bits_shifted, bits-xor, number_of_bits, sums}

-- x(n−18) + x(n−23) at eight bits in a row, of 23 earlier bits as a number
abbrev pub eight_taps : ℕ → ℕ
eight_taps h = bit_and (bit_xor (h / 2 ^ 5) h) 255

module _ (h m : ℕ) where
  tap_bits : bits_of 8 (eight_taps h) ≡ sums (take 8 (drop 5 (bits_of 23 h))) (take 8 (bits_of 23 h))
  unfolding bits_of
  tap_bits =
      ap (bits_of 8) (and_mask (bit_xor (h / 2 ^ 5) h) 8) ∙ bits_low 8 (bit_xor (h / 2 ^ 5) h)
      ∙ bits-xor 8 (h / 2 ^ 5) h ∙ ap (λ r. sums r (bits_of 8 h)) (bits_shifted 5 8 h)

  sum-bits : bits_of 8 (bit_xor m (eight_taps h)) ≡ sums (bits_of 8 m) (sums (take 8 (drop 5 (bits_of 23 h))) (take 8 (bits_of 23 h)))
  sum-bits = bits-xor 8 m (eight_taps h) ∙ ap (sums (bits_of 8 m)) tap_bits

  -- a tap lies at least 18 bits back, so all taps of an octet are earlier bits
  sent_bits : sums (bits_of 8 m) (sums (take 8 (drop 5 (bits_of 23 h))) (take 8 (bits_of 23 h))) ≡ scrambled_bits (bits_of 23 h) (message_bits (m ∷ []))
  unfolding bits_of message_bits scrambled_bits
  sent_bits = refl

  taken_bits : sums (bits_of 8 m) (sums (take 8 (drop 5 (bits_of 23 h))) (take 8 (bits_of 23 h))) ≡ descrambled_bits (bits_of 23 h) (message_bits (m ∷ []))
  unfolding bits_of message_bits descrambled_bits
  taken_bits = refl

  sum_below : m < 256 → bit_xor m (eight_taps h) < 256
  sum_below small = xor_lt 8 m (eight_taps h) small (mask_lt (bit_xor (h / 2 ^ 5) h) 8)

  -- the octet with these bits
  octet : (bs : List Bool) → m < 256 → bits_of 8 (bit_xor m (eight_taps h)) ≡ bs → octets_of 1 bs ≡ bit_xor m (eight_taps h) ∷ []
  unfolding octets_of bits_of
  octet bs small e =
      ap (λ r. number_of (take 8 r) ∷ []) (sym e) ∙ ap (λ r. r ∷ []) (number_of_bits 8 (bit_xor m (eight_taps h)) (sum_below small))

  pub sent_octet : m < 256 → scrambled (bits_of 23 h) (m ∷ []) ≡ bit_xor m (eight_taps h) ∷ []
  unfolding scrambled
  sent_octet small = octet (scrambled_bits (bits_of 23 h) (message_bits (m ∷ []))) small (sum-bits ∙ sent_bits)

  pub taken_octet : m < 256 → descrambled (bits_of 23 h) (m ∷ []) ≡ bit_xor m (eight_taps h) ∷ []
  unfolding descrambled
  taken_octet small = octet (descrambled_bits (bits_of 23 h) (message_bits (m ∷ []))) small (sum-bits ∙ taken_bits)

-- eight bits later, the newest bits highest
abbrev pub eight_on : (h x : ℕ) → ℕ
eight_on h x = bit_or (h / 2 ^ 8) (x * 2 ^ 15)

module _ (h x : ℕ) (small : h < 2 ^ 23) where
  joined : eight_on h x ≡ x * 2 ^ 15 + h / 2 ^ 8
  joined = or_shifted_r x 15 (h / 2 ^ 8) (shr_lt 15 8 small)

  pub on_below : x < 256 → eight_on h x < 2 ^ 23
  on_below octet = or_lt 23 (h / 2 ^ 8) (x * 2 ^ 15) (omega (arith, shr_lt 15 8 small)) (omega arith)

  pub on_bits : bits_of 23 (eight_on h x) ≡ after (bits_of 23 h) (x ∷ [])
  unfolding bits_of message_bits after
  on_bits =
      ap (bits_of 23) joined ∙ bits-joined 15 8 x (h / 2 ^ 8) (shr_lt 15 8 small)
      ∙ ap (λ r. r ++ bits_of 8 x) (bits_shifted 8 15 h)
