-- The worked words and decodings. Assumes nothing.
use Rattle.std.proofs.Common.{◌≡◌, ℕ, zero, suc, ◌+◌, ◌<◌, ◌≤◌, ◌⊎◌, List, [], ◌∷◌, length, sym, refl, ap, ◌∙◌, inl, inr, arith}
use Rattle.std.proofs.lemmas.Bool.{cases_lt}
use Rattle.coder.specs.Codes.{Near, NoneNear, Octets, distance}
use Rattle.field.specs.Field.{raised, power}
use Rattle.field.specs.Polynomials.{value_at}
use Rattle.field.specs.Binary.{octets, doubled, times_bits, reduced_times}
use Rattle.field.specs.Octets.{octet_laws}
use Rattle.rs_algebra.specs.Polynomials.{Elements, zeros, plus, scaled, product, generator}
use Rattle.rs_algebra.specs.Words.{remainder, check_of, word_of}
use Rattle.rs_algebra.proofs.Lists.{all_zeros}
use Rattle.rs_algebra.proofs.Polynomials.{value_zeros}
use Rattle.rs_algebra.proofs.Zero.{zero_word}
use Rattle.rs_algebra.proofs.Mended.{error_long, error_elements, error_weight, error_agrees}
use Rattle.reed_solomon.specs.ReedSolomon.{rs_code}
use Rattle.reed_solomon.specs.Samples.{WordSamples, DecodingSamples}

pub word_samples : WordSamples
unfolding check_of remainder generator product scaled plus raised reduced_times times_bits doubled
word_samples = (refl, refl)

-- the octets of a short list
three : (a b c : ℕ) → a < 256 → b < 256 → c < 256 → Octets (a ∷ b ∷ c ∷ [])
three a b c ha hb hc zero = ha
three a b c ha hb hc (suc zero) = hb
three a b c ha hb hc (suc (suc zero)) = hc
three a b c ha hb hc (suc (suc (suc k))) = omega arith

near_one : Near (rs_code octets 3 2) (0 ∷ 0 ∷ 1 ∷ 0 ∷ 2 ∷ []) (0 ∷ 0 ∷ 1 ∷ []) 1
unfolding check_of remainder generator product scaled plus raised reduced_times times_bits doubled distance
near_one = record {
  message = record { long = refl; octets = three 0 0 1 (omega arith) (omega arith) (omega arith) };
  differing = refl;
  within = omega arith;
}

near_none : Near (rs_code octets 3 2) (0 ∷ 0 ∷ 0 ∷ 0 ∷ 2 ∷ []) (0 ∷ 0 ∷ 0 ∷ []) 1
unfolding check_of remainder generator product scaled plus raised reduced_times times_bits doubled distance
near_none = record {
  message = record { long = refl; octets = three 0 0 0 (omega arith) (omega arith) (omega arith) };
  differing = refl;
  within = omega arith;
}

spoilt_octets : Elements octets (0 ∷ 0 ∷ 0 ∷ 1 ∷ 1 ∷ [])
spoilt_octets zero = omega arith
spoilt_octets (suc zero) = omega arith
spoilt_octets (suc (suc zero)) = omega arith
spoilt_octets (suc (suc (suc zero))) = omega arith
spoilt_octets (suc (suc (suc (suc zero)))) = omega arith
spoilt_octets (suc (suc (suc (suc (suc k))))) = omega arith

-- its first two syndromes are 00 and 03
first_syndrome : value_at octets (0 ∷ 0 ∷ 0 ∷ 1 ∷ 1 ∷ []) (power octets 0) ≡ 0
unfolding value_at raised reduced_times times_bits doubled
first_syndrome = refl

second_syndrome : value_at octets (0 ∷ 0 ∷ 0 ∷ 1 ∷ 1 ∷ []) (power octets 1) ≡ 3
unfolding value_at raised reduced_times times_bits doubled
second_syndrome = refl

-- One spoilt octet with the first syndrome 0 would be 0 itself, and then so would the second syndrome.
none_near : NoneNear (rs_code octets 3 2) (0 ∷ 0 ∷ 0 ∷ 1 ∷ 1 ∷ [])
none_near m message = go (cases_lt 1 (distance (word_of octets 2 m) w))
  where
    w : List ℕ
    w = 0 ∷ 0 ∷ 0 ∷ 1 ∷ 1 ∷ []

    go : (1 < distance (word_of octets 2 m) w) ⊎ (distance (word_of octets 2 m) w ≤ 1) → 1 < distance (word_of octets 2 m) w
    go (inl far) = far
    go (inr close) =
        let err : List ℕ = plus w (word_of octets 2 m) in
        let fits : 3 + 2 < 256 = omega arith in
        let long = error_long octets octet_laws 3 2 w refl fits spoilt_octets m message.long message.octets in
        let elements = error_elements octets octet_laws 3 2 w refl fits spoilt_octets m message.long message.octets in
        let weight_is = error_weight octets octet_laws 3 2 w refl fits spoilt_octets m message.long message.octets in
        let agrees = error_agrees octets octet_laws 3 2 w refl fits spoilt_octets m message.long message.octets in
        let vanish : (j : ℕ) → j < 1 → value_at octets err (power octets j) ≡ 0 =
        λ j h. let e : j ≡ 0 = omega (arith, h) in
        ap (λ i. value_at octets err (power octets i)) e ∙ sym (agrees 0 (omega arith)) ∙ first_syndrome in
        let nothing = zero_word octets octet_laws 1 err (omega (arith, long)) elements (omega (arith, weight_is, close)) vanish in
        let zeros-are : err ≡ zeros (length err) = all_zeros err (λ k h. nothing k) in
        let second : value_at octets err (power octets 1) ≡ 0 =
        ap (λ p. value_at octets p (power octets 1)) zeros-are ∙ value_zeros octets octet_laws (length err) (power octets 1) in
        absurd (omega (arith, sym second_syndrome ∙ agrees 1 (omega arith) ∙ second))

pub decoding_samples : DecodingSamples
decoding_samples = (near_one, none_near, near_none)
