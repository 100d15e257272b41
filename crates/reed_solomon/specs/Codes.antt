-- A Reed-Solomon code over a field of 256 elements is a sound code of octets. Assumes nothing.
use Rattle.std.specs.Prelude.{◌≡◌, ℕ, ◌+◌, ◌*◌, ◌/◌, ◌≤◌, ◌≢◌, List, refl}
use Rattle.std.proofs.Common.{sym, ap, ◌∙◌, arith}
use Rattle.coder.specs.Codes.{Octets, Message, Sound, distance}
use Rattle.field.specs.Field.{Field, Laws}
use Rattle.rs_algebra.specs.Polynomials.{Elements}
use Rattle.rs_algebra.specs.Words.{word_of}
use Rattle.rs_algebra.proofs.Division.{check_remains}
use Rattle.rs_algebra.proofs.Distance.{word_long, word_elements, words_differ}
use Rattle.reed_solomon.specs.ReedSolomon.{rs_code, CheckedWords}

module _ (f : Field) (laws : Laws f) where
  pub checked_words : (K R : ℕ) → CheckedWords f K R
  checked_words K R m long e = (refl, check_remains f laws R m e)

  module _ (size : f.size ≡ 256) where
    pub octets_elements : (m : List ℕ) → Octets m → Elements f m
    octets_elements m o k = omega (arith, o k)

    pub elements_octets : (m : List ℕ) → Elements f m → Octets m
    elements_octets m e k = omega (arith, e k)

    pub sound : (K R : ℕ) → 3 ≤ K → K + R ≤ 255 → Sound (rs_code f K R)
    sound K R short long = record {
      shortest = short;
      frame_fits = omega arith;
      longest = long;
      word_long = λ m h. word_long f laws R m ∙ ap (λ n. n + R) h.long;
      word_octets = λ m h. elements_octets (word_of f R m) (word_elements f laws R m (octets_elements m h.octets));
      apart = λ a b ha hb other. far a b ha hb other;
    }
      where
        far : (a b : List ℕ) → Message (rs_code f K R) a → Message (rs_code f K R) b → a ≢ b
            → 2 * (R / 2) + 1 ≤ distance (word_of f R a) (word_of f R b)
        far a b ha hb other =
            let differ = words_differ f laws R a b (ha.long ∙ sym hb.long) (omega (arith, ha.long)) (octets_elements a ha.octets) (octets_elements b hb.octets) other in
            omega arith

    -- the same by the sizes that a coder keeps
    pub sound_by_sizes : (K R N : ℕ) → (3 ≤ K) × (K ≤ N) × (N ≤ 255) → N ≡ K + R → Sound (rs_code f K R)
    sound_by_sizes K R N lengths word = sound K R lengths.0 (omega arith)
