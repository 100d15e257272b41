-- Answers of a decoder over a field, and over octets. Assumes nothing.
use Rattle.std.proofs.Common.{◌≡◌, ℕ, zero, suc, ◌+◌, ◌<◌, true, List, [], ◌∷◌, length, get_or, take, Some, None, Ok, Err, Option, sym, refl, ap, ◌∙◌, arith}
use Rattle.std.specs.Prelude.{◌==◌}
use Rattle.std.specs.List.{list_all}
use Prim.{tt}
use Rattle.std.proofs.lemmas.List.{length-take-le}
use Rattle.std.proofs.lemmas.Bool.{and_parts, eq-eqb, eqb-true}
use Rattle.coder.specs.declared.undecoded.Undecoded.TheVariants.{Lost}
use Rattle.coder.specs.Codes.{Octets, Decoded, fitting}
use Rattle.field.specs.Field.{Field, Laws}
use Rattle.rs_algebra.specs.Polynomials.{Elements}
use Rattle.rs_algebra.specs.Words.{word_of, check_difference}
use Rattle.coder.specs.Codes.{distance}
use Rattle.coder.proofs.Distances.{distance_self}
use Rattle.rs_algebra.proofs.Lists.{take_elements}
use Rattle.rs_algebra.proofs.Checks.{difference_none}
use Rattle.reed_solomon.specs.ReedSolomon.{rs_code}
use Rattle.reed_solomon.specs.Decoding.{NearWord, Answered}
use Rattle.reed_solomon.specs.Codes.{octets_elements, elements_octets}

-- where every octet is 0, each reads 0
pub zero_reads : (xs : List ℕ) → list_all (λ octet. octet == 0) xs ≡ true → (k : ℕ) → get_or xs k 0 ≡ 0
zero_reads [] all k = refl
zero_reads (x ∷ xs) all zero = eqb-true x 0 (and_parts (x == 0) (list_all (λ octet. octet == 0) xs) all).0
zero_reads (x ∷ xs) all (suc k) = zero_reads xs (and_parts (x == 0) (list_all (λ octet. octet == 0) xs) all).1 k

pub reads_zero : (xs : List ℕ) → ((k : ℕ) → k < length xs → get_or xs k 0 ≡ 0) → list_all (λ octet. octet == 0) xs ≡ true
reads_zero [] none = refl
reads_zero (x ∷ xs) none = rw (eq-eqb x 0 (none 0 (omega arith))) (reads_zero xs (λ k h. none (suc k) (omega (arith, h))))

module _ (f : Field) (laws : Laws f) (K R : ℕ) (received : List ℕ) where
  -- a word with no check difference is that of its first octets
  pub clean : (difference : List ℕ) → difference ≡ check_difference f K R received → list_all (λ octet. octet == 0) difference ≡ true
      → length received ≡ K + R → Elements f received → NearWord f K R received (take K received) 0
  clean difference is none long e = record {
    long = length-take-le K received (omega arith);
    elements = take_elements f laws K received e;
    differing = ap (distance (word_of f R (take K received))) word ∙ distance_self (word_of f R (take K received));
    within = omega arith;
  }
    where
      word : received ≡ word_of f R (take K received)
      word = difference_none f laws K R received long (λ k h. ap (λ d. get_or d k 0) (sym is) ∙ zero_reads difference none k)

  -- the same over octets, where all octets are elements: the code's relation
  module _ (size : f.size ≡ 256) (before : List ℕ) (long : length before ≡ K) (whole : length received ≡ K + R) (octets : Octets received) where
    abbrev Told : List ℕ → Option ℕ → Type 0
    Told after r = Elements f received → Answered f (length before) R received before after r

    accepted : fitting (rs_code f K R) before received ≡ Ok tt
    accepted = rw (eq-eqb (length before) K long, eq-eqb (length received) (K + R) whole)

    pub found : (after : List ℕ) (d : ℕ) → Told after (Some d) → Decoded (rs_code f K R) received before after (Ok d)
    found after d told =
        let near = told (octets_elements f laws size received octets) in (
          accepted,
          record {
            message = record { long = near.long ∙ long; octets = elements_octets f laws size after near.elements };
            differing = near.differing;
            within = near.within;
          },
        )

    pub lost : (after : List ℕ) → Told after None → Decoded (rs_code f K R) received before after (Err Lost)
    lost after told =
        let far = told (octets_elements f laws size received octets) in (
          accepted,
          λ m h. omega (arith, far.0 m (h.long ∙ sym long) (octets_elements f laws size m h.octets)),
          far.1,
        )
