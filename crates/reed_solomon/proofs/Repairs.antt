-- What decoding may answer, from the contracts of its steps: the mended message where the terms found make up the syndromes, a loss
-- where they do not. Assumes nothing.
use Rattle.std.proofs.Common.{◌≡◌, ℕ, ◌+◌, ◌/◌, ◌<◌, ◌≤◌, ◌⊎◌, List, length, get_or, take, Some, None, Option, sym, ap, ◌∙◌, inl, inr, arith}
use Rattle.std.proofs.lemmas.List.{length-take-le}
use Rattle.std.proofs.lemmas.Bool.{cases_lt}
use Rattle.field.specs.Field.{Field, Laws, power}
use Rattle.field.specs.Polynomials.{value_at}
use Rattle.rs_algebra.specs.Polynomials.{Elements, weighed}
use Rattle.rs_algebra.specs.Words.{word_of, check_difference, weight, Places, mend, terms_at}
use Rattle.coder.specs.Codes.{distance}
use Rattle.rs_algebra.proofs.Checks.{difference_agrees}
use Rattle.rs_algebra.proofs.Lists.{take_elements}
use Rattle.rs_algebra.proofs.Mending.{mend_long, mend_elements, weight_most}
use Rattle.rs_algebra.proofs.Decoded.{decoded_word, decoded_distance, found_passes}
use Rattle.reed_solomon.specs.Decoding.{Answered}
use Rattle.reed_solomon.specs.Repairs.{Found, Passes, Repaired}
use Rattle.reed_solomon.proofs.Rooted.{rooted_places}
use Rattle.reed_solomon.proofs.OneMore.{mend-front}

module _ (f : Field) (laws : Laws f) (K R : ℕ) (w s l : List ℕ) (long : length w ≡ K + R) (fits : K + R < f.size)
    (elements : Elements f w) (s-long : length s ≡ R) (l-long : length l ≡ R / 2 + 1)
    (syndromes : (j : ℕ) → j < length s → get_or s j 0 ≡ value_at f (check_difference f K R w) (power f j)) where
  twice : R / 2 + R / 2 ≤ R
  twice = omega arith

  S : ℕ → ℕ
  S j = get_or s j 0

  agrees : (j : ℕ) → j < R → S j ≡ value_at f w (power f j)
  unfolding S
  agrees j h = syndromes j (omega arith) ∙ sym (difference_agrees f laws K R w long elements j h)

  module _ (ws vs : List ℕ) (found : Found f (K + R) s l ws vs) where
    places : Places (K + R) ws
    places = rooted_places f (K + R) l (K + R) ws found.roots (omega arith)

    repaired : (d : ℕ) (before after : List ℕ) → length before ≡ K → Passes f (K + R) ws vs s → after ≡ mend (take K w) ws vs → d ≡ weight vs
        → Answered f K R w before after (Some d)
    unfolding S
    repaired d before after room pass mended counted = record {
      long = ap length front ∙ length-take-le K (mend w ws vs) (omega (arith, mend_long w ws vs));
      elements = rw front (take_elements f laws K (mend w ws vs) (mend_elements f laws w ws vs elements found.elements));
      differing =
          ap (λ a. distance (word_of f R a) w) front
          ∙ ap (λ a. distance a w) (sym (decoded_word f laws K R (R / 2) w S long fits twice elements agrees ws vs places found.alike found.elements passes))
          ∙ decoded_distance f laws K R (R / 2) w S long fits twice elements agrees ws vs places found.alike found.elements passes
          ∙ sym counted;
      within = omega (arith, weight_most vs, found.few, found.alike);
    }
      where
        front : after ≡ take K (mend w ws vs)
        front = mended ∙ sym (mend-front K w ws vs)

        passes : (j : ℕ) → j < R → terms_at f (K + R) ws vs j ≡ S j
        passes j h = unfold S in pass j (omega arith)

    lost : Elements f l → ((j : ℕ) → j < R / 2 → weighed f l (λ i. get_or s i 0) j ≡ 0) → (Passes f (K + R) ws vs s → ⊥)
        → (m : List ℕ) → length m ≡ K → Elements f m → R / 2 < distance (word_of f R m) w
    unfolding S
    lost l-elements killed fails m m-long m-elements = go (cases_lt (R / 2) (distance (word_of f R m) w))
      where
        go : (R / 2 < distance (word_of f R m) w) ⊎ (distance (word_of f R m) w ≤ R / 2) → R / 2 < distance (word_of f R m) w
        go (inl far) = far
        go (inr near) =
            absurd (fails (λ j h.
            unfold S in found_passes f laws K R (R / 2) w S long fits twice elements agrees m m-long m-elements near l ws vs l-long l-elements killed
            places (omega (arith, found.few)) found.alike found.roots.all found.values j (omega arith)))

  -- l kills the syndromes of the received word w
  pub answered : (before after : List ℕ) (r : Option ℕ) → length before ≡ K → Elements f l → ((j : ℕ) → j < R / 2 → weighed f l (λ i. get_or s i 0) j ≡ 0)
      → Repaired f w s l before after r → Answered f K R w before after r
  answered before after (Some d) room l-elements killed (ws, vs, found, (pass, mended, counted)) =
      repaired ws vs (rw long at found) d before after room (rw long at pass) (mended ∙ ap (λ k. mend (take k w) ws vs) room) counted
  answered before after None room l-elements killed (ws, vs, found, (fails, stays)) =
      (λ m lm em. lost ws vs (rw long at found) l-elements killed (rw long at fails) m lm em, stays)
