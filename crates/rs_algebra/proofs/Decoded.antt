-- What a decoder finds: sound if its terms pass for the syndromes, and they do if a message is near. Assumes nothing.
use Rattle.std.proofs.Common.{◌≡◌, ℕ, zero, suc, ◌+◌, ◌<◌, ◌≤◌, ◌⊎◌, List, [], ◌∷◌, length, get_or, take, sym, refl, ap, ◌∙◌, inl, inr, arith}
use lib.Bits.{bit_xor}
use Rattle.std.proofs.lemmas.Bool.{cases_lt, cases_eq}
use Rattle.field.specs.Field.{Field, Laws, power}
use Rattle.rs_algebra.specs.Polynomials.{Elements, zeros, plus, low_at, weighed}
use Rattle.field.specs.Polynomials.{value_at}
use Rattle.rs_algebra.specs.Words.{word_of, weight, locator, ValueFor, Places, mend, terms_at, Agree}
use Rattle.coder.specs.Codes.{distance}
use Rattle.rs_algebra.proofs.Lists.{same_reads, zeros_long, zeros_read, zeros_elements}
use Rattle.rs_algebra.proofs.Locator.{locates}
use Rattle.rs_algebra.proofs.Values.{value_at_lem}
use Rattle.rs_algebra.proofs.Mending.{mend_long, mend_other, mend_at, mended_sum, error_weight, mend_elements, error_value, weight_most}
use Rattle.rs_algebra.proofs.Mended.{mended_word, mended_distance, mended_only, error_long, error_elements, error_weight as difference-weight, error_agrees, error_mends}

-- k stands in a list, or does not
abbrev Among : List ℕ → ℕ → Type 0
Among ws k = (i : ℕ) × (i < length ws) × (get_or ws i 0 ≡ k)

among : (ws : List ℕ) (k : ℕ) → Among ws k ⊎ ((i : ℕ) → i < length ws → ¬ (get_or ws i 0 ≡ k))
among [] k = inr (λ i h. absurd (omega arith))
among (w ∷ ws) k = go (cases_eq w k) (among ws k)
  where
    go : (w ≡ k) ⊎ (w ≡ k → ⊥) → Among ws k ⊎ ((i : ℕ) → i < length ws → ¬ (get_or ws i 0 ≡ k))
        → Among (w ∷ ws) k ⊎ ((i : ℕ) → i < length (w ∷ ws) → ¬ (get_or (w ∷ ws) i 0 ≡ k))
    go (inl here) rest = inl (0, omega arith, here)
    go (inr other) (inl at) = inl (suc at.0, omega (arith, at.1), at.2)
    go (inr other) (inr none) = inr all
      where
        all : (i : ℕ) → i < length (w ∷ ws) → ¬ (get_or (w ∷ ws) i 0 ≡ k)
        all zero h e = other e
        all (suc i) h e = none i (omega arith) e

module _ (f : Field) (laws : Laws f) where
  -- An error of which S are the first r syndromes, places ws that hold all its places, at most r, and the value for each: the values make the error.
  pub rebuilt : (r : ℕ) (err ws vs : List ℕ) (S : ℕ → ℕ) → Elements f err → ((j : ℕ) → j < r → S j ≡ value_at f err (power f j))
      → Places (length err) ws → length ws ≡ length vs → length ws ≤ r
      → ((k : ℕ) → k < length err → 0 < get_or err k 0 → (i : ℕ) × (i < length ws) × (get_or ws i 0 ≡ k))
      → ((i : ℕ) → i < length ws → ValueFor f (length err) S ws (get_or ws i 0) (get_or vs i 0))
      → mend (zeros (length err)) ws vs ≡ err
  rebuilt r err ws vs S e agree places long room covers values =
      same_reads (mend (zeros (length err)) ws vs) err (mend_long (zeros (length err)) ws vs ∙ zeros_long (length err)) (λ k h. go k (omega (arith, mend_long (zeros (length err)) ws vs, zeros_long (length err))) (among ws k))
    where
      inside : Places (length (zeros (length err))) ws
      inside = rw (zeros_long (length err)) places

      right : (i : ℕ) → i < length ws → get_or vs i 0 ≡ get_or err (get_or ws i 0) 0
      right i h =
          let found = values i h in
          found.2
          ∙ value_at_lem f laws r err ws found.0 S (get_or ws i 0) e (omega (arith, found.1.without i h refl)) agree (places.inside i h) covers found.1

      outside : (k : ℕ) → k < length err → ((i : ℕ) → i < length ws → ¬ (get_or ws i 0 ≡ k)) → (0 < get_or err k 0) ⊎ (get_or err k 0 ≤ 0) → 0 ≡ get_or err k 0
      outside k h none (inl some) = let at = covers k h some in absurd (none at.0 at.1 at.2)
      outside k h none (inr zero-there) = omega arith

      go : (k : ℕ) → k < length err → Among ws k ⊎ ((i : ℕ) → i < length ws → ¬ (get_or ws i 0 ≡ k)) → get_or (mend (zeros (length err)) ws vs) k 0 ≡ get_or err k 0
      go k h (inl at) =
          let i = at.0 in
          ap (λ n. get_or (mend (zeros (length err)) ws vs) n 0) (sym at.2)
          ∙ mend_at (zeros (length err)) ws vs i inside long at.1
          ∙ ap (λ a. bit_xor a (get_or vs i 0)) (zeros_read (length err) (get_or ws i 0))
          ∙ right i at.1
          ∙ ap (λ n. get_or err n 0) at.2
      go k h (inr none) = mend_other (zeros (length err)) ws vs k none ∙ zeros_read (length err) k ∙ outside k h none (cases_lt 0 (get_or err k 0))

  module _ (K R t : ℕ) (w : List ℕ) (S : ℕ → ℕ) (long : length w ≡ K + R) (fits : K + R < f.size) (twice : t + t ≤ R) (elements : Elements f w)
      (syndromes : (j : ℕ) → j < R → S j ≡ value_at f w (power f j)) where
    -- Sound: terms at no more than t places that make up the syndromes mend the word. It is the word of a message, as far from
    -- the received one as values are not 0, and no other message's word is within t places.
    module _ (ws vs : List ℕ) (places : Places (K + R) ws) (alike : length ws ≡ length vs) (values : Elements f vs)
        (pass : (j : ℕ) → j < R → terms_at f (K + R) ws vs j ≡ S j) where
      err : List ℕ
      err = mend (zeros (length w)) ws vs

      err_long : length err ≡ K + R
      unfolding err
      err_long = mend_long (zeros (length w)) ws vs ∙ zeros_long (length w) ∙ long

      err_elements : Elements f err
      unfolding err
      err_elements = mend_elements f laws (zeros (length w)) ws vs (zeros_elements f laws (length w)) values

      err_agrees : Agree f R w err
      unfolding err
      err_agrees j h =
          sym (syndromes j h)
          ∙ sym (pass j h)
          ∙ sym (ap (λ n. value_at f (mend (zeros n) ws vs) (power f j)) long ∙ error_value f laws (K + R) ws vs j places.inside)

      pub decoded_word : mend w ws vs ≡ word_of f R (take K (mend w ws vs))
      unfolding err
      decoded_word = rw (mended_sum w ws vs) (mended_word f laws K R w long fits elements err err_long err_elements err_agrees)

      pub decoded_distance : distance (mend w ws vs) w ≡ weight vs
      unfolding err
      decoded_distance =
          rw (mended_sum w ws vs) (
          mended_distance f laws K R w long fits elements err err_long err_elements err_agrees
          ∙ error_weight (length w) ws vs (rw long places) alike
          )

      pub decoded_only : length ws ≤ t → (m : List ℕ) → length m ≡ K → Elements f m → distance (word_of f R m) w ≤ t → m ≡ take K (mend w ws vs)
      unfolding err
      decoded_only few m lm em near =
          rw (mended_sum w ws vs) (
          mended_only f laws K R w long fits elements err err_long err_elements err_agrees m lm em
          (omega (arith, error_weight (length w) ws vs (rw long places) alike, weight_most vs))
          )

    -- Complete: if a message's word is within t places, the places where a locator polynomial vanishes and their values
    -- make up the syndromes and mend the word to that word.
    module _ (m : List ℕ) (m-long : length m ≡ K) (m-elements : Elements f m) (near : distance (word_of f R m) w ≤ t)
        (l ws vs : List ℕ) (l-long : length l ≡ t + 1) (l-elements : Elements f l)
        (killed : (j : ℕ) → j < t → weighed f l S j ≡ 0)
        (places : Places (K + R) ws) (few : length ws ≤ R) (alike : length ws ≡ length vs)
        (roots : (k : ℕ) → k < K + R → low_at f l (locator f (K + R) k) ≡ 0 → (i : ℕ) × (i < length ws) × (get_or ws i 0 ≡ k))
        (values : (i : ℕ) → i < length ws → ValueFor f (K + R) S ws (get_or ws i 0) (get_or vs i 0)) where
      true_error : List ℕ
      true_error = plus w (word_of f R m)

      true_long : length true_error ≡ K + R
      unfolding true_error
      true_long = error_long f laws K R w long fits elements m m-long m-elements

      true_elements : Elements f true_error
      unfolding true_error
      true_elements = error_elements f laws K R w long fits elements m m-long m-elements

      true_agrees : (j : ℕ) → j < R → S j ≡ value_at f true_error (power f j)
      unfolding true_error
      true_agrees j h = syndromes j h ∙ error_agrees f laws K R w long fits elements m m-long m-elements j h

      true_few : weight true_error ≤ t
      unfolding true_error
      true_few = omega (arith, difference-weight f laws K R w long fits elements m m-long m-elements)

      covered : (k : ℕ) → k < length true_error → 0 < get_or true_error k 0 → (i : ℕ) × (i < length ws) × (get_or ws i 0 ≡ k)
      covered k h some =
          let z = locates f laws t R true_error l S (omega (arith, true_long)) true_elements l-elements true_few (omega arith) true_agrees killed k h some in
          roots k (omega (arith, true_long)) (rw true_long at z)

      found_error : mend (zeros (K + R)) ws vs ≡ true_error
      found_error =
          rw true_long at
          (rebuilt R true_error ws vs S true_elements true_agrees (rw true_long places) alike few covered (λ i h. rw true_long (values i h)))

      pub found_passes : (j : ℕ) → j < R → terms_at f (K + R) ws vs j ≡ S j
      found_passes j h =
          sym (error_value f laws (K + R) ws vs j places.inside) ∙ ap (λ p. value_at f p (power f j)) found_error ∙ sym (true_agrees j h)

      pub found_word : mend w ws vs ≡ word_of f R m
      unfolding true_error
      found_word =
          mended_sum w ws vs
          ∙ ap (λ n. plus w (mend (zeros n) ws vs)) long
          ∙ ap (plus w) found_error
          ∙ error_mends f laws K R w long fits elements m m-long m-elements
