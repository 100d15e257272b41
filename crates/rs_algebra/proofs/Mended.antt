-- When a word with an error added to it is the one nearest word. Assumes nothing.
use Rattle.std.proofs.Common.{◌≡◌, ℕ, ◌+◌, ◌<◌, ◌≤◌, List, length, take, sym, refl, ap, ◌∙◌, arith}
use lib.Bits.{bit_xor, xor_zero_r}
use Rattle.std.proofs.lemmas.List.{length-take-le}
use Rattle.field.specs.Field.{Field, Laws, power}
use Rattle.rs_algebra.specs.Polynomials.{Elements, zeros, plus}
use Rattle.field.specs.Polynomials.{value_at}
use Rattle.rs_algebra.specs.Words.{word_of, Agree, weight}
use Rattle.coder.specs.Codes.{distance}
use Rattle.rs_algebra.proofs.Lists.{zeros_long, plus_comm, plus_again, plus_long, plus_elements, take_elements}
use Rattle.rs_algebra.proofs.Polynomials.{value_plus}
use Rattle.rs_algebra.proofs.Syndromes.{word_vanishes}
use Rattle.coder.proofs.Distances.{distance_symmetric, distance_triangle}
use Rattle.rs_algebra.proofs.Distance.{weight-plus, distance-zeros, word_long, word_elements, vanishes_plus, same_words, both_vanish, message_of, vanishing_word}

module _ (f : Field) (laws : Laws f) (K R : ℕ) (w : List ℕ) (long : length w ≡ K + R) (fits : K + R < f.size) (elements : Elements f w) where
  module _ (err : List ℕ) (err_long : length err ≡ K + R) (err_elements : Elements f err) (agree : Agree f R w err) where
    mended_long : length (plus w err) ≡ K + R
    mended_long = plus_long w err (omega arith) ∙ err_long

    -- an error with the word's syndromes, added to it, makes the word of a message
    pub mended_word : plus w err ≡ word_of f R (take K (plus w err))
    mended_word =
        vanishing_word f laws K R (plus w err) mended_long fits (plus_elements f laws w err elements err_elements)
        (vanishes_plus f laws R w err (long ∙ sym err_long) agree)

    pub mended_message : (length (take K (plus w err)) ≡ K) × Elements f (take K (plus w err))
    mended_message =
        (length-take-le K (plus w err) (omega (arith, mended_long)), take_elements f laws K (plus w err) (plus_elements f laws w err elements err_elements))

    -- as far from the word as the error has places
    pub mended_distance : distance (plus w err) w ≡ weight err
    mended_distance =
        sym (weight-plus (plus w err) w (omega (arith, mended_long)))
        ∙ ap weight (plus_comm (plus w err) w ∙ plus_again w err (omega arith))

    -- any message whose word is near is this one
    pub mended_only : (m : List ℕ) → length m ≡ K → Elements f m → distance (word_of f R m) w + weight err ≤ R → m ≡ take K (plus w err)
    mended_only m lm em near =
        let v = word_of f R m in
        let lv : length v ≡ K + R = word_long f laws R m ∙ ap (λ k. k + R) lm in
        let way = distance_triangle v w (plus w err) (lv ∙ sym long) (long ∙ sym mended_long) in
        let same : v ≡ plus w err
        = same_words f laws R v (plus w err) (lv ∙ sym mended_long) (omega arith) (word_elements f laws R m em)
        (plus_elements f laws w err elements err_elements)
        (both_vanish f laws R v (plus w err) (word_vanishes f laws R m em) (vanishes_plus f laws R w err (long ∙ sym err_long) agree))
        (omega (arith, way, distance_symmetric (plus w err) w, mended_distance)) in
        sym (message_of f laws R m) ∙ ap (λ k. take k v) lm ∙ ap (take K) same

  -- what a near message's word differs by is such an error
  module _ (m : List ℕ) (lm : length m ≡ K) (em : Elements f m) where
    v_long : length (word_of f R m) ≡ K + R
    v_long = word_long f laws R m ∙ ap (λ k. k + R) lm

    pub error_long : length (plus w (word_of f R m)) ≡ K + R
    error_long = plus_long w (word_of f R m) (omega (arith, v_long)) ∙ v_long

    pub error_elements : Elements f (plus w (word_of f R m))
    error_elements = plus_elements f laws w (word_of f R m) elements (word_elements f laws R m em)

    pub error_weight : weight (plus w (word_of f R m)) ≡ distance (word_of f R m) w
    error_weight = weight-plus w (word_of f R m) (long ∙ sym v_long) ∙ distance_symmetric w (word_of f R m)

    pub error_agrees : Agree f R w (plus w (word_of f R m))
    error_agrees j h =
        sym (
        value_plus f laws w (word_of f R m) (power f j) (long ∙ sym v_long)
        ∙ ap (bit_xor (value_at f w (power f j))) (word_vanishes f laws R m em j h)
        ∙ xor_zero_r (value_at f w (power f j))
        )

    pub error_mends : plus w (plus w (word_of f R m)) ≡ word_of f R m
    error_mends = plus_again w (word_of f R m) (omega (arith, v_long))

  -- two errors with the word's syndromes and together at most R places are the same
  pub error_only : (a b : List ℕ) → length a ≡ K + R → length b ≡ K + R → Elements f a → Elements f b → Agree f R w a → Agree f R w b
      → weight a + weight b ≤ R → a ≡ b
  error_only a b la lb ea eb agree-a agree-b few =
      let n = length a in
      let same : length a ≡ length b = la ∙ sym lb in
      same_words f laws R a b same (omega arith) ea eb (λ j h. sym (agree-a j h) ∙ agree-b j h)
      (omega (
        arith,
        distance_triangle a (zeros n) b (sym (zeros_long n)) (zeros_long n ∙ same),
        distance_symmetric (zeros n) b,
        distance-zeros a n refl,
        distance-zeros b n (sym same),
      ))
