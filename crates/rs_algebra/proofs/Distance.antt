-- The distance of words. Assumes nothing.
use Rattle.std.proofs.Common.{◌≡◌, ℕ, zero, suc, ◌+◌, ◌<◌, ◌≤◌, true, false, cond, eqb, ◌⊎◌, List, [], ◌∷◌, ◌++◌, length, take, drop, sym, refl, ap, ◌∙◌, ap₂, inl, inr, arith, length-append, length-drop, take-append-drop}
use lib.Bits.{bit_xor}
use Rattle.std.proofs.lemmas.List.{take_at, drop_at, length-take-le}
use Rattle.std.proofs.lemmas.Bool.{cases_Bool, cases_lt, eqb-true, eqb-false, eq-eqb, ne_eqb}
use Rattle.field.specs.Field.{Field, Laws, power}
use Rattle.rs_algebra.specs.Polynomials.{Elements, zeros, plus}
use Rattle.field.specs.Polynomials.{value_at}
use Rattle.rs_algebra.specs.Words.{check_of, word_of, Vanishes, Agree, weight}
use Rattle.coder.specs.Codes.{distance}
use Rattle.coder.proofs.Distances.{distance_le}
use Rattle.field.specs.Sums.{xor_same, xor_none}
use Rattle.rs_algebra.proofs.Lists.{plus_none, plus_long, plus_elements, append_elements, take_elements}
use Rattle.rs_algebra.proofs.Polynomials.{value_plus}
use Rattle.rs_algebra.proofs.Division.{check_long, check_elements}
use Rattle.rs_algebra.proofs.Syndromes.{word_vanishes}
use Rattle.rs_algebra.proofs.Zero.{zero_word}

abbrev apart : ℕ → ℕ → ℕ
apart x y = cond (eqb x y) 0 1

apart-sum : (x y : ℕ) → apart (bit_xor x y) 0 ≡ apart x y
apart-sum x y = go (cases_Bool (eqb x y))
  where
    go : (eqb x y ≡ true) ⊎ (eqb x y ≡ false) → apart (bit_xor x y) 0 ≡ apart x y
    go (inl e) = rw (eq-eqb (bit_xor x y) 0 (xor_none x y (eqb-true x y e)), e)
    go (inr e) = rw (ne_eqb (bit_xor x y) 0 (λ z. eqb-false x y e (xor_same x y z)), e)

apart_none : (x : ℕ) → apart x x ≡ 0
apart_none x = rw (eq-eqb x x refl)

-- the sum of two words is not 0 where they differ
pub weight-plus : (a b : List ℕ) → length a ≡ length b → weight (plus a b) ≡ distance a b
unfolding weight plus distance
weight-plus [] [] h = refl
weight-plus [] (y ∷ b) h = absurd (omega arith)
weight-plus (x ∷ a) [] h = absurd (omega arith)
weight-plus (x ∷ a) (y ∷ b) h = ap₂ ◌+◌ (apart-sum x y) (weight-plus a b (omega arith))

pub distance-zeros : (a : List ℕ) (n : ℕ) → length a ≡ n → distance a (zeros n) ≡ weight a
unfolding weight distance
distance-zeros [] n h = refl
distance-zeros (x ∷ a) zero h = absurd (omega arith)
distance-zeros (x ∷ a) (suc n) h = ap (λ d. apart x 0 + d) (distance-zeros a n (omega arith))

-- words that begin alike differ in what follows
pub distance_behind : (a b c : List ℕ) → distance (a ++ b) (a ++ c) ≡ distance b c
unfolding distance
distance_behind [] b c = refl
distance_behind (x ∷ a) b c = omega (arith, apart_none x, distance_behind a b c)

module _ (f : Field) (laws : Laws f) where
  pub word_long : (R : ℕ) (m : List ℕ) → length (word_of f R m) ≡ length m + R
  word_long R m = length-append m (check_of f R m) ∙ ap (λ n. length m + n) (check_long f laws R m)

  pub word_elements : (R : ℕ) (m : List ℕ) → Elements f m → Elements f (word_of f R m)
  word_elements R m e = append_elements f laws m (check_of f R m) e (check_elements f laws R m e)

  pub vanishes_plus : (R : ℕ) (a b : List ℕ) → length a ≡ length b → Agree f R a b → Vanishes f R (plus a b)
  vanishes_plus R a b long agree j h =
      value_plus f laws a b (power f j) long ∙ xor_none (value_at f a (power f j)) (value_at f b (power f j)) (agree j h)

  -- two words whose first R syndromes agree and that differ in at most R places are the same
  pub same_words : (R : ℕ) (a b : List ℕ) → length a ≡ length b → length a < f.size → Elements f a → Elements f b → Agree f R a b → distance a b ≤ R → a ≡ b
  same_words R a b long h ea eb agree near =
      let l : length (plus a b) ≡ length b = plus_long a b (omega arith) in
      plus_none a b long
      (λ k i. zero_word f laws R (plus a b) (omega arith) (plus_elements f laws a b ea eb) (omega (arith, weight-plus a b long)) (vanishes_plus R a b long agree) k)

  pub both_vanish : (R : ℕ) (a b : List ℕ) → Vanishes f R a → Vanishes f R b → Agree f R a b
  both_vanish R a b va vb j h = va j h ∙ sym (vb j h)

  -- a word tells its message
  pub message_of : (R : ℕ) (m : List ℕ) → take (length m) (word_of f R m) ≡ m
  message_of R m = take_at m (check_of f R m) (length m) refl

  pub check_of_lem : (R : ℕ) (m : List ℕ) → drop (length m) (word_of f R m) ≡ check_of f R m
  check_of_lem R m = drop_at m (check_of f R m) (length m) refl

  -- words of two messages that differ in at most R places are words of one message
  pub same_messages : (R : ℕ) (m n : List ℕ) → length m ≡ length n → length m + R < f.size → Elements f m → Elements f n
      → distance (word_of f R m) (word_of f R n) ≤ R → m ≡ n
  same_messages R m n long h em en near =
      let words : word_of f R m ≡ word_of f R n
      = same_words R (word_of f R m) (word_of f R n) (word_long R m ∙ ap (λ k. k + R) long ∙ sym (word_long R n)) (omega (arith, word_long R m))
      (word_elements R m em) (word_elements R n en)
      (both_vanish R (word_of f R m) (word_of f R n) (word_vanishes f laws R m em) (word_vanishes f laws R n en)) near in
      sym (message_of R m) ∙ ap (take (length m)) words ∙ ap (λ k. take k (word_of f R n)) long ∙ message_of R n

  -- so words of different messages differ in at least R + 1 places
  pub words_differ : (R : ℕ) (m n : List ℕ) → length m ≡ length n → length m + R < f.size → Elements f m → Elements f n
      → ¬ (m ≡ n) → R < distance (word_of f R m) (word_of f R n)
  words_differ R m n long h em en other = go (cases_lt R (distance (word_of f R m) (word_of f R n)))
    where
      go : (R < distance (word_of f R m) (word_of f R n)) ⊎ (distance (word_of f R m) (word_of f R n) ≤ R) → R < distance (word_of f R m) (word_of f R n)
      go (inl far) = far
      go (inr near) = absurd (other (same_messages R m n long h em en near))

  -- a word whose first R syndromes vanish is the word of its first K octets
  pub vanishing_word : (K R : ℕ) (w : List ℕ) → length w ≡ K + R → K + R < f.size → Elements f w → Vanishes f R w → w ≡ word_of f R (take K w)
  vanishing_word K R w long h e van =
      let m = take K w in
      let em = take_elements f laws K w e in
      let lm : length m ≡ K = length-take-le K w (omega arith) in
      let lw : length (word_of f R m) ≡ K + R = word_long R m ∙ ap (λ k. k + R) lm in
      let whole : m ++ drop K w ≡ w = take-append-drop K w in
      let near : distance w (word_of f R m) ≤ R
      = rw whole at near_whole in
      same_words R w (word_of f R m) (long ∙ sym lw) (omega arith) e (word_elements R m em) (both_vanish R w (word_of f R m) van (word_vanishes f laws R m em)) near
    where
      near_whole : distance (take K w ++ drop K w) (word_of f R (take K w)) ≤ R
      near_whole =
          omega (
            arith,
            distance_behind (take K w) (drop K w) (check_of f R (take K w)),
            distance_le (drop K w) (check_of f R (take K w)),
            length-drop K w,
          )
