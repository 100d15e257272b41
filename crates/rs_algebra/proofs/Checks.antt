-- The check difference: the check octets of a received word's message and those received, added. Assumes nothing.
use Rattle.std.proofs.Common.{◌≡◌, ℕ, ◌+◌, ◌<◌, List, ◌++◌, length, get_or, take, drop, sym, ap, ◌∙◌, arith, length-drop, take-append-drop}
use lib.Bits.{bit_xor}
use Rattle.std.proofs.lemmas.List.{append_cancel_left}
use Rattle.field.specs.Field.{Field, Laws, power, raised}
use Rattle.rs_algebra.specs.Polynomials.{Elements, plus}
use Rattle.field.specs.Polynomials.{value_at}
use Rattle.rs_algebra.specs.Words.{check_of, word_of, check_difference, Agree}
use Rattle.field.specs.Sums.{xor_same}
use Rattle.rs_algebra.proofs.Lists.{zeros_read, plus_none, plus_long, plus_self, plus_elements, take_elements, drop_elements}
use Rattle.rs_algebra.proofs.Polynomials.{value_plus, value_append}
use Rattle.rs_algebra.proofs.Division.{check_long, check_elements}
use Rattle.rs_algebra.proofs.Syndromes.{word_vanishes}

module _ (f : Field) (laws : Laws f) (K R : ℕ) (w : List ℕ) (long : length w ≡ K + R) where
  got_long : length (drop K w) ≡ R
  got_long = omega (arith, length-drop K w)

  made_long : length (check_of f R (take K w)) ≡ R
  made_long = check_long f laws R (take K w)

  pub difference_long : length (check_difference f K R w) ≡ R
  unfolding check_difference
  difference_long = plus_long (check_of f R (take K w)) (drop K w) (omega (arith, got_long, made_long)) ∙ got_long

  pub difference_elements : Elements f w → Elements f (check_difference f K R w)
  unfolding check_difference
  difference_elements e =
      plus_elements f laws (check_of f R (take K w)) (drop K w) (check_elements f laws R (take K w) (take_elements f laws K w e)) (drop_elements f laws K w e)

  -- the check difference has the syndromes of the word
  pub difference_agrees : Elements f w → Agree f R w (check_difference f K R w)
  unfolding check_difference
  difference_agrees e j h =
      let x = power f j in
      let m = take K w in
      let up = f.times (value_at f m x) (raised f.times x R) in
      let made : up ≡ value_at f (check_of f R m) x
      = xor_same up (value_at f (check_of f R m) x) (
      sym (value_append f laws m (check_of f R m) x ∙ ap (λ n. bit_xor (f.times (value_at f m x) (raised f.times x n)) (value_at f (check_of f R m) x)) made_long)
      ∙ word_vanishes f laws R m (take_elements f laws K w e) j h
      ) in
      ap (λ p. value_at f p x) (sym (take-append-drop K w))
      ∙ value_append f laws m (drop K w) x
      ∙ ap (λ n. bit_xor (f.times (value_at f m x) (raised f.times x n)) (value_at f (drop K w) x)) got_long
      ∙ ap (λ y. bit_xor y (value_at f (drop K w) x)) made
      ∙ sym (value_plus f laws (check_of f R m) (drop K w) x (made_long ∙ sym got_long))

  -- it is nothing but zeros if the word is that of its first K octets, and only then
  pub difference_none : ((k : ℕ) → k < R → get_or (check_difference f K R w) k 0 ≡ 0) → w ≡ word_of f R (take K w)
  unfolding check_difference
  difference_none none =
      sym (take-append-drop K w)
      ∙ ap (λ c. take K w ++ c)
      (sym (plus_none (check_of f R (take K w)) (drop K w) (made_long ∙ sym got_long) (λ k h. none k (omega (arith, made_long)))))

  pub none_different : w ≡ word_of f R (take K w) → (k : ℕ) → get_or (check_difference f K R w) k 0 ≡ 0
  unfolding check_difference
  none_different e k =
      let same : drop K w ≡ check_of f R (take K w)
      = append_cancel_left (take K w) (drop K w) (check_of f R (take K w)) (take-append-drop K w ∙ e) in
      ap (λ c. get_or (plus (check_of f R (take K w)) c) k 0) same
      ∙ ap (λ c. get_or c k 0) (plus_self (check_of f R (take K w)))
      ∙ zeros_read (length (check_of f R (take K w))) k
