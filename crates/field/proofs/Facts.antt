-- What follows from the laws of a field. Assumes nothing.
use Rattle.std.proofs.Common.{◌≡◌, ℕ, zero, suc, ◌+◌, ◌*◌, ◌%◌, ◌<◌, ◌≤◌, ◌⊎◌, List, [], ◌∷◌, ◌++◌, length, sym, ap, ◌∙◌, ap₂, inl, inr, mod-eq_of_lt, mul_comm, arith}
use lib.Bits.{bit_xor, xor_assoc, xor_self, xor_zero_l, xor_zero_r}
use Rattle.std.proofs.lemmas.List.{length-append}
use Rattle.std.proofs.lemmas.Bool.{cases_lt}
use Rattle.field.specs.Field.{Field, Laws, power, raised}
use Rattle.field.specs.Polynomials.{value_at}
use Rattle.field.specs.Powers.{Product, power_below as power-is-below, power_add as powers-add-up, power-power}

module _ (f : Field) (laws : Laws f) where
  pub zero_element : 0 < f.size
  zero_element = omega (arith, laws.at_least_four)

  pub one_element : 1 < f.size
  one_element = omega (arith, laws.at_least_four)

  pub times_zero : (a : ℕ) → f.times a 0 ≡ 0
  times_zero a = laws.distributive a 0 0 ∙ xor_self (f.times a 0)

  pub zero_times : (a : ℕ) → f.times 0 a ≡ 0
  zero_times a = laws.commutative 0 a ∙ times_zero a

  pub times_left : (a b c : ℕ) → f.times a (f.times b c) ≡ f.times b (f.times a c)
  times_left a b c = sym (laws.associative a b c) ∙ ap (λ x. f.times x c) (laws.commutative a b) ∙ laws.associative b a c

  pub times_right : (a b c : ℕ) → f.times (bit_xor a b) c ≡ bit_xor (f.times a c) (f.times b c)
  times_right a b c = laws.commutative (bit_xor a b) c ∙ laws.distributive c a b ∙ ap₂ bit_xor (laws.commutative c a) (laws.commutative c b)

  pub times_one : (a : ℕ) → a < f.size → f.times a 1 ≡ a
  times_one a h = laws.commutative a 1 ∙ laws.neutral a h

  -- a product is 0 only where a factor is
  pub cancels : (a b : ℕ) → 0 < a → a < f.size → b < f.size → f.times a b ≡ 0 → b ≡ 0
  cancels a b some h k e =
      let pos : 0 < a % f.size = rw (mod-eq_of_lt h) some in
      sym (laws.neutral b k)
      ∙ ap (λ x. f.times x b) (sym (laws.inverts a pos) ∙ laws.commutative a (f.inverse a))
      ∙ laws.associative (f.inverse a) a b
      ∙ ap (f.times (f.inverse a)) e
      ∙ times_zero (f.inverse a)

  pub product_some : (a b : ℕ) → 0 < a → a < f.size → 0 < b → b < f.size → 0 < f.times a b
  product_some a b p h q k = go (cases_lt 0 (f.times a b))
    where
      go : (0 < f.times a b) ⊎ (f.times a b ≤ 0) → 0 < f.times a b
      go (inl some) = some
      go (inr none) = absurd (omega (arith, cancels a b p h k (omega arith)))

  -- powers
  raisable : Product f.size f.times
  raisable = record { some = one_element; below = laws.times_below; associative = laws.associative; neutral = laws.neutral }

  pub raised_below : (x j : ℕ) → raised f.times x j < f.size
  raised_below = power-is-below raisable

  pub raised_add : (x j k : ℕ) → f.times (raised f.times x j) (raised f.times x k) ≡ raised f.times x (j + k)
  raised_add = powers-add-up raisable

  pub raised-raised : (x j k : ℕ) → raised f.times (raised f.times x j) k ≡ raised f.times x (j * k)
  raised-raised x j k = power-power raisable x j k ∙ ap (raised f.times x) (mul_comm k j)

  pub raised_some : (x j : ℕ) → 0 < x → x < f.size → 0 < raised f.times x j
  unfolding raised
  raised_some x zero some h = omega arith
  raised_some x (suc j) some h = product_some x (raised f.times x j) some h (raised_some x j some h) (raised_below x j)

  pub raised_one : (x : ℕ) → x < f.size → raised f.times x 1 ≡ x
  unfolding raised
  raised_one x h = times_one x h

  pub raised_swap : (x j k : ℕ) → raised f.times (raised f.times x j) k ≡ raised f.times (raised f.times x k) j
  raised_swap x j k = raised-raised x j k ∙ ap (raised f.times x) (mul_comm j k) ∙ sym (raised-raised x k j)

  -- powers of alpha
  pub power_below : (k : ℕ) → power f k < f.size
  power_below k = raised_below f.alpha k

  pub power_add : (j k : ℕ) → f.times (power f j) (power f k) ≡ power f (j + k)
  power_add j k = raised_add f.alpha j k

  pub power_swap : (j k : ℕ) → raised f.times (power f j) k ≡ raised f.times (power f k) j
  power_swap j k = raised_swap f.alpha j k

  pub alpha_some : 0 < f.alpha
  unfolding raised
  alpha_some = go (cases_lt 0 f.alpha)
    where
      go : (0 < f.alpha) ⊎ (f.alpha ≤ 0) → 0 < f.alpha
      go (inl some) = some
      go (inr none) =
          let a_0 : f.alpha ≡ 0 = omega arith in
          let z : (b : ℕ) → f.times f.alpha b ≡ 0 = λ b. ap (λ x. f.times x b) a_0 ∙ zero_times b in
          let four = laws.at_least_four in
          absurd (omega (arith, laws.powers_differ 1 2 (omega arith) (omega arith) (z (power f 0) ∙ sym (z (power f 1)))))

  pub power_some : (k : ℕ) → 0 < power f k
  power_some k = raised_some f.alpha k alpha_some laws.alpha_below

  -- an inverse is the inverse
  pub inverse_unique : (a b : ℕ) → b < f.size → f.times a b ≡ 1 → b ≡ f.inverse a
  inverse_unique a b below one = go (cases_lt 0 (a % f.size))
    where
      go : (0 < a % f.size) ⊎ (a % f.size ≤ 0) → b ≡ f.inverse a
      go (inl some) =
          sym (laws.neutral b below) ∙ ap (λ x. f.times x b) (sym (laws.inverts a some) ∙ laws.commutative a (f.inverse a))
          ∙ laws.associative (f.inverse a) a b ∙ ap (f.times (f.inverse a)) one ∙ laws.commutative (f.inverse a) 1
          ∙ laws.neutral (f.inverse a) (laws.inverse_below a)
      go (inr none) =
          let zero_is : a % f.size ≡ 0 = omega (arith, none) in
          let product : f.times a b ≡ 0 = sym (laws.remainder_stands a b) ∙ ap (λ x. f.times x b) zero_is ∙ zero_times b in
          absurd (omega (arith, one, product))

  -- Horner's rule: one coefficient more
  pub value_more : (p : List ℕ) (c x : ℕ) → value_at f (p ++ (c ∷ [])) x ≡ bit_xor (f.times x (value_at f p x)) (f.times 1 c)
  unfolding value_at raised
  value_more [] c x =
      xor_zero_r (f.times c 1) ∙ laws.commutative c 1 ∙ sym (ap (λ y. bit_xor y (f.times 1 c)) (times_zero x) ∙ xor_zero_l (f.times 1 c))
  value_more (d ∷ p) c x =
      let long : length (p ++ (c ∷ [])) ≡ suc (length p) = length-append p (c ∷ []) ∙ omega arith in
      let first : ℕ = f.times d (raised f.times x (length p)) in
      ap₂ bit_xor (ap (λ n. f.times d (raised f.times x n)) long ∙ times_left d x (raised f.times x (length p))) (value_more p c x)
      ∙ sym (xor_assoc (f.times x first) (f.times x (value_at f p x)) (f.times 1 c))
      ∙ ap (λ y. bit_xor y (f.times 1 c)) (sym (laws.distributive x first (value_at f p x)))

  -- the sum so far stands for the value so far
  pub horner_step : (p : List ℕ) (c x sum : ℕ) → f.times 1 sum ≡ value_at f p x
      → f.times 1 (bit_xor (f.times x sum) c) ≡ value_at f (p ++ (c ∷ [])) x
  horner_step p c x sum so_far =
      laws.distributive 1 (f.times x sum) c
      ∙ ap (λ y. bit_xor y (f.times 1 c)) (times_left 1 x sum ∙ ap (f.times x) so_far)
      ∙ sym (value_more p c x)
