-- The reduced product of polynomials over two elements: linear on both sides, commutative, associative. Assumes nothing.
use Rattle.std.specs.Prelude.{◌≡◌, ℕ, zero, suc, ◌-◌, ◌*◌, ◌/◌, ◌%◌, ◌^◌, ◌<◌, ◌≤◌, bit_xor, refl}
use Rattle.std.proofs.Common.{sym, ◌∙◌}
use Rattle.std.proofs.Math.Path.{ap, ap₂}
use native.Mathlib.Omega.{arith}
use Rattle.std.proofs.Math.Nat.{mod-eq_of_lt, div-eq_of_lt, div-add-mod', pow-suc}
use Rattle.std.specs.Int.Bits.{xor_lt, xor_zero_r, xor_shifted, xor_comm}
use Rattle.std.proofs.Math.Pow.{pow_pos, pow_mono}
use Rattle.std.proofs.lemmas.Nat.{mod_below, div_below, xor_mod}
use Rattle.field.specs.Binary.{doubled, times_bits, reduced_times}
use Rattle.field.specs.Sums.{Linear, linear_zero, linear_sum, linear_after, halved, moved_up, remainder, quotient, bit_times}

pub none : (a : ℕ) → 0 * a ≡ 0
none a = omega arith

pub once : (a : ℕ) → 1 * a ≡ a
once a = omega arith

-- a bit times a number commutes with every linear map
bit_scales : (φ : ℕ → ℕ) → Linear φ → (p a : ℕ) → p < 2 → φ (p * a) ≡ p * φ a
bit_scales φ linear zero a h = ap φ (none a) ∙ linear_zero φ linear ∙ sym (none (φ a))
bit_scales φ linear (suc zero) a h = ap φ (once a) ∙ sym (once (φ a))
bit_scales φ linear (suc (suc p)) a h = absurd (omega arith)

scale_linear : (p : ℕ) → p < 2 → Linear (λ a. p * a)
scale_linear zero h a b = none (bit_xor a b) ∙ sym (ap₂ bit_xor (none a) (none b))
scale_linear (suc zero) h a b = once (bit_xor a b) ∙ sym (ap₂ bit_xor (once a) (once b))
scale_linear (suc (suc p)) h a b = absurd (omega arith)

scale_below : (p a n : ℕ) → p < 2 → a < n → p * a < n
scale_below zero a n h below = omega arith
scale_below (suc zero) a n h below = omega arith
scale_below (suc (suc p)) a n h below = absurd (omega arith)

bit : (a : ℕ) → a % 2 < 2
bit a = omega arith

pub doubled_linear : (k r : ℕ) → Linear (doubled k r)
unfolding doubled
doubled_linear k r =
    linear_sum (λ a. 2 * a % 2 ^ k) (λ a. a / 2 ^ (k - 1) % 2 * r)
    (linear_after (λ a. a % 2 ^ k) (λ a. 2 * a) (remainder k) moved_up)
    (linear_after (λ a. a % 2 * r) (λ a. a / 2 ^ (k - 1)) (bit_times r) (quotient (k - 1)))

pub left_linear : (k r n b : ℕ) → Linear (λ a. times_bits k r n a b)
unfolding times_bits
left_linear k r zero b x y = refl
left_linear k r (suc n) b x y =
    linear_sum (λ a. b % 2 * a) (λ a. doubled k r (times_bits k r n a (b / 2)))
    (scale_linear (b % 2) (bit b))
    (linear_after (doubled k r) (λ a. times_bits k r n a (b / 2)) (doubled_linear k r) (left_linear k r n (b / 2))) x y

pub right_linear : (k r n a : ℕ) → Linear (times_bits k r n a)
unfolding times_bits
right_linear k r zero a x y = refl
right_linear k r (suc n) a x y =
    linear_sum (λ b. b % 2 * a) (λ b. doubled k r (times_bits k r n a (b / 2)))
    (bit_times a)
    (linear_after (doubled k r) (λ b. times_bits k r n a (b / 2)) (doubled_linear k r)
    (linear_after (times_bits k r n a) (λ b. b / 2) (right_linear k r n a) halved)) x y

-- a linear map that commutes with doubling commutes with every product
pub carried : (k r : ℕ) (φ : ℕ → ℕ) → Linear φ → ((a : ℕ) → φ (doubled k r a) ≡ doubled k r (φ a))
    → (n a b : ℕ) → φ (times_bits k r n a b) ≡ times_bits k r n (φ a) b
unfolding times_bits
carried k r φ linear commutes zero a b = linear_zero φ linear
carried k r φ linear commutes (suc n) a b =
    linear (b % 2 * a) (doubled k r (times_bits k r n a (b / 2)))
    ∙ ap₂ bit_xor (bit_scales φ linear (b % 2) a (bit b))
    (commutes (times_bits k r n a (b / 2)) ∙ ap (doubled k r) (carried k r φ linear commutes n a (b / 2)))

-- such as doubling itself, and so every product
pub doubled-product : (k r n a b : ℕ) → times_bits k r n (doubled k r a) b ≡ doubled k r (times_bits k r n a b)
doubled-product k r n a b = sym (carried k r (doubled k r) (doubled_linear k r) (λ x. refl) n a b)

-- from the lowest bit on
pub bits-step : (k r n a b : ℕ) → times_bits k r (suc n) a b ≡ bit_xor (b % 2 * a) (times_bits k r n (doubled k r a) (b / 2))
unfolding times_bits
bits-step k r n a b = ap (bit_xor (b % 2 * a)) (sym (doubled-product k r n a (b / 2)))

pub swapped : (k r n m a b c : ℕ) → times_bits k r m (times_bits k r n a b) c ≡ times_bits k r n (times_bits k r m a c) b
swapped k r n m a b c =
    carried k r (λ x. times_bits k r m x c) (left_linear k r m c) (λ x. doubled-product k r m x c) n a b

module _ {k r : ℕ} (some : 1 ≤ k) (fits : r < 2 ^ k) where
  doubled_below : (a : ℕ) → doubled k r a < 2 ^ k
  unfolding doubled
  doubled_below a =
      xor_lt k (2 * a % 2 ^ k) (a / 2 ^ (k - 1) % 2 * r) (mod_below (2 * a) (2 ^ k) (pow_pos k))
      (scale_below (a / 2 ^ (k - 1) % 2) r (2 ^ k) (bit (a / 2 ^ (k - 1))) fits)

  pub bits_below : (n a b : ℕ) → a < 2 ^ k → times_bits k r n a b < 2 ^ k
  unfolding times_bits
  bits_below zero a b h = pow_pos k
  bits_below (suc n) a b h =
      xor_lt k (b % 2 * a) (doubled k r (times_bits k r n a (b / 2))) (scale_below (b % 2) a (2 ^ k) (bit b) h) (doubled_below (times_bits k r n a (b / 2)))

  -- a number whose highest bit is 0 doubles without reduction
  pub doubled_low : (a : ℕ) → a < 2 ^ (k - 1) → doubled k r a ≡ 2 * a
  unfolding doubled
  doubled_low a low =
      let whole : 2 ^ k ≡ 2 ^ (k - 1) * 2 = ap (λ (x : ℕ). 2 ^ x) (omega (arith, some)) ∙ pow-suc 2 (k - 1) in
      let top : a / 2 ^ (k - 1) % 2 * r ≡ 0 = ap (λ (x : ℕ). x % 2 * r) (div-eq_of_lt low) ∙ omega arith in
      ap₂ bit_xor (mod-eq_of_lt (omega (arith, whole, low))) top ∙ xor_zero_r (2 * a)

  pub one_times_bits : (n a : ℕ) → n ≤ k → a < 2 ^ n → times_bits k r n 1 a ≡ a
  unfolding times_bits
  one_times_bits zero a h below = omega (arith, below)
  one_times_bits (suc n) a h below =
      let half : a / 2 < 2 ^ n = div_below a 2 (2 ^ n) (omega arith) (omega (arith, below, pow-suc 2 n)) in
      let low : 2 ^ n ≤ 2 ^ (k - 1) = pow_mono (omega (arith, h)) in
      let rest : times_bits k r n 1 (a / 2) ≡ a / 2 = one_times_bits n (a / 2) (omega (arith, h)) half in
      let first : a % 2 * 1 ≡ a % 2 = omega arith in
      let moved : doubled k r (a / 2) ≡ a / 2 * 2 ^ 1 = doubled_low (a / 2) (omega (arith, half, low)) ∙ omega arith in
      ap₂ bit_xor first (ap (doubled k r) rest ∙ moved) ∙ xor_comm (a % 2) (a / 2 * 2 ^ 1)
      ∙ xor_shifted (a / 2) 1 (a % 2) (bit a) ∙ div-add-mod' a 2

  -- the laws of the product of elements
  swap : (a b : ℕ) → a < 2 ^ k → b < 2 ^ k → times_bits k r k a b ≡ times_bits k r k b a
  swap a b ha hb =
      ap (λ x. times_bits k r k x b) (sym (one_times_bits k a (omega arith) ha)) ∙ swapped k r k k 1 a b
      ∙ ap (λ x. times_bits k r k x a) (one_times_bits k b (omega arith) hb)

  element : (a : ℕ) → a % 2 ^ k < 2 ^ k
  element a = mod_below a (2 ^ k) (pow_pos k)

  same : (a : ℕ) → a % 2 ^ k % 2 ^ k ≡ a % 2 ^ k
  same a = mod-eq_of_lt (element a)

  pub times_below : (a b : ℕ) → reduced_times k r a b < 2 ^ k
  unfolding reduced_times
  times_below a b = bits_below k (a % 2 ^ k) (b % 2 ^ k) (element a)

  pub remainder_stands : (a b : ℕ) → reduced_times k r (a % 2 ^ k) b ≡ reduced_times k r a b
  unfolding reduced_times
  remainder_stands a b = ap (λ x. times_bits k r k x (b % 2 ^ k)) (same a)

  pub commutative : (a b : ℕ) → reduced_times k r a b ≡ reduced_times k r b a
  unfolding reduced_times
  commutative a b = swap (a % 2 ^ k) (b % 2 ^ k) (element a) (element b)

  -- of three factors the second and the third change places
  last_two : (a b c : ℕ) → reduced_times k r (reduced_times k r a b) c ≡ reduced_times k r (reduced_times k r a c) b
  unfolding reduced_times
  last_two a b c =
      ap (λ x. times_bits k r k x (c % 2 ^ k)) (mod-eq_of_lt (times_below a b)) ∙ swapped k r k k (a % 2 ^ k) (b % 2 ^ k) (c % 2 ^ k)
      ∙ ap (λ x. times_bits k r k x (b % 2 ^ k)) (sym (mod-eq_of_lt (times_below a c)))

  pub associative : (a b c : ℕ) → reduced_times k r (reduced_times k r a b) c ≡ reduced_times k r a (reduced_times k r b c)
  associative a b c =
      ap (λ x. reduced_times k r x c) (commutative a b) ∙ last_two b a c ∙ commutative (reduced_times k r b c) a

  pub distributive : (a b c : ℕ) → reduced_times k r a (bit_xor b c) ≡ bit_xor (reduced_times k r a b) (reduced_times k r a c)
  unfolding reduced_times
  distributive a b c =
      ap (times_bits k r k (a % 2 ^ k)) (xor_mod b c k) ∙ right_linear k r k (a % 2 ^ k) (b % 2 ^ k) (c % 2 ^ k)

  pub neutral : (a : ℕ) → a < 2 ^ k → reduced_times k r 1 a ≡ a
  unfolding reduced_times
  neutral a below =
      let more : 2 ^ 1 ≤ 2 ^ k = pow_mono some in
      let one : 1 % 2 ^ k ≡ 1 = mod-eq_of_lt (omega (arith, more)) in
      ap₂ (times_bits k r k) one (mod-eq_of_lt below) ∙ one_times_bits k a (omega arith) below
