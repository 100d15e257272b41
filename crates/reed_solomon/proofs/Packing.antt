-- Octets packed into one number. Assumes nothing.
use Rattle.std.proofs.Common.{◌≡◌, ℕ, zero, suc, ◌+◌, ◌*◌, ◌/◌, ◌%◌, ◌^◌, ◌<◌, ◌≤◌, List, [], ◌∷◌, ◌++◌, length, get_or, take, drop, sym, refl, ap, ◌∙◌, ap₂, mul_comm, mul_left_comm, arith}
use Rattle.std.proofs.Math.Nat.{mul-add-div_right, pow-suc}
use Rattle.std.specs.Int.{byte_at, bytes_high_first}
use native.Mathlib.Nat.{zero-div, zero-mod}
use lib.Bits.{bit_xor, xor_block, xor_zero_l, xor_zero_r}
use Rattle.std.proofs.lemmas.Nat.{pow_pos, pow-add, mul-add-lt, shr_high, mod_low}
use Rattle.coder.specs.Codes.{Octets}
use Rattle.rs_algebra.specs.Polynomials.{plus, zeros}
use Rattle.reed_solomon.specs.Rows.{packed}

tail : (x : ℕ) (xs : List ℕ) → Octets (x ∷ xs) → Octets xs
tail x xs o k = o (suc k)

-- one octet more
next_power : (n : ℕ) → 2 ^ (8 * suc n) ≡ 256 * 2 ^ (8 * n)
next_power n = let e : 8 * suc n ≡ 8 + 8 * n = omega arith in ap (λ k. 2 ^ k) e ∙ pow-add 2 8 (8 * n)

times_next : (x n : ℕ) → x * 2 ^ (8 * suc n) ≡ 256 * (x * 2 ^ (8 * n))
times_next x n = ap (λ p. x * p) (next_power n) ∙ mul_left_comm x 256 (2 ^ (8 * n))

pub packed_below : (n : ℕ) (xs : List ℕ) → Octets xs → packed n xs < 2 ^ (8 * n)
unfolding packed
packed_below zero xs o = omega arith
packed_below (suc n) [] o = pow_pos (8 * suc n)
packed_below (suc n) (x ∷ xs) o =
    omega (arith, next_power n, mul-add-lt x (2 ^ (8 * n)) (packed n xs) 256 (o 0) (packed_below n xs (tail x xs o)))

-- the sum of two packed lists is their packed sum
pub packed-plus : (n : ℕ) (xs ys : List ℕ) → Octets xs → Octets ys → bit_xor (packed n xs) (packed n ys) ≡ packed n (plus xs ys)
unfolding packed plus
packed-plus zero xs ys ox oy = refl
packed-plus (suc n) [] ys ox oy = xor_zero_l (packed (suc n) ys)
packed-plus (suc n) (x ∷ xs) [] ox oy = xor_zero_r (packed (suc n) (x ∷ xs))
packed-plus (suc n) (x ∷ xs) (y ∷ ys) ox oy =
    xor_block (8 * n) x y (packed n xs) (packed n ys) (packed_below n xs (tail x xs ox)) (packed_below n ys (tail y ys oy))
    ∙ ap (λ r. bit_xor x y * 2 ^ (8 * n) + r) (packed-plus n xs ys (tail x xs ox) (tail y ys oy))

-- the highest octet is the first
pub packed_top : (n : ℕ) (xs : List ℕ) → Octets xs → packed (suc n) xs / 2 ^ (8 * n) ≡ get_or xs 0 0
unfolding packed
packed_top n [] o = zero-div (2 ^ (8 * n))
packed_top n (x ∷ xs) o = shr_high x (8 * n) (packed n xs) (packed_below n xs (tail x xs o))

-- a zero behind the last octet makes no difference
pub packed_zero : (n : ℕ) (xs : List ℕ) → packed n (xs ++ 0 ∷ []) ≡ packed n xs
unfolding packed
packed_zero zero xs = refl
packed_zero (suc zero) [] = refl
packed_zero (suc (suc n)) [] = omega arith
packed_zero (suc n) (x ∷ xs) = ap (λ r. x * 2 ^ (8 * n) + r) (packed_zero n xs)

pub packed-zeros : (n k : ℕ) → packed n (zeros k) ≡ 0
unfolding packed
packed-zeros zero k = refl
packed-zeros (suc n) zero = refl
packed-zeros (suc n) (suc k) = omega (arith, packed-zeros n k)

-- a number of one octet more, where the list leaves it 0
packed_wider : (n : ℕ) (xs : List ℕ) → length xs ≤ n → packed n xs * 256 ≡ packed (suc n) xs
unfolding packed
packed_wider zero [] h = refl
packed_wider zero (x ∷ xs) h = absurd (omega arith)
packed_wider (suc n) [] h = refl
packed_wider (suc n) (x ∷ xs) h = omega (arith, times_next x n, packed_wider n xs (omega arith))

-- the octets move up one place, and the first moves out
pub packed_up : (n : ℕ) (xs : List ℕ) → Octets xs → length xs ≤ suc n
    → packed (suc n) xs * 256 % 2 ^ (8 * suc n) ≡ packed (suc n) (drop 1 xs)
unfolding packed
packed_up n [] o h = zero-mod (2 ^ (8 * suc n))
packed_up n (x ∷ xs) o h =
    let split : (x * 2 ^ (8 * n) + packed n xs) * 256 ≡ x * 2 ^ (8 * suc n) + packed n xs * 256 = omega (arith, times_next x n) in
    ap (λ a. a % 2 ^ (8 * suc n)) split
    ∙ mod_low x (8 * suc n) (packed n xs * 256) (omega (arith, next_power n, packed_below n xs (tail x xs o)))
    ∙ packed_wider n xs (omega arith)

-- the octets move down one place, and the last moves out
pub packed_down : (n : ℕ) (xs : List ℕ) → Octets xs → packed (suc n) xs / 256 ≡ packed n xs
unfolding packed
packed_down zero [] o = refl
packed_down zero (x ∷ xs) o = omega (arith, o 0)
packed_down (suc n) [] o = refl
packed_down (suc n) (x ∷ xs) o = omega (arith, times_next x n, packed_down n xs (tail x xs o))

-- the bytes of a number: byte k is worth 2^(8k)
byte_worth : (k : ℕ) → 256 ^ k ≡ 2 ^ (8 * k)
byte_worth zero = refl
byte_worth (suc k) = pow-suc 256 k ∙ ap (λ p. p * 256) (byte_worth k) ∙ mul_comm (2 ^ (8 * k)) 256 ∙ sym (next_power k)

byte_of : (k n : ℕ) → byte_at k n ≡ n / 2 ^ (8 * k) % 256
byte_of zero n = omega arith
byte_of (suc k) n = ap (λ p. n / p % 256) (byte_worth (suc k))

-- what is above the lowest bytes makes no difference to them
lower_byte : (k high low : ℕ) → byte_at k (high * 2 ^ (8 * suc k) + low) ≡ byte_at k low
lower_byte k high low =
    let split : high * 2 ^ (8 * suc k) + low ≡ high * 256 * 2 ^ (8 * k) + low = omega (arith, times_next high k) in
    byte_of k (high * 2 ^ (8 * suc k) + low)
    ∙ ap (λ n. n / 2 ^ (8 * k) % 256) split
    ∙ ap (λ n. n % 256) (mul-add-div_right {m = 2 ^ (8 * k)} (pow_pos (8 * k)) (high * 256) low)
    ∙ omega arith
    ∙ sym (byte_of k low)

lower_bytes : (k high low : ℕ) → bytes_high_first k (high * 2 ^ (8 * k) + low) ≡ bytes_high_first k low
lower_bytes zero high low = refl
lower_bytes (suc k) high low =
    let split : high * 2 ^ (8 * suc k) + low ≡ high * 256 * 2 ^ (8 * k) + low = omega (arith, times_next high k) in
    ap₂ {C = List ℕ} (λ x xs. x ∷ xs) (lower_byte k high low) (ap (bytes_high_first k) split ∙ lower_bytes k (high * 256) low)

-- the bytes of a packed list, from the highest down, are its octets
pub packed_bytes : (n : ℕ) (xs : List ℕ) → Octets xs → length xs ≤ n → take (length xs) (bytes_high_first n (packed n xs)) ≡ xs
unfolding packed
packed_bytes n [] o h = refl
packed_bytes zero (x ∷ xs) o h = absurd (omega arith)
packed_bytes (suc n) (x ∷ xs) o h =
    let first : byte_at n (x * 2 ^ (8 * n) + packed n xs) ≡ x =
    byte_of n (x * 2 ^ (8 * n) + packed n xs)
    ∙ ap (λ y. y % 256) (shr_high x (8 * n) (packed n xs) (packed_below n xs (tail x xs o)))
    ∙ omega (arith, o 0) in
    ap₂ {C = List ℕ} (λ y ys. y ∷ ys) first
    (ap (take (length xs)) (lower_bytes n x (packed n xs)) ∙ packed_bytes n xs (tail x xs o) (omega arith))
