-- Numbers and their bits. Assumes nothing.
use Rattle.std.proofs.Common.{◌≡◌, ℕ, zero, suc, ◌+◌, ◌*◌, ◌/◌, ◌%◌, ◌^◌, ◌<◌, Bool, true, false, cond, eqb, List, [], ◌∷◌, ◌++◌, length, take, drop, sym, refl, ap, ◌∙◌, ap₂, append_assoc, lt_of_lt_of_le, mod-lt, mul_comm, suc-add, pow-suc, div-add-mod', zero-add, div-one, arith, length-append, length-drop, take-append-drop, length-take, length-take-le, take_at, drop_at, pow_pos, pow_mono}
use native.Mathlib.Nat.{div-div-eq-div-mul}
use lib.Arith.{lt-one, digits_div, digits_mod, mod-mul}
use lib.Bits.{bit_xor, xor_shr, xor_mod, block_half, block_odd}
use lib.Seq.{take-append-le, drop-append-le}
use Rattle.std.proofs.lemmas.List.{nil_from_length}
use Rattle.scrambler.specs.Bits.{◌⊕◌, bits_of, number_of, message_bits, octets_of, Octets}

-- ---- bits of numbers

pub length-bits : (k n : ℕ) → length (bits_of k n) ≡ k
unfolding bits_of
length-bits zero n = refl
length-bits (suc k) n = ap suc (length-bits k (n / 2))

-- a bit as a number
bit_of : (n : ℕ) → n % 2 ≡ cond (eqb (n % 2) 1) 1 0
bit_of n = go (n % 2) (mod-lt n (omega arith))
  where
    go : (r : ℕ) → r < 2 → r ≡ cond (eqb r 1) 1 0
    go zero h = refl
    go (suc zero) h = refl
    go (suc (suc r)) h = absurd (omega arith)

pub number_of_bits : (k n : ℕ) → n < 2 ^ k → number_of (bits_of k n) ≡ n
unfolding bits_of number_of
number_of_bits zero n h = sym (lt-one h)
number_of_bits (suc k) n h =
    let half : n / 2 < 2 ^ k = omega (arith, pow-suc 2 k, div-add-mod' n 2) in
    ap₂ (λ (x y : ℕ). x * 2 + y) (number_of_bits k (n / 2) half) (sym (bit_of n)) ∙ div-add-mod' n 2

bit_below : (b : Bool) → cond b 1 0 < 2
bit_below true = omega arith
bit_below false = omega arith

bit_back : (b : Bool) → eqb (cond b 1 0) 1 ≡ b
bit_back true = refl
bit_back false = refl

pub bits_of_number : (bs : List Bool) → bits_of (length bs) (number_of bs) ≡ bs
unfolding bits_of number_of
bits_of_number [] = refl
bits_of_number (b ∷ bs) =
    ap₂ {C = List Bool} (λ x y. x ∷ y)
    (ap (λ x. eqb x 1) (digits_mod (number_of bs) (bit_below b)) ∙ bit_back b)
    (ap (bits_of (length bs)) (digits_div (number_of bs) (bit_below b)) ∙ bits_of_number bs)

pub number_below : (bs : List Bool) → number_of bs < 2 ^ length bs
unfolding number_of
number_below [] = omega arith
number_below (b ∷ bs) = let i = number_below bs in omega (arith, pow-suc 2 (length bs), bit_below b)

-- ---- bits of shifts, masks and sums

pub bits_shifted : (k j n : ℕ) → bits_of j (n / 2 ^ k) ≡ drop k (bits_of (k + j) n)
unfolding bits_of
bits_shifted zero j n = ap₂ bits_of (sym (zero-add j)) (div-one n)
bits_shifted (suc k) j n =
    ap (bits_of j) (ap (λ (x : ℕ). n / x) (pow-suc 2 k ∙ mul_comm (2 ^ k) 2) ∙ sym (div-div-eq-div-mul n 2 (2 ^ k)))
    ∙ bits_shifted k j (n / 2) ∙ ap (λ (x : ℕ). drop (suc k) (bits_of x n)) (sym (suc-add k j))

pub bits_low : (k n : ℕ) → bits_of k (n % 2 ^ k) ≡ bits_of k n
unfolding bits_of
bits_low zero n = refl
bits_low (suc k) n =
    let parts : n % 2 ^ suc k ≡ (n / 2 % 2 ^ k) * 2 + n % 2
    = ap (λ (x : ℕ). n % x) (pow-suc 2 k) ∙ mod-mul n (pow_pos k) (omega arith) in
    let bit : n % 2 < 2 = mod-lt n (omega arith) in
    ap₂ {C = List Bool} (λ x y. x ∷ y)
    (ap (λ (x : ℕ). eqb (x % 2) 1) parts ∙ ap (λ x. eqb x 1) (digits_mod (n / 2 % 2 ^ k) bit))
    (ap (λ (x : ℕ). bits_of k (x / 2)) parts ∙ ap (bits_of k) (digits_div (n / 2 % 2 ^ k) bit) ∙ bits_low k (n / 2))

pub bits-joined : (k j a b : ℕ) → b < 2 ^ k → bits_of (k + j) (a * 2 ^ k + b) ≡ bits_of k b ++ bits_of j a
unfolding bits_of
bits-joined zero j a b h = ap₂ bits_of (zero-add j) (omega (arith, h))
bits-joined (suc k) j a b h =
    let half : b / 2 < 2 ^ k = omega (arith, pow-suc 2 k, div-add-mod' b 2) in
    ap (λ (x : ℕ). bits_of x (a * 2 ^ suc k + b)) (suc-add k j)
    ∙ ap₂ {C = List Bool} (λ x y. x ∷ y)
    (ap (λ x. eqb x 1) (block_odd a k b))
    (ap (bits_of (k + j)) (block_half a k b) ∙ bits-joined k j a (b / 2) half)

-- the sums of bits at each place
abbrev pub sums : List Bool → List Bool → List Bool
sums [] ys = []
sums (a ∷ xs) [] = []
sums (a ∷ xs) (b ∷ ys) = (a ⊕ b) ∷ sums xs ys

bit-sum : (x y : ℕ) → x < 2 → y < 2 → eqb (bit_xor x y) 1 ≡ eqb x 1 ⊕ eqb y 1
bit-sum zero zero h k = refl
bit-sum zero (suc zero) h k = refl
bit-sum zero (suc (suc y)) h k = absurd (omega arith)
bit-sum (suc zero) zero h k = refl
bit-sum (suc zero) (suc zero) h k = refl
bit-sum (suc zero) (suc (suc y)) h k = absurd (omega arith)
bit-sum (suc (suc x)) y h k = absurd (omega arith)

pub bits-xor : (k a b : ℕ) → bits_of k (bit_xor a b) ≡ sums (bits_of k a) (bits_of k b)
unfolding bits_of
bits-xor zero a b = refl
bits-xor (suc k) a b =
    ap₂ {C = List Bool} (λ x y. x ∷ y)
    (ap (λ x. eqb x 1) (xor_mod a b 1) ∙ bit-sum (a % 2) (b % 2) (mod-lt a (omega arith)) (mod-lt b (omega arith)))
    (ap (bits_of k) (xor_shr a b 1) ∙ bits-xor k (a / 2) (b / 2))

-- ---- bits of messages

pub length_message_bits : (ms : List ℕ) → length (message_bits ms) ≡ 8 * length ms
unfolding message_bits
length_message_bits [] = refl
length_message_bits (m ∷ ms) =
    length-append (bits_of 8 m) (message_bits ms) ∙ ap₂ (λ (x y : ℕ). x + y) (length-bits 8 m) (length_message_bits ms) ∙ omega arith

pub message_bits-append : (xs ys : List ℕ) → message_bits (xs ++ ys) ≡ message_bits xs ++ message_bits ys
unfolding message_bits
message_bits-append [] ys = refl
message_bits-append (a ∷ xs) ys = ap (λ r. bits_of 8 a ++ r) (message_bits-append xs ys) ∙ sym (append_assoc (bits_of 8 a) (message_bits xs) (message_bits ys))

-- ---- octets from bits

pub length-octets : (n : ℕ) (ys : List Bool) → length (octets_of n ys) ≡ n
unfolding octets_of
length-octets zero ys = refl
length-octets (suc n) ys = ap suc (length-octets n (drop 8 ys))

pub octets_are : (n : ℕ) (ys : List Bool) → Octets (octets_of n ys)
unfolding octets_of
octets_are zero ys = tt
octets_are (suc n) ys = (below, octets_are n (drop 8 ys))
  where
    below : number_of (take 8 ys) < 256
    below = lt_of_lt_of_le (number_below (take 8 ys)) (pow_mono {j = 8} (simp length-take (omega arith)))

pub octets_of_bits : (ms : List ℕ) → Octets ms → octets_of (length ms) (message_bits ms) ≡ ms
unfolding octets_of message_bits
octets_of_bits [] h = refl
octets_of_bits (m ∷ ms) h =
    ap₂ {C = List ℕ} (λ x y. x ∷ y)
    (ap number_of (take_at (bits_of 8 m) (message_bits ms) 8 (length-bits 8 m)) ∙ number_of_bits 8 m h.0)
    (ap (octets_of (length ms)) (drop_at (bits_of 8 m) (message_bits ms) 8 (length-bits 8 m)) ∙ octets_of_bits ms h.1)

pub bits_of_octets : (n : ℕ) (ys : List Bool) → length ys ≡ 8 * n → message_bits (octets_of n ys) ≡ ys
unfolding octets_of message_bits
bits_of_octets zero ys h = sym (nil_from_length ys h)
bits_of_octets (suc n) ys h =
    let eight : length (take 8 ys) ≡ 8 = length-take-le 8 ys (omega arith) in
    ap₂ (λ x y. x ++ y)
    (ap (λ (k : ℕ). bits_of k (number_of (take 8 ys))) (sym eight) ∙ bits_of_number (take 8 ys))
    (bits_of_octets n (drop 8 ys) (simp length-drop (omega arith)))
    ∙ take-append-drop 8 ys

pub octets-append : (n k : ℕ) (xs ys : List Bool) → length xs ≡ 8 * n → octets_of (n + k) (xs ++ ys) ≡ octets_of n xs ++ octets_of k ys
unfolding octets_of
octets-append zero k xs ys h = ap₂ octets_of (zero-add k) (ap (λ r. r ++ ys) (nil_from_length xs h))
octets-append (suc n) k xs ys h =
    ap (λ (x : ℕ). octets_of x (xs ++ ys)) (suc-add n k)
    ∙ ap₂ {C = List ℕ} (λ x y. x ∷ y)
    (ap number_of (take-append-le 8 xs ys (omega arith)))
    (ap (octets_of (n + k)) (drop-append-le 8 xs ys (omega arith)) ∙ octets-append n k (drop 8 xs) ys (simp length-drop (omega arith)))
