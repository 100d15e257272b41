-- Exclusive-or as a sum, and maps that respect it. Assumes nothing.
use Rattle.std.specs.Prelude.{◌≡◌, ℕ, zero, suc, ◌+◌, ◌*◌, ◌/◌, ◌%◌, ◌^◌, ◌<◌, bit_xor}
use Rattle.std.proofs.Common.{sym, ap, ap₂, ◌∙◌, arith}
use Rattle.std.specs.Int.Bits.{xor_assoc, xor_self, xor_zero_l, xor_zero_r}
use Rattle.std.proofs.lemmas.Nat.{xor_comm, xor_mod, xor_shr, xor_block}

pub xor-left : (a b c : ℕ) → bit_xor a (bit_xor b c) ≡ bit_xor b (bit_xor a c)
xor-left a b c = sym (xor_assoc a b c) ∙ ap (λ (x : ℕ). bit_xor x c) (xor_comm a b) ∙ xor_assoc b a c

pub xor_four : (a b c d : ℕ) → bit_xor (bit_xor a b) (bit_xor c d) ≡ bit_xor (bit_xor a c) (bit_xor b d)
xor_four a b c d = xor_assoc a b (bit_xor c d) ∙ ap (bit_xor a) (xor-left b c d) ∙ sym (xor_assoc a c (bit_xor b d))

-- what is added twice is gone
pub xor_again : (a b : ℕ) → bit_xor a (bit_xor a b) ≡ b
xor_again a b = sym (xor_assoc a a b) ∙ ap (λ (x : ℕ). bit_xor x b) (xor_self a) ∙ xor_zero_l b

pub xor_same : (a b : ℕ) → bit_xor a b ≡ 0 → a ≡ b
xor_same a b none = sym (xor_zero_r a) ∙ ap (bit_xor a) (sym none) ∙ xor_again a b

pub xor_none : (a b : ℕ) → a ≡ b → bit_xor a b ≡ 0
xor_none a b same = ap (bit_xor a) (sym same) ∙ xor_self a

abbrev pub Linear : (ℕ → ℕ) → Type 0
Linear φ = (a b : ℕ) → φ (bit_xor a b) ≡ bit_xor (φ a) (φ b)

pub linear_zero : (φ : ℕ → ℕ) → Linear φ → φ 0 ≡ 0
linear_zero φ linear = sym (xor_again (φ 0) (φ 0)) ∙ ap (bit_xor (φ 0)) (sym (linear 0 0)) ∙ xor_self (φ 0)

pub linear_sum : (φ ψ : ℕ → ℕ) → Linear φ → Linear ψ → Linear (λ a. bit_xor (φ a) (ψ a))
linear_sum φ ψ lφ lψ a b = ap₂ bit_xor (lφ a b) (lψ a b) ∙ xor_four (φ a) (φ b) (ψ a) (ψ b)

pub linear_after : (φ ψ : ℕ → ℕ) → Linear φ → Linear ψ → Linear (λ a. φ (ψ a))
linear_after φ ψ lφ lψ a b = ap φ (lψ a b) ∙ lφ (ψ a) (ψ b)

-- the maps that a reduced product is made of
pub halved : Linear (λ a. a / 2)
halved a b = xor_shr a b 1

pub moved_up : Linear (λ a. 2 * a)
moved_up a b =
    let block = xor_block 1 a b 0 0 (omega arith) (omega arith) in
    omega (arith, ap₂ bit_xor (up a) (up b) ∙ block, xor_self 0)
  where
    up : (x : ℕ) → 2 * x ≡ x * 2 ^ 1 + 0
    up x = omega arith

pub remainder : (k : ℕ) → Linear (λ a. a % 2 ^ k)
remainder k a b = xor_mod a b k

pub quotient : (k : ℕ) → Linear (λ a. a / 2 ^ k)
quotient k a b = xor_shr a b k

-- a bit times a number: the number or nothing
pub bit_times : (r : ℕ) → Linear (λ a. a % 2 * r)
bit_times r a b = ap (λ (x : ℕ). x * r) (xor_mod a b 1) ∙ go (a % 2) (b % 2) (omega arith) (omega arith)
  where
    none : 0 * r ≡ 0
    none = omega arith

    go : (p q : ℕ) → p < 2 → q < 2 → bit_xor p q * r ≡ bit_xor (p * r) (q * r)
    go zero q hp hq = ap (λ (x : ℕ). x * r) (xor_zero_l q) ∙ sym (ap (λ (x : ℕ). bit_xor x (q * r)) none ∙ xor_zero_l (q * r))
    go (suc p) zero hp hq = ap (λ (x : ℕ). x * r) (xor_zero_r (suc p)) ∙ sym (ap (bit_xor (suc p * r)) none ∙ xor_zero_r (suc p * r))
    go (suc zero) (suc zero) hp hq = none ∙ sym (xor_self (1 * r))
    go (suc zero) (suc (suc q)) hp hq = absurd (omega arith)
    go (suc (suc p)) (suc q) hp hq = absurd (omega arith)
