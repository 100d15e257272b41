-- Powers in a commutative product with 1. Assumes nothing.
use Rattle.std.specs.Prelude.{◌≡◌, ℕ, zero, suc, ◌+◌, ◌*◌, ◌<◌}
use Rattle.std.proofs.Math.Path.{refl, sym, ap}
use Rattle.std.proofs.Common.{◌∙◌, suc-mul, zero-mul, mul_comm, add_comm, zero-add, suc-add}
use Rattle.field.specs.Field.{raised}

-- c times x to the power k, for any c
unfoldable pub times_power : (ℕ → ℕ → ℕ) → (c x k : ℕ) → ℕ
times_power times c x zero = c
times_power times c x (suc k) = times x (times_power times c x k)

pub once : (times : ℕ → ℕ → ℕ) (x k : ℕ) → times_power times 1 x k ≡ raised times x k
unfolding times_power raised
once times x zero = refl
once times x (suc k) = ap (times x) (once times x k)

-- one factor more at the front is one more at the back
pub one_first : (times : ℕ → ℕ → ℕ) (c x k : ℕ) → times_power times (times x c) x k ≡ times_power times c x (suc k)
unfolding times_power
one_first times c x zero = refl
one_first times c x (suc k) = ap (times x) (one_first times c x k)

-- a product of the numbers below n that can be raised to powers
pub record Product (n : ℕ) (times : ℕ → ℕ → ℕ) : Type 0 where
  pub some : 1 < n
  pub below : (a b : ℕ) → times a b < n
  pub associative : (a b c : ℕ) → times (times a b) c ≡ times a (times b c)
  pub neutral : (a : ℕ) → a < n → times 1 a ≡ a

module _ {n : ℕ} {times : ℕ → ℕ → ℕ} (p : Product n times) where
  pub power_below : (x k : ℕ) → raised times x k < n
  unfolding raised
  power_below x zero = p.some
  power_below x (suc k) = p.below x (raised times x k)

  pub power_add : (x j k : ℕ) → times (raised times x j) (raised times x k) ≡ raised times x (j + k)
  unfolding raised
  power_add x zero k = p.neutral (raised times x k) (power_below x k) ∙ ap (raised times x) (sym (zero-add k))
  power_add x (suc j) k =
      p.associative x (raised times x j) (raised times x k) ∙ ap (times x) (power_add x j k) ∙ ap (raised times x) (sym (suc-add j k))

  pub power-power : (x j k : ℕ) → raised times (raised times x j) k ≡ raised times x (k * j)
  unfolding raised
  power-power x j zero = ap (raised times x) (sym (zero-mul j))
  power-power x j (suc k) =
      ap (times (raised times x j)) (power-power x j k) ∙ power_add x j (k * j)
      ∙ ap (raised times x) (add_comm j (k * j) ∙ sym (suc-mul k j))

  ones : (k : ℕ) → raised times 1 k ≡ 1
  unfolding raised
  ones zero = refl
  ones (suc k) = ap (times 1) (ones k) ∙ p.neutral 1 p.some

  -- where x^m is 1 every power of x has its m-th power 1
  pub power_of_order : (x m j : ℕ) → raised times x m ≡ 1 → raised times (raised times x j) m ≡ 1
  power_of_order x m j order =
      power-power x j m ∙ ap (raised times x) (mul_comm m j) ∙ sym (power-power x m j)
      ∙ ap (λ y. raised times y j) order ∙ ones j
