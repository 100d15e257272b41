-- Arithmetic of a setting's numbers. Assumes nothing.
use Rattle.std.proofs.Common.{◌≡◌, ℕ, ◌-◌, ◌*◌, ◌/◌, ◌%◌, ◌<◌, ◌≤◌, ◌⊎◌, inl, inr, mod-eq_of_lt, mul-le-mul, div-add-mod', arith}
use Rattle.std.proofs.lemmas.Bool.{cases_lt}

-- what divides a number is not larger
pub divisor_le : (b n : ℕ) → n % b ≡ 0 → 0 < n → b ≤ n
divisor_le b n e some = go (cases_lt n b)
  where
    go : (n < b) ⊎ (b ≤ n) → b ≤ n
    go (inl less) = absurd (omega (arith, mod-eq_of_lt less))
    go (inr h) = h

pub exactly : (b n : ℕ) → n % b ≡ 0 → n / b * b ≡ n
exactly b n e = omega (arith, div-add-mod' n b)

pub spread_below : (I M : ℕ) → I ≤ 255 → M ≤ 255 → M * I * (I - 1) ≤ 255 * 255 * 254
spread_below I M i m = let less : I - 1 ≤ 254 = omega arith in mul-le-mul (mul-le-mul m i) less
