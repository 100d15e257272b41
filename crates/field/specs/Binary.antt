-- The field of polynomials over two elements, reduced by x^k + r. Bit i of a number is the coefficient of x^i. Assumes nothing.
use Rattle.std.specs.Prelude.{ℕ, zero, suc, ◌-◌, ◌*◌, ◌/◌, ◌%◌, ◌^◌, bit_xor}
use Rattle.field.specs.Field.{Field, raised}

-- x times a: one bit up, and r in the place of x^k
unfoldable pub doubled : (k r a : ℕ) → ℕ
doubled k r a = bit_xor (2 * a % 2 ^ k) (a / 2 ^ (k - 1) % 2 * r)

-- a times the lowest n bits of b, by Horner's rule
unfoldable pub times_bits : (k r n a b : ℕ) → ℕ
times_bits k r zero a b = 0
times_bits k r (suc n) a b = bit_xor (b % 2 * a) (doubled k r (times_bits k r n a (b / 2)))

unfoldable pub reduced_times : (k r a b : ℕ) → ℕ
reduced_times k r a b = times_bits k r k (a % 2 ^ k) (b % 2 ^ k)

-- the inverse of a is its power n-2
unfoldable pub reduced_inverse : (k r a : ℕ) → ℕ
reduced_inverse k r a = raised (reduced_times k r) a (2 ^ k - 2)

abbrev pub binary : (k r alpha : ℕ) → Field
binary k r alpha = record { size = 2 ^ k; times = reduced_times k r; inverse = reduced_inverse k r; alpha = alpha }

-- octets, reduced by x^8 + x^4 + x^3 + x^2 + 1, with alpha = 02
abbrev pub octets : Field
octets = binary 8 29 2
