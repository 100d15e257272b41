-- Polynomials over a field, as lists of coefficients from the highest power on. Assumes nothing.
use Rattle.std.specs.Prelude.{ℕ, List, [], ◌∷◌, length, bit_xor}
use Rattle.field.specs.Field.{Field, raised}

-- the value at x: the sum of each coefficient times its power of x
unfoldable pub value_at : Field → List ℕ → ℕ → ℕ
value_at f [] x = 0
value_at f (c ∷ p) x = bit_xor (f.times c (raised f.times x (length p))) (value_at f p x)
