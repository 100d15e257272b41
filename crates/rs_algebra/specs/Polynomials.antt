-- Polynomials over a field as lists of coefficients. Assumes nothing.
use Rattle.std.specs.Prelude.{ℕ, zero, suc, ◌-◌, ◌<◌, List, [], ◌∷◌, ◌++◌, length, replicate, bit_xor, slice_index}
use Rattle.field.specs.Field.{Field, power}

-- every number of a list is an element of the field (past its end a list reads 0, which is one)
abbrev pub Elements : Field → List ℕ → Type 0
Elements f xs = (k : ℕ) → slice_index xs k < f.size

abbrev pub zeros : ℕ → List ℕ
zeros n = replicate n 0

-- the sum number by number from the front; of the longer list the rest stays
unfoldable pub plus : List ℕ → List ℕ → List ℕ
plus [] q = q
plus (c ∷ p) [] = c ∷ p
plus (c ∷ p) (d ∷ q) = bit_xor c d ∷ plus p q

unfoldable pub scaled : Field → ℕ → List ℕ → List ℕ
scaled f c [] = []
scaled f c (d ∷ p) = f.times c d ∷ scaled f c p

-- highest power first: (c ∷ p)·q = c·q·D^n + p·q, n the length of p
unfoldable pub product : Field → List ℕ → List ℕ → List ℕ
product f [] q = zeros (length q - 1)
product f (c ∷ p) q = plus (scaled f c q ++ zeros (length p)) (0 ∷ product f p q)

-- the product of D + α^i for i = 0 to R - 1, highest power first
unfoldable pub generator : Field → ℕ → List ℕ
generator f zero = 1 ∷ []
generator f (suc i) = product f (generator f i) (1 ∷ power f i ∷ [])

-- the value at x, lowest power first
unfoldable pub low_at : Field → List ℕ → ℕ → ℕ
low_at f [] x = 0
low_at f (c ∷ l) x = bit_xor c (f.times x (low_at f l x))

-- lowest power first: the product by x + a
unfoldable pub times_root : Field → ℕ → List ℕ → List ℕ
times_root f a l = plus (scaled f a l) (0 ∷ l)

-- the sum of l_m·S(j + m) over the coefficients l_m, the first of them l_0
unfoldable pub weighed : Field → List ℕ → (ℕ → ℕ) → ℕ → ℕ
weighed f [] S j = 0
weighed f (c ∷ l) S j = bit_xor (f.times c (S j)) (weighed f l S (suc j))
