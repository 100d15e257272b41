-- Octets packed into one number, and a table of packed products. Assumes nothing.
use Rattle.std.specs.Prelude.{◌≡◌, ℕ, zero, suc, ◌+◌, ◌*◌, ◌/◌, ◌%◌, ◌^◌, ◌<◌, List, [], ◌∷◌, drop, slice_index, bit_xor}
use Rattle.field.specs.Binary.{octets}
use Rattle.rs_algebra.specs.Polynomials.{scaled, generator}

-- the number whose n octets, from the highest down, are those of the list, and 0 past its end
unfoldable pub packed : ℕ → List ℕ → ℕ
packed zero xs = 0
packed (suc n) [] = 0
packed (suc n) (x ∷ xs) = x * 2 ^ (8 * n) + packed n xs

-- row f holds the products of f and the R coefficients below the first of the generator polynomial of R roots
abbrev pub RowsOf : (R : ℕ) (rows : List ℕ) → Type 0
RowsOf R rows = (f : ℕ) → f < 256 → slice_index rows f ≡ packed 16 (scaled octets f (drop 1 (generator octets R)))

-- a register that is one number after an octet more of the message: it moves up one place, and the row of the octet fed back is added
abbrev pub fed_back : (rows : List ℕ) (register octet : ℕ) → ℕ
fed_back rows register octet = bit_xor (register * 2 ^ 8 % 2 ^ 128) (slice_index rows (bit_xor (register / 2 ^ 120) octet))
