-- Reed-Solomon words: a message and its check octets, and errors in them. Assumes nothing.
use Rattle.std.specs.Prelude.{◌≡◌, ℕ, zero, suc, ◌+◌, ◌-◌, ◌<◌, ◌≤◌, Bool, cond, List, [], ◌∷◌, ◌++◌, length, take, drop, ◌==◌, bit_xor, slice_index, slice_set}
use Rattle.field.specs.Field.{Field, power, raised}
use Rattle.rs_algebra.specs.Polynomials.{Elements, zeros, plus, scaled, product, generator, low_at, weighed}
use Rattle.field.specs.Polynomials.{value_at}

-- The check octets are the remainder of M(D)·D^R by the generator polynomial of R roots.
pub record Remainder (f : Field) (R : ℕ) (message check : List ℕ) : Type 0 where
  pub long : length check ≡ R
  pub elements : Elements f check
  pub quotient : List ℕ
  pub quotient_long : length quotient ≡ length message
  pub divides : message ++ zeros R ≡ plus (product f quotient (generator f R)) (zeros (length message) ++ check)

-- Long division by g, whose first coefficient is 1: k times the first coefficient c is taken off, and c times the rest of g
-- is added to the front of what remains.
unfoldable pub remainder : Field → List ℕ → ℕ → List ℕ → List ℕ
remainder f g zero p = p
remainder f g (suc k) [] = []
remainder f g (suc k) (c ∷ p) = remainder f g k (plus (scaled f c (drop 1 g)) p)

-- the R check octets of a message, and its word
unfoldable pub check_of : Field → ℕ → List ℕ → List ℕ
check_of f R message = remainder f (generator f R) (length message) (message ++ zeros R)

-- The same by a register of R octets: each octet of the message is added to the register's first octet, the register moves up
-- by one place, and the sum times the generator's other coefficients is added to it.
unfoldable pub register_step : Field → List ℕ → List ℕ → ℕ → List ℕ
register_step f g reg c = plus (scaled f (bit_xor (slice_index reg 0) c) (drop 1 g)) (drop 1 (reg ++ 0 ∷ []))

unfoldable pub register : Field → List ℕ → List ℕ → List ℕ → List ℕ
register f g reg [] = reg
register f g reg (c ∷ m) = register f g (register_step f g reg c) m

abbrev pub word_of : Field → ℕ → List ℕ → List ℕ
word_of f R message = message ++ check_of f R message

-- the check octets of a received word's first K octets, and those received, added
unfoldable pub check_difference : Field → (K R : ℕ) → List ℕ → List ℕ
check_difference f K R w = plus (check_of f R (take K w)) (drop K w)

-- Syndrome j of a word is its polynomial's value at α^j. The first R syndromes are 0; two words have the same first R.
abbrev pub Vanishes : Field → ℕ → List ℕ → Type 0
Vanishes f R w = (j : ℕ) → j < R → value_at f w (power f j) ≡ 0

abbrev pub Agree : Field → ℕ → List ℕ → List ℕ → Type 0
Agree f R v w = (j : ℕ) → j < R → value_at f v (power f j) ≡ value_at f w (power f j)

-- how many places of a word are not 0
unfoldable pub weight : List ℕ → ℕ
weight [] = 0
weight (x ∷ xs) = cond (x == 0) 0 1 + weight xs

-- the locator of place k of a word of N octets
abbrev pub locator : Field → (N k : ℕ) → ℕ
locator f N k = power f (N - 1 - k)

-- how many of the numbers below n pass a test
unfoldable pub how_many : (ℕ → Bool) → ℕ → ℕ
how_many test zero = 0
how_many test (suc n) = how_many test n + cond (test n) 1 0

-- A polynomial v, lowest power first, that vanishes at the locators of all places of the list ws but k, and not at k's.
-- It has no more coefficients than ws has places and one, nor than ws has places if k is one of them.
pub record Missing (f : Field) (N k : ℕ) (ws v : List ℕ) : Type 0 where
  pub some : 0 < length v
  pub long : length v ≤ length ws + 1
  pub without : (i : ℕ) → i < length ws → slice_index ws i ≡ k → length v ≤ length ws
  pub elements : Elements f v
  pub ends : (i : ℕ) → i < length ws → ¬ (slice_index ws i ≡ k) → low_at f v (locator f N (slice_index ws i)) ≡ 0
  pub stays : 0 < low_at f v (locator f N k)

-- The value that stands for place k of an error with the syndromes S and places among ws: the sum of the syndromes weighed by
-- such a polynomial, divided by its value at k's locator.
abbrev pub ValueFor : (f : Field) (N : ℕ) (S : ℕ → ℕ) (ws : List ℕ) (k value : ℕ) → Type 0
ValueFor f N S ws k value =
    (v : List ℕ) × Missing f N k ws v × (value ≡ f.times (weighed f v S 0) (f.inverse (low_at f v (locator f N k))))

-- a list's places ws, all of them places of a word of N octets, no place twice
pub record Places (N : ℕ) (ws : List ℕ) : Type 0 where
  pub inside : (i : ℕ) → i < length ws → slice_index ws i < N
  pub once : (i j : ℕ) → i < j → j < length ws → ¬ (slice_index ws i ≡ slice_index ws j)

-- the values vs added to a word at the places ws
unfoldable pub mend : List ℕ → (ws vs : List ℕ) → List ℕ
mend xs [] vs = xs
mend xs (w ∷ ws) [] = xs
mend xs (w ∷ ws) (v ∷ vs) = mend (slice_set xs w (bit_xor (slice_index xs w) v)) ws vs

-- syndrome j of the error that has the values vs at the places ws of a word of N octets
unfoldable pub terms_at : Field → (N : ℕ) (ws vs : List ℕ) (j : ℕ) → ℕ
terms_at f N [] vs j = 0
terms_at f N (w ∷ ws) [] j = 0
terms_at f N (w ∷ ws) (v ∷ vs) j = bit_xor (f.times v (raised f.times (locator f N w) j)) (terms_at f N ws vs j)
