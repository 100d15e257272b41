-- Where a locator polynomial vanishes. Assumes nothing.
use Rattle.std.specs.Prelude.{◌≡◌, ℕ, ◌<◌, List, length, slice_index}
use Rattle.field.specs.Field.{Field}
use Rattle.rs_algebra.specs.Polynomials.{low_at}
use Rattle.rs_algebra.specs.Words.{locator}

-- ws are the places among the first n of a word of N octets at whose locators the polynomial l, lowest power first, is 0,
-- in rising order
pub record RootPlaces (f : Field) (N : ℕ) (l : List ℕ) (n : ℕ) (ws : List ℕ) : Type 0 where
  pub inside : (i : ℕ) → i < length ws → slice_index ws i < n
  pub rising : (i j : ℕ) → i < j → j < length ws → slice_index ws i < slice_index ws j
  pub roots : (i : ℕ) → i < length ws → low_at f l (locator f N (slice_index ws i)) ≡ 0
  pub all : (k : ℕ) → k < n → low_at f l (locator f N k) ≡ 0 → (i : ℕ) × (i < length ws) × (slice_index ws i ≡ k)
