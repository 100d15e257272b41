-- A polynomial that meets the equations of the syndromes, and the vectors from which it is found. Equation j of a vector l
-- says that the sum of l_m·S(j + m) is 0. Assumes nothing.
use Rattle.std.specs.Prelude.{◌≡◌, ℕ, ◌+◌, ◌<◌, List, [], length, take, Some, None, Option, slice_index, slice_index_or}
use Rattle.field.specs.Field.{Field}
use Rattle.rs_algebra.specs.Polynomials.{Elements, plus, scaled, weighed}
use Rattle.reed_solomon.specs.declared.locator.vectors.Vectors.{Vectors}

-- what a list holds, and 0 past its end
abbrev pub held : List ℕ → ℕ → ℕ
held xs m = slice_index xs m

-- t + 1 coefficients, lowest power first, not all of them 0, that meet the first t equations
pub record Locating (f : Field) (S : ℕ → ℕ) (l : List ℕ) : Type 0 where
  pub elements : Elements f l
  pub some : (i : ℕ) × (i < length l) × (0 < slice_index l i)
  pub killed : (j : ℕ) → j + 1 < length l → weighed f l S j ≡ 0

-- The vectors R 0 to R (m - 1), each of w elements, meet the first j equations. Each has a place of its own, where it has 1 and
-- the others have 0.
pub record Solutions (f : Field) (S : ℕ → ℕ) (w m j : ℕ) (R : ℕ → List ℕ) : Type 0 where
  pub long : (i : ℕ) → i < m → length (R i) ≡ w
  pub elements : (i : ℕ) → i < m → Elements f (R i)
  pub own : (i : ℕ) → i < m → (o : ℕ) × (o < w) × (slice_index (R i) o ≡ 1) × ((k : ℕ) → k < m → ¬ (k ≡ i) → slice_index (R k) o ≡ 0)
  pub killed : (i : ℕ) → i < m → (e : ℕ) → e < j → weighed f (R i) S e ≡ 0

-- the first w numbers of row i
abbrev pub front : ℕ → List (List ℕ) → ℕ → List ℕ
front w rows i = take w (slice_index_or rows i [])

abbrev pub vector : Vectors → ℕ → List ℕ
vector v = front v.width v.rows

-- the vectors that are kept meet the first j equations
abbrev pub Solve : Field → (S : ℕ → ℕ) (j : ℕ) → Vectors → Type 0
Solve f S j v = Solutions f S v.width v.kept j (vector v)

-- they meet equation j too, or p is the first of them that does not
abbrev pub FirstOff : (f : Field) (S : ℕ → ℕ) (j : ℕ) (v : Vectors) → Option ℕ → Type 0
FirstOff f S j v None = (i : ℕ) → i < v.kept → weighed f (vector v i) S j ≡ 0
FirstOff f S j v (Some p) = (p < v.kept) × (0 < weighed f (vector v p) S j) × ((i : ℕ) → i < p → weighed f (vector v i) S j ≡ 0)

-- so much of a vector u added to v that the sum meets equation j
unfoldable pub cleared : Field → (S : ℕ → ℕ) (j : ℕ) (u v : List ℕ) → List ℕ
cleared f S j u v = plus v (scaled f (f.times (weighed f v S j) (f.inverse (weighed f u S j))) u)
