-- What is found from syndromes and a locator polynomial, and what it repairs. Assumes nothing.
use Rattle.std.specs.Prelude.{◌≡◌, ℕ, ◌<◌, List, length, map, take, Some, None, Option, slice_index}
use Prim.{⊥}
use Rattle.field.specs.Field.{Field}
use Rattle.rs_algebra.specs.Polynomials.{Elements}
use Rattle.rs_algebra.specs.Words.{ValueFor, mend, terms_at, weight}
use Rattle.reed_solomon.specs.Roots.{RootPlaces}
use Rattle.reed_solomon.specs.declared.terms.Term.{Term}

-- the places and the values of terms
abbrev pub places_of : List Term → List ℕ
places_of ts = map (λ (t : Term). t.place) ts

abbrev pub values_of : List Term → List ℕ
values_of ts = map (λ (t : Term). t.value) ts

-- the values vs are those that the syndromes s give for the places ws of a word of N octets
abbrev pub Valued : (f : Field) (N : ℕ) (s ws vs : List ℕ) → Type 0
Valued f N s ws vs = (i : ℕ) → i < length ws → ValueFor f N (λ j. slice_index s j) ws (slice_index ws i) (slice_index vs i)

-- the places ws of a word of N octets where the polynomial l vanishes, and their values vs
pub record Found (f : Field) (N : ℕ) (s l ws vs : List ℕ) : Type 0 where
  pub alike : length ws ≡ length vs
  pub few : length ws < length l
  pub roots : RootPlaces f N l N ws
  pub values : Valued f N s ws vs
  pub elements : Elements f vs

-- the values vs at the places ws make up the syndromes s
abbrev pub Passes : (f : Field) (N : ℕ) (ws vs s : List ℕ) → Type 0
Passes f N ws vs s = (j : ℕ) → j < length s → terms_at f N ws vs j ≡ slice_index s j

-- Where the values make up the syndromes, the message is the received word's front with them added, and how many of them are not 0
-- is said; else the message stays.
abbrev pub RepairedAt : (f : Field) (received ws vs s before after : List ℕ) → Option ℕ → Type 0
RepairedAt f received ws vs s before after (Some d) =
    Passes f (length received) ws vs s × (after ≡ mend (take (length before) received) ws vs) × (d ≡ weight vs)
RepairedAt f received ws vs s before after None = (Passes f (length received) ws vs s → ⊥) × (after ≡ before)

abbrev pub Repaired : (f : Field) (received s l before after : List ℕ) → Option ℕ → Type 0
Repaired f received s l before after answer =
    (ws : List ℕ) × (vs : List ℕ) × Found f (length received) s l ws vs × RepairedAt f received ws vs s before after answer
