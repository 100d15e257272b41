-- Terms at a list's first places, one place more; mending a word's front; and the weight as a count. Assumes nothing.
use Rattle.std.proofs.Common.{◌≡◌, ℕ, ◌+◌, ◌<◌, ◌≤◌, Bool, true, false, cond, eqb, not, count_by, ◌⊎◌, List, [], ◌∷◌, ◌++◌, length, get_or, take, set, sym, refl, ap, ◌∙◌, ap₂, inl, inr, arith, length-take}
use lib.Bits.{bit_xor}
use lib.Seq.{set_out, take-set-lt}
use Rattle.std.proofs.lemmas.List.{get_or-map, get_or-take, length-map, take_more, take-set-le}
use Rattle.std.proofs.lemmas.Bool.{cases_lt}
use Rattle.std.proofs.lemmas.List.Recursion.{is_count_by}
use Rattle.field.specs.Field.{Field, Laws, raised}
use Rattle.rs_algebra.specs.Words.{locator, mend, terms_at, weight}
use Rattle.rs_algebra.proofs.Mending.{mend_more, terms_more}
use Rattle.reed_solomon.specs.Repairs.{places_of, values_of}
use Rattle.reed_solomon.specs.declared.terms.Term.{Term}

pub weight_counted : (ts : List Term) → weight (values_of ts) ≡ count_by (λ (t : Term). not (eqb t.value 0)) ts
unfolding weight
weight_counted = is_count_by (λ ts. weight (values_of ts)) (λ (t : Term). not (eqb t.value 0)) refl (λ t ts. one (eqb t.value 0) (weight (values_of ts)))
  where
    one : (b : Bool) (n : ℕ) → cond b 0 1 + n ≡ cond (not b) (1 + n) n
    one true n = omega arith
    one false n = omega arith

abbrev pub none : Term
none = record { place = 0; value = 0 }

-- the places and the values of terms, one more
module _ (ts : List Term) (i : ℕ) (h : i < length ts) where
  pub place_at : get_or (places_of ts) i 0 ≡ (get_or ts i none).place
  place_at = get_or-map (λ (t : Term). t.place) ts i none 0 h

  pub value_at : get_or (values_of ts) i 0 ≡ (get_or ts i none).value
  value_at = get_or-map (λ (t : Term). t.value) ts i none 0 h

  pub among_places : i < length (places_of ts)
  among_places = omega (arith, length-map ts (λ (t : Term). t.place))

  alike : length (take i (places_of ts)) ≡ length (take i (values_of ts))
  alike = omega (arith, length-take i (places_of ts), length-take i (values_of ts), length-map ts (λ (t : Term). t.place), length-map ts (λ (t : Term). t.value))

  places_more : take (i + 1) (places_of ts) ≡ take i (places_of ts) ++ (get_or ts i none).place ∷ []
  places_more =
      take_more (places_of ts) i 0 among_places
      ∙ ap (λ w. take i (places_of ts) ++ w ∷ []) place_at

  values_more : take (i + 1) (values_of ts) ≡ take i (values_of ts) ++ (get_or ts i none).value ∷ []
  values_more =
      take_more (values_of ts) i 0 (omega (arith, length-map ts (λ (t : Term). t.value)))
      ∙ ap (λ v. take i (values_of ts) ++ v ∷ []) value_at

  pub mend_next : (xs : List ℕ)
      → mend xs (take (i + 1) (places_of ts)) (take (i + 1) (values_of ts))
      ≡ set (mend xs (take i (places_of ts)) (take i (values_of ts))) (get_or ts i none).place
      (bit_xor (get_or (mend xs (take i (places_of ts)) (take i (values_of ts))) (get_or ts i none).place 0) (get_or ts i none).value)
  mend_next xs =
      ap₂ (mend xs) places_more values_more
      ∙ mend_more xs (take i (places_of ts)) (take i (values_of ts)) (get_or ts i none).place (get_or ts i none).value alike

  -- a place behind the end is passed over
  pub mend-past : (xs held : List ℕ) → held ≡ mend xs (take i (places_of ts)) (take i (values_of ts)) → length held ≤ (get_or ts i none).place
      → held ≡ mend xs (take (i + 1) (places_of ts)) (take (i + 1) (values_of ts))
  mend-past xs held is past =
      sym (set_out held (get_or ts i none).place (bit_xor (get_or held (get_or ts i none).place 0) (get_or ts i none).value) past)
      ∙ ap (λ ys. set ys (get_or ts i none).place (bit_xor (get_or ys (get_or ts i none).place 0) (get_or ts i none).value)) is
      ∙ sym (mend_next xs)

  pub terms_next : (f : Field) → Laws f → (N j : ℕ)
      → terms_at f N (take (i + 1) (places_of ts)) (take (i + 1) (values_of ts)) j
      ≡ bit_xor (terms_at f N (take i (places_of ts)) (take i (values_of ts)) j)
      (f.times (get_or ts i none).value (raised f.times (locator f N (get_or ts i none).place) j))
  terms_next f laws N j =
      ap₂ (λ a b. terms_at f N a b j) places_more values_more
      ∙ terms_more f laws N (take i (places_of ts)) (take i (values_of ts)) (get_or ts i none).place (get_or ts i none).value j alike

-- the front of a mended word is its front mended
pub mend-front : (K : ℕ) (xs ws vs : List ℕ) → take K (mend xs ws vs) ≡ mend (take K xs) ws vs
unfolding mend
mend-front K xs [] vs = refl
mend-front K xs (w ∷ ws) [] = refl
mend-front K xs (w ∷ ws) (v ∷ vs) =
    mend-front K (set xs w (bit_xor (get_or xs w 0) v)) ws vs ∙ ap (λ ys. mend ys ws vs) (one (cases_lt w K))
  where
    one : (w < K) ⊎ (K ≤ w) → take K (set xs w (bit_xor (get_or xs w 0) v)) ≡ set (take K xs) w (bit_xor (get_or (take K xs) w 0) v)
    one (inl h) = take-set-lt K xs w (bit_xor (get_or xs w 0) v) h ∙ ap (λ a. set (take K xs) w (bit_xor a v)) (sym (get_or-take K xs w 0 h))
    one (inr h) =
        take-set-le K xs w (bit_xor (get_or xs w 0) v) h ∙ sym (set_out (take K xs) w (bit_xor (get_or (take K xs) w 0) v) (omega (arith, length-take K xs)))
