-- The places where a polynomial vanishes, one place more. Assumes nothing.
use Rattle.std.proofs.Common.{◌≡◌, ℕ, ◌+◌, ◌<◌, ◌≤◌, ◌⊎◌, List, [], ◌∷◌, ◌++◌, length, get_or, take, set, refl, ap, ◌∙◌, inl, inr, arith}
use Rattle.std.proofs.lemmas.List.{length_push, length-take-le, get_or_push, get_or_append_left, take_more_set}
use Rattle.std.proofs.lemmas.Bool.{cases_lt}
use Rattle.field.specs.Field.{Field, Laws}
use Rattle.rs_algebra.specs.Polynomials.{Elements, low_at}
use Rattle.rs_algebra.specs.Words.{Places, locator}
use Rattle.rs_algebra.proofs.Terms.{places_few}
use Rattle.reed_solomon.specs.Roots.{RootPlaces}

module _ (f : Field) (N : ℕ) (l : List ℕ) where
  module _ (n : ℕ) (ws : List ℕ) (r : RootPlaces f N l n ws) where
    pub rooted_same : 0 < low_at f l (locator f N n) → RootPlaces f N l (n + 1) ws
    rooted_same some = record {
      inside = λ i h. omega (arith, r.inside i h);
      rising = r.rising;
      roots = r.roots;
      all = λ k h z. go k z (cases_lt k n) (omega arith);
    }
      where
        go : (k : ℕ) → low_at f l (locator f N k) ≡ 0 → (k < n) ⊎ (n ≤ k) → k ≤ n → (i : ℕ) × (i < length ws) × (get_or ws i 0 ≡ k)
        go k z (inl h) le = r.all k h z
        go k z (inr h) le =
            let e : k ≡ n = omega arith in
            absurd (omega (arith, some, ap (λ a. low_at f l (locator f N a)) e, z))

    pub rooted_more : low_at f l (locator f N n) ≡ 0 → RootPlaces f N l (n + 1) (ws ++ n ∷ [])
    rooted_more zero-here = record {
      inside = λ i h. omega (arith, at_most i h);
      rising = rise;
      roots = λ i h. root i (cases_lt i (length ws)) (omega (arith, length_push ws n));
      all = λ k h z. go k z (cases_lt k n) (omega arith);
    }
      where
        before : (i : ℕ) → i < length ws → get_or (ws ++ n ∷ []) i 0 ≡ get_or ws i 0
        before i h = get_or_append_left ws (n ∷ []) 0 i h

        last : (i : ℕ) → length ws ≡ i → get_or (ws ++ n ∷ []) i 0 ≡ n
        last i e = get_or_push ws n 0 i e

        at_most : (i : ℕ) → i < length (ws ++ n ∷ []) → get_or (ws ++ n ∷ []) i 0 ≤ n
        at_most i h = which (cases_lt i (length ws))
          where
            which : (i < length ws) ⊎ (length ws ≤ i) → get_or (ws ++ n ∷ []) i 0 ≤ n
            which (inl k) = omega (arith, before i k, r.inside i k)
            which (inr k) = omega (arith, last i (omega (arith, length_push ws n)))

        rise : (i j : ℕ) → i < j → j < length (ws ++ n ∷ []) → get_or (ws ++ n ∷ []) i 0 < get_or (ws ++ n ∷ []) j 0
        rise i j h k = which (cases_lt j (length ws))
          where
            which : (j < length ws) ⊎ (length ws ≤ j) → get_or (ws ++ n ∷ []) i 0 < get_or (ws ++ n ∷ []) j 0
            which (inl b) = omega (arith, before i (omega arith), before j b, r.rising i j h b)
            which (inr b) =
                let i-in : i < length ws = omega (arith, length_push ws n) in
                omega (arith, before i i-in, last j (omega (arith, length_push ws n)), r.inside i i-in)

        root : (i : ℕ) → (i < length ws) ⊎ (length ws ≤ i) → i ≤ length ws → low_at f l (locator f N (get_or (ws ++ n ∷ []) i 0)) ≡ 0
        root i (inl k) le = ap (λ a. low_at f l (locator f N a)) (before i k) ∙ r.roots i k
        root i (inr k) le = ap (λ a. low_at f l (locator f N a)) (last i (omega arith)) ∙ zero-here

        go : (k : ℕ) → low_at f l (locator f N k) ≡ 0 → (k < n) ⊎ (n ≤ k) → k ≤ n → (i : ℕ) × (i < length (ws ++ n ∷ [])) × (get_or (ws ++ n ∷ []) i 0 ≡ k)
        go k z (inl h) le =
            let at = r.all k h z in
            (at.0, omega (arith, at.1, length_push ws n), before at.0 at.1 ∙ at.2)
        go k z (inr h) le = (length ws, omega (arith, length_push ws n), last (length ws) refl ∙ omega arith)

    pub rooted_places : n ≤ N → Places N ws
    rooted_places h = record {
      inside = λ i k. omega (arith, r.inside i k);
      once = λ i j a b e. omega (arith, r.rising i j a b);
    }

    -- fewer places than coefficients
    pub rooted_few : Laws f → (i : ℕ) → N < f.size → n ≤ N → Elements f l → 0 < get_or l i 0 → length ws < length l
    rooted_few laws i fits h e some = places_few f laws N ws l i fits (rooted_places h) e some r.roots

  -- the places found so far, at the front of a list with room for one place fewer than the polynomial has coefficients
  module _ (laws : Laws f) (m : ℕ) (fits : N < f.size) (elements : Elements f l) (some : 0 < get_or l m 0) (n count : ℕ) (xs : List ℕ)
      (long : count ≤ length xs) (r : RootPlaces f N l n (take count xs)) where
    pub found_few : n ≤ N → count < length l
    found_few h = omega (arith, rooted_few n (take count xs) r laws m fits h elements some, length-take-le count xs long)

    -- one root more: there is room for it
    pub found_more : n < N → low_at f l (locator f N n) ≡ 0 → length l ≤ length xs + 1
        → (count < length xs) × RootPlaces f N l (n + 1) (take (count + 1) (set xs count n))
    found_more h z room =
        let more : RootPlaces f N l (n + 1) (take count xs ++ n ∷ []) = rooted_more n (take count xs) r z in
        let few = rooted_few (n + 1) (take count xs ++ n ∷ []) more laws m fits (omega arith) elements some in
        let left : count < length xs = omega (arith, few, length_push (take count xs) n, length-take-le count xs long) in
        (left, rw (take_more_set xs count n left) more)
