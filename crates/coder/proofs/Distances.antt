-- Distances between words of the same length, and what they say of decoding. Assumes nothing.
use Rattle.std.proofs.Common.{◌≡◌, ℕ, zero, suc, ◌+◌, ◌<◌, ◌≤◌, cond, eqb, ◌≢◌, ◌⊎◌, List, [], ◌∷◌, ◌++◌, length, get_or, take, set, sym, refl, ap, ◌∙◌, ap₂, inl, inr, zero-add, arith}
use Rattle.std.proofs.lemmas.List.{length-take, take_more}
use Rattle.std.proofs.lemmas.Bool.{cases_eq}
use Rattle.std.proofs.lemmas.Bool.Decides.{nat_tests}
use Rattle.coder.specs.Codes.{Code, Message, Sound, Near, distance}

-- one place: 0 where the octets are the same, else 1
abbrev pub apart_at : ℕ → ℕ → ℕ
apart_at x y = cond (eqb x y) 0 1

pub distance_self : (a : List ℕ) → distance a a ≡ 0
unfolding distance
distance_self [] = refl
distance_self (x ∷ a) =
    let here : apart_at x x ≡ 0 = grind (arith, nat_tests) in
    omega (arith, here, distance_self a)

pub distance_symmetric : (a b : List ℕ) → distance a b ≡ distance b a
unfolding distance
distance_symmetric [] [] = refl
distance_symmetric [] (y ∷ b) = refl
distance_symmetric (x ∷ a) [] = refl
distance_symmetric (x ∷ a) (y ∷ b) =
    let here : apart_at x y ≡ apart_at y x = grind (arith, nat_tests) in
    ap₂ ◌+◌ here (distance_symmetric a b)

pub distance_triangle : (a b c : List ℕ) → length a ≡ length b → length b ≡ length c → distance a c ≤ distance a b + distance b c
unfolding distance
distance_triangle [] b c e f = omega arith
distance_triangle (x ∷ a) [] c e f = absurd (omega arith)
distance_triangle (x ∷ a) (y ∷ b) [] e f = absurd (omega arith)
distance_triangle (x ∷ a) (y ∷ b) (z ∷ c) e f =
    let here : apart_at x z ≤ apart_at x y + apart_at y z = grind (arith, nat_tests) in
    omega (arith, here, distance_triangle a b c (omega arith) (omega arith))

pub distance_le : (a b : List ℕ) → distance a b ≤ length a
unfolding distance
distance_le [] b = omega arith
distance_le (x ∷ a) [] = omega arith
distance_le (x ∷ a) (y ∷ b) =
    let here : apart_at x y ≤ 1 = grind (arith, nat_tests) in
    omega (arith, here, distance_le a b)

-- words at distance 0 are one
pub distance_zero : (a b : List ℕ) → length a ≡ length b → distance a b ≡ 0 → a ≡ b
unfolding distance
distance_zero [] [] e none = refl
distance_zero [] (y ∷ b) e none = absurd (omega arith)
distance_zero (x ∷ a) [] e none = absurd (omega arith)
distance_zero (x ∷ a) (y ∷ b) e none =
    let here : apart_at x y ≡ 0 = omega (arith, none) in
    let same : x ≡ y = grind (arith, nat_tests) in
    ap₂ ◌∷◌ same (distance_zero a b (omega arith) (omega (arith, none)))

pub distance-append : (a b c d : List ℕ) → length a ≡ length b → distance (a ++ c) (b ++ d) ≡ distance a b + distance c d
unfolding distance
distance-append [] [] c d e = sym (zero-add (distance c d))
distance-append [] (y ∷ b) c d e = absurd (omega arith)
distance-append (x ∷ a) [] c d e = absurd (omega arith)
distance-append (x ∷ a) (y ∷ b) c d e =
    omega (arith, distance-append a b c d (omega arith))

-- one place more: the step of a loop that counts places
pub distance_more : (a b : List ℕ) (i : ℕ) → i < length a → i < length b
    → distance (take (i + 1) a) (take (i + 1) b) ≡ distance (take i a) (take i b) + apart_at (get_or a i 0) (get_or b i 0)
unfolding distance
distance_more a b i ha hb =
    let fronts : length (take i a) ≡ length (take i b) = length-take i a ∙ omega arith ∙ sym (length-take i b) in
    ap₂ distance (take_more a i 0 ha) (take_more b i 0 hb)
    ∙ distance-append (take i a) (take i b) (get_or a i 0 ∷ []) (get_or b i 0 ∷ []) fronts
    ∙ ap (λ (n : ℕ). distance (take i a) (take i b) + n) (omega arith)

-- one octet written changes a distance by one at most
pub distance-set : (a b : List ℕ) (i x : ℕ) → distance a (set b i x) ≤ distance a b + 1
unfolding distance
distance-set [] b i x = omega arith
distance-set (y ∷ a) [] i x = omega arith
distance-set (y ∷ a) (z ∷ b) zero x =
    let here : apart_at y x ≤ 1 = grind (arith, nat_tests) in
    omega (arith, here)
distance-set (y ∷ a) (z ∷ b) (suc i) x = omega (arith, distance-set a b i x)

pub distance-set_back : (a b : List ℕ) (i x : ℕ) → distance a b ≤ distance a (set b i x) + 1
unfolding distance
distance-set_back [] b i x = omega arith
distance-set_back (y ∷ a) [] i x = omega arith
distance-set_back (y ∷ a) (z ∷ b) zero x =
    let here : apart_at y z ≤ 1 = grind (arith, nat_tests) in
    omega (arith, here)
distance-set_back (y ∷ a) (z ∷ b) (suc i) x = omega (arith, distance-set_back a b i x)

-- and a word with one octet written is one at most from what it was
pub distance-set_self : (a : List ℕ) (i x : ℕ) → distance a (set a i x) ≤ 1
distance-set_self a i x = omega (arith, distance-set a a i x, distance_self a)

pub same_list : (a b : List ℕ) → (a ≡ b) ⊎ (a ≢ b)
same_list [] [] = inl refl
same_list [] (y ∷ b) = inr (λ e. absurd (omega (arith, ap length e)))
same_list (x ∷ a) [] = inr (λ e. absurd (omega (arith, ap length e)))
same_list (x ∷ a) (y ∷ b) = go (cases_eq x y) (same_list a b)
  where
    go : (x ≡ y) ⊎ (x ≡ y → ⊥) → (a ≡ b) ⊎ (a ≢ b) → (x ∷ a ≡ y ∷ b) ⊎ (x ∷ a ≢ y ∷ b)
    go (inl p) (inl q) = inl (ap₂ ◌∷◌ p q)
    go (inl p) (inr q) = inr (λ e. q (cc))
    go (inr p) q = inr (λ e. p (cc))

-- No two messages have words within t places of one received word.
pub within_same : (c : Code) → Sound c → (received a b : List ℕ) → length received ≡ c.sizes.word → Message c a → Message c b
    → distance (c.word_of a) received ≤ c.sizes.repairs → distance (c.word_of b) received ≤ c.sizes.repairs → a ≡ b
within_same c sound received a b long ma mb near-a near-b = go (same_list a b)
  where
    go : (a ≡ b) ⊎ (a ≢ b) → a ≡ b
    go (inl same) = same
    go (inr other) =
        let through = distance_triangle (c.word_of a) received (c.word_of b) (sound.word_long a ma ∙ sym long) (long ∙ sym (sound.word_long b mb)) in
        absurd (omega (arith, through, sound.apart a b ma mb other, distance_symmetric received (c.word_of b), near-a, near-b))

-- So what decoding answers is the only answer, with its count.
pub near_same : (c : Code) → Sound c → (received a b : List ℕ) (d e : ℕ) → length received ≡ c.sizes.word
    → Near c received a d → Near c received b e → (a ≡ b) × (d ≡ e)
near_same c sound received a b d e long near-a near-b =
    let within_a : distance (c.word_of a) received ≤ c.sizes.repairs = omega (arith, near-a.differing, near-a.within) in
    let within_b : distance (c.word_of b) received ≤ c.sizes.repairs = omega (arith, near-b.differing, near-b.within) in
    let same : a ≡ b = within_same c sound received a b long near-a.message near-b.message within_a within_b in
    (same, sym near-a.differing ∙ ap (λ m. distance (c.word_of m) received) same ∙ near-b.differing)
