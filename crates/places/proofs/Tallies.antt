-- Counting the numbers that pass a test. Assumes nothing.
use Rattle.std.proofs.Common.{◌≡◌, ℕ, zero, suc, ◌+◌, ◌<◌, ◌≤◌, Bool, true, false, cond, eqb, ◌⊎◌, sym, refl, ap, ◌∙◌, inl, inr, arith}
use Rattle.std.proofs.lemmas.Bool.{cases_Bool, cases_lt, eq-eqb, eqb-true, true≢false}
use Rattle.std.proofs.lemmas.Bool.Decides.{nat_tests}
use Rattle.places.specs.Limit.{tally, within}

abbrev bit : Bool → ℕ
bit b = cond b 1 0

-- some number below n passes, or none does
pub find : (f : ℕ → Bool) (n : ℕ) → ((m : ℕ) × (m < n) × (f m ≡ true)) ⊎ ((m : ℕ) → m < n → f m ≡ false)
find f zero = inr (λ m h. absurd (omega arith))
find f (suc n) = go (find f n) (cases_Bool (f n))
  where
    go : ((m : ℕ) × (m < n) × (f m ≡ true)) ⊎ ((m : ℕ) → m < n → f m ≡ false) → (f n ≡ true) ⊎ (f n ≡ false)
        → ((m : ℕ) × (m < suc n) × (f m ≡ true)) ⊎ ((m : ℕ) → m < suc n → f m ≡ false)
    go (inl found) last = inl (found.0, omega (arith, found.1), found.2)
    go (inr none) (inl last) = inl (n, omega arith, last)
    go (inr none) (inr last) = inr (λ m h. at m (cases_lt m n) h)
      where
        at : (m : ℕ) → (m < n) ⊎ (n ≤ m) → m < suc n → f m ≡ false
        at m (inl below) h = none m below
        at m (inr above) h = let e : m ≡ n = omega arith in ap f e ∙ last

-- the counts of two tests add up to that of a third where they do at each number
pub tally_split : (f g h : ℕ → Bool) (n : ℕ) → ((m : ℕ) → m < n → cond (f m) 1 0 ≡ cond (g m) 1 0 + cond (h m) 1 0)
    → tally f n ≡ tally g n + tally h n
unfolding tally
tally_split f g h zero each = omega arith
tally_split f g h (suc n) each =
    omega (arith, tally_split f g h n (λ m l. each m (omega arith)), each n (omega arith))

pub tally_same : (f g : ℕ → Bool) (n : ℕ) → ((m : ℕ) → m < n → f m ≡ g m) → tally f n ≡ tally g n
unfolding tally
tally_same f g zero each = refl
tally_same f g (suc n) each =
    let last : bit (f n) ≡ bit (g n) = ap bit (each n (omega arith)) in
    omega (arith, last, tally_same f g n (λ m l. each m (omega arith)))

pub tally_more : (f g : ℕ → Bool) (n : ℕ) → ((m : ℕ) → m < n → f m ≡ true → g m ≡ true) → tally f n ≤ tally g n
unfolding tally
tally_more f g zero each = omega arith
tally_more f g (suc n) each =
    omega (arith, tally_more f g n (λ m l. each m (omega arith)), last (f n) (g n) (each n (omega arith)))
  where
    last : (a b : Bool) → (a ≡ true → b ≡ true) → cond a 1 0 ≤ cond b 1 0
    last true true k = omega arith
    last true false k = absurd (true≢false (sym (k refl)))
    last false true k = omega arith
    last false false k = omega arith

pub tally_none : (f : ℕ → Bool) (n : ℕ) → ((m : ℕ) → m < n → f m ≡ false) → tally f n ≡ 0
unfolding tally
tally_none f zero each = refl
tally_none f (suc n) each =
    let last : bit (f n) ≡ 0 = ap bit (each n (omega arith)) in
    omega (arith, last, tally_none f n (λ m l. each m (omega arith)))

pub tally_all : (f : ℕ → Bool) (n : ℕ) → ((m : ℕ) → m < n → f m ≡ true) → tally f n ≡ n
unfolding tally
tally_all f zero each = refl
tally_all f (suc n) each =
    let last : bit (f n) ≡ 1 = ap bit (each n (omega arith)) in
    omega (arith, last, tally_all f n (λ m l. each m (omega arith)))

-- just one number passes
pub tally_one : (f : ℕ → Bool) (n i : ℕ) → i < n → f i ≡ true → ((m : ℕ) → m < n → f m ≡ true → m ≡ i) → tally f n ≡ 1
unfolding tally
tally_one f zero i h yes-i only = absurd (omega arith)
tally_one f (suc n) i h yes-i only =
    go (λ below. tally_one f n i below yes-i (λ m l t. only m (omega arith) t)) (cases_lt i n) (cases_Bool (f n))
  where
    go : (i < n → tally f n ≡ 1) → (i < n) ⊎ (n ≤ i) → (f n ≡ true) ⊎ (f n ≡ false) → tally f n + bit (f n) ≡ 1
    go before (inl below) (inl last) = let e : n ≡ i = only n (omega arith) last in absurd (omega arith)
    go before (inl below) (inr last) =
        let z : bit (f n) ≡ 0 = ap bit last in
        omega (arith, z, before below)
    go before (inr above) last =
        let e : i ≡ n = omega arith in
        let o : bit (f n) ≡ 1 = ap bit (ap f (sym e) ∙ yes-i) in
        let none = tally_none f n (λ m l. others m l (cases_Bool (f m))) in
        omega (arith, o, none)
      where
        others : (m : ℕ) → m < n → (f m ≡ true) ⊎ (f m ≡ false) → f m ≡ false
        others m l (inl t) = let e : m ≡ i = only m (omega arith) t in absurd (omega arith)
        others m l (inr t) = t

-- a stretch of L + 1 places is one of L places and the place behind it, or the first place and L more
pub within-last : (a L x : ℕ) → cond (within a (suc L) x) 1 0 ≡ cond (within a L x) 1 0 + cond (eqb x (a + L)) 1 0
unfolding within
within-last a L x = grind (arith, nat_tests)

pub within_first : (a L x : ℕ) → eqb x a ≡ false → within a (suc L) x ≡ within (suc a) L x
unfolding within
within_first a L x e = grind (arith, nat_tests)

pub within_true : (a L x : ℕ) → within a L x ≡ true → (a ≤ x) × (x < a + L)
unfolding within
within_true a L x e = grind (arith, nat_tests)

pub within_from : (a L x : ℕ) → a ≤ x → x < a + L → within a L x ≡ true
unfolding within
within_from a L x h k = grind (arith, nat_tests)

pub within_none : (a x : ℕ) → within a 0 x ≡ false
unfolding within
within_none a x = grind (arith, nat_tests)

pub within-moved : (a b L x : ℕ) → within (b + a) L (b + x) ≡ within a L x
unfolding within
within-moved a b L x = grind (arith, nat_tests)

-- no two numbers below n have the same value
abbrev pub Apart : (ℕ → ℕ) → ℕ → Type 0
Apart f n = (m k : ℕ) → m < n → k < n → f m ≡ f k → m ≡ k

-- a value is taken once, or not at all
pub hits_once : (f : ℕ → ℕ) (n i : ℕ) → Apart f n → i < n → tally (λ m. eqb (f m) (f i)) n ≡ 1
hits_once f n i apart h =
    tally_one (λ m. eqb (f m) (f i)) n i h (eq-eqb (f i) (f i) refl) (λ m l t. apart m i l h (eqb-true (f m) (f i) t))

pub hits_at_most_once : (f : ℕ → ℕ) (n x : ℕ) → Apart f n → tally (λ m. eqb (f m) x) n ≤ 1
hits_at_most_once f n x apart = go (find (λ m. eqb (f m) x) n)
  where
    go : ((m : ℕ) × (m < n) × (eqb (f m) x ≡ true)) ⊎ ((m : ℕ) → m < n → eqb (f m) x ≡ false) → tally (λ m. eqb (f m) x) n ≤ 1
    go (inl found) =
        let e : f found.0 ≡ x = eqb-true (f found.0) x found.2 in
        let one = hits_once f n found.0 apart found.1 in
        omega (arith, rw e at one)
    go (inr none) = omega (arith, tally_none (λ m. eqb (f m) x) n none)

-- L values in a row are taken at most L times
pub few_within : (f : ℕ → ℕ) (n a L : ℕ) → Apart f n → tally (λ m. within a L (f m)) n ≤ L
few_within f n a zero apart = omega (arith, tally_none (λ m. within a 0 (f m)) n (λ m l. within_none a (f m)))
few_within f n a (suc L) apart =
    let split = tally_split (λ m. within a (suc L) (f m)) (λ m. within a L (f m)) (λ m. eqb (f m) (a + L)) n (λ m l. within-last a L (f m)) in
    omega (arith, split, few_within f n a L apart, hits_at_most_once f n (a + L) apart)
