-- A polynomial that is not 0 has fewer roots than coefficients. Assumes nothing.
use Rattle.std.proofs.Common.{◌≡◌, ℕ, zero, suc, ◌+◌, ◌-◌, ◌<◌, ◌≤◌, Bool, true, false, cond, eqb, ◌⊎◌, List, [], ◌∷◌, length, get_or, sym, refl, ap, ◌∙◌, ap₂, inl, inr, add-one, arith}
use lib.Bits.{bit_xor, xor_comm, xor_assoc, xor_self, xor_zero_r}
use Rattle.std.proofs.lemmas.Bool.{cases_Bool, cases_lt, eqb-true, eq-eqb, true≢false}
use Rattle.field.specs.Field.{Field, Laws}
use Rattle.rs_algebra.specs.Polynomials.{Elements, low_at}
use Rattle.rs_algebra.specs.Words.{how_many, locator}
use Rattle.field.specs.Sums.{xor-left, xor_again, xor_same}
use Rattle.field.proofs.Facts.{zero_element, times_zero, times_left, times_right, cancels, power_below}
use Rattle.rs_algebra.proofs.LowFirst.{low_below}
use Rattle.rs_algebra.proofs.Zero.{locators_differ}

-- one more number
pub how_many_next : (test : ℕ → Bool) (n : ℕ) → how_many test (n + 1) ≡ how_many test n + cond (test n) 1 0
unfolding how_many
how_many_next test n = rw (add-one n)

pub how_many_all : (test : ℕ → Bool) (n : ℕ) → ((k : ℕ) → k < n → test k ≡ true) → how_many test n ≡ n
unfolding how_many
how_many_all test zero each = refl
how_many_all test (suc n) each = rw (each n (omega arith)) (omega (arith, how_many_all test n (λ k h. each k (omega arith))))

how_many_less : (p q : ℕ → Bool) (n : ℕ) → ((k : ℕ) → k < n → p k ≡ true → q k ≡ true) → how_many p n ≤ how_many q n
unfolding how_many
how_many_less p q zero each = omega arith
how_many_less p q (suc n) each =
    omega (arith, how_many_less p q n (λ k h. each k (omega arith)), last (p n) (q n) (each n (omega arith)))
  where
    last : (a b : Bool) → (a ≡ true → b ≡ true) → cond a 1 0 ≤ cond b 1 0
    last true true k = omega arith
    last true false k = absurd (true≢false (sym (k refl)))
    last false true k = omega arith
    last false false k = omega arith

module _ (f : Field) (laws : Laws f) where
  -- the quotient of c ∷ m by x + a
  by_root : ℕ → List ℕ → List ℕ
  by_root a [] = []
  by_root a (d ∷ m) = low_at f (d ∷ m) a ∷ by_root a m

  by_root_long : (a : ℕ) (m : List ℕ) → length (by_root a m) ≡ length m
  unfolding by_root
  by_root_long a [] = refl
  by_root_long a (d ∷ m) = ap suc (by_root_long a m)

  by_root_elements : (a : ℕ) (m : List ℕ) → Elements f m → Elements f (by_root a m)
  unfolding by_root
  by_root_elements a [] e k = zero_element f laws
  by_root_elements a (d ∷ m) e zero = low_below f laws (d ∷ m) a e
  by_root_elements a (d ∷ m) e (suc k) = by_root_elements a m (λ i. e (suc i)) k

  close : (c x a F G Q : ℕ) → bit_xor F G ≡ f.times (bit_xor x a) Q
      → bit_xor (bit_xor c (f.times x F)) (bit_xor c (f.times a G)) ≡ f.times (bit_xor x a) (bit_xor G (f.times x Q))
  close c x a F G Q e =
      let is : F ≡ bit_xor G (f.times (bit_xor x a) Q) = sym (xor_again G F) ∙ ap (bit_xor G) (xor_comm G F ∙ e) in
      ap (λ y. bit_xor (bit_xor c (f.times x y)) (bit_xor c (f.times a G))) is ∙ flat c x a G Q
    where
      flat : (c x a G Q : ℕ) → bit_xor (bit_xor c (f.times x (bit_xor G (f.times (bit_xor x a) Q)))) (bit_xor c (f.times a G)) ≡ f.times (bit_xor x a) (bit_xor G (f.times x Q))
      flat c x a G Q = simp (laws.distributive, times_right f laws, times_left f laws, xor_assoc, xor_comm, xor-left, xor_again)

  -- what stays when c ∷ m is divided by x + a is its value at a
  divided : (c : ℕ) (m : List ℕ) (a x : ℕ) → bit_xor (low_at f (c ∷ m) x) (low_at f (c ∷ m) a) ≡ f.times (bit_xor x a) (low_at f (by_root a m) x)
  unfolding low_at by_root
  divided c [] a x = simp (times_zero f laws, xor_zero_r, xor_self)
  divided c (d ∷ m) a x = close c x a (low_at f (d ∷ m) x) (low_at f (d ∷ m) a) (low_at f (by_root a m) x) (divided d m a x)

  -- where the quotient is 0 and the value too, so is all
  rest_none : (a : ℕ) (m : List ℕ) → ((k : ℕ) → get_or (by_root a m) k 0 ≡ 0) → (low_at f m a ≡ 0) × ((k : ℕ) → get_or m k 0 ≡ 0)
  unfolding by_root low_at
  rest_none a [] none = (refl, λ k. refl)
  rest_none a (d ∷ m) none =
      let rest = rest_none a m (λ k. none (suc k)) in
      let d-0 : d ≡ 0 = xor_same d (f.times a (low_at f m a)) (none 0) ∙ ap (f.times a) rest.0 ∙ times_zero f laws a in
      (none 0, all d-0 rest.1)
    where
      all : d ≡ 0 → ((k : ℕ) → get_or m k 0 ≡ 0) → (k : ℕ) → get_or (d ∷ m) k 0 ≡ 0
      all z n zero = z
      all z n (suc k) = n k

  whole_none : (a c : ℕ) (m : List ℕ) → low_at f (c ∷ m) a ≡ 0 → ((k : ℕ) → get_or (by_root a m) k 0 ≡ 0) → (k : ℕ) → get_or (c ∷ m) k 0 ≡ 0
  unfolding low_at
  whole_none a c m z none zero = xor_same c (f.times a (low_at f m a)) z ∙ ap (f.times a) (rest_none a m none).0 ∙ times_zero f laws a
  whole_none a c m z none (suc k) = (rest_none a m none).1 k

  module _ (X : ℕ → ℕ) where
    abbrev is_root : List ℕ → ℕ → Bool
    is_root l k = eqb (low_at f l (X k)) 0

    few : (n : ℕ) (l : List ℕ) → Elements f l → ((k : ℕ) → k < n → X k < f.size) → ((i k : ℕ) → i < n → k < n → X i ≡ X k → i ≡ k)
        → ((k : ℕ) → get_or l k 0 ≡ 0) ⊎ (how_many (is_root l) n < length l)
    unfolding how_many
    few zero [] e below apart = inl (λ k. refl)
    few zero (c ∷ m) e below apart = inr (omega arith)
    few (suc n) [] e below apart = inl (λ k. refl)
    few (suc n) (c ∷ m) e below apart =
        go (cases_Bool (is_root (c ∷ m) n))
        (few n (c ∷ m) e (λ k h. below k (omega arith)) (λ i k h j. apart i k (omega arith) (omega arith)))
        (few n (by_root (X n) m) (by_root_elements (X n) m (λ k. e (suc k))) (λ k h. below k (omega arith)) (λ i k h j. apart i k (omega arith) (omega arith)))
      where
        root_too : low_at f (c ∷ m) (X n) ≡ 0 → (k : ℕ) → k < n → is_root (c ∷ m) k ≡ true → is_root (by_root (X n) m) k ≡ true
        root_too z k h r =
            let x = X k in
            let p : f.times (bit_xor x (X n)) (low_at f (by_root (X n) m) x) ≡ 0
            = sym (divided c m (X n) x) ∙ ap₂ bit_xor (eqb-true (low_at f (c ∷ m) x) 0 r) z in
            eq-eqb (low_at f (by_root (X n) m) x) 0 (by_cases p (cases_lt 0 (bit_xor x (X n))))
          where
            by_cases : f.times (bit_xor (X k) (X n)) (low_at f (by_root (X n) m) (X k)) ≡ 0
                → (0 < bit_xor (X k) (X n)) ⊎ (bit_xor (X k) (X n) ≤ 0) → low_at f (by_root (X n) m) (X k) ≡ 0
            by_cases p (inl some) =
                cancels f laws (bit_xor (X k) (X n)) (low_at f (by_root (X n) m) (X k)) some
                (laws.sum_below (X k) (X n) (below k (omega arith)) (below n (omega arith)))
                (low_below f laws (by_root (X n) m) (X k) (by_root_elements (X n) m (λ i. e (suc i)))) p
            by_cases p (inr none) =
                absurd (omega (arith, apart k n (omega arith) (omega arith) (xor_same (X k) (X n) (omega arith))))

        go : (is_root (c ∷ m) n ≡ true) ⊎ (is_root (c ∷ m) n ≡ false)
            → ((k : ℕ) → get_or (c ∷ m) k 0 ≡ 0) ⊎ (how_many (is_root (c ∷ m)) n < length (c ∷ m))
            → ((k : ℕ) → get_or (by_root (X n) m) k 0 ≡ 0) ⊎ (how_many (is_root (by_root (X n) m)) n < length (by_root (X n) m))
            → ((k : ℕ) → get_or (c ∷ m) k 0 ≡ 0) ⊎ (how_many (is_root (c ∷ m)) n + cond (is_root (c ∷ m) n) 1 0 < length (c ∷ m))
        go (inl r) plain (inl none) = inl (whole_none (X n) c m (eqb-true (low_at f (c ∷ m) (X n)) 0 r) none)
        go (inl r) plain (inr less) =
            inr (rw r (omega (
              arith,
              how_many_less (is_root (c ∷ m)) (is_root (by_root (X n) m)) n (root_too (eqb-true (low_at f (c ∷ m) (X n)) 0 r)),
              by_root_long (X n) m,
              less,
            )))
        go (inr r) (inl none) by = inl none
        go (inr r) (inr less) by = inr (rw r (omega (arith, less)))

    -- among numbers that all differ
    pub roots_few : (n : ℕ) (l : List ℕ) (i : ℕ) → Elements f l → 0 < get_or l i 0
        → ((k : ℕ) → k < n → X k < f.size) → ((i k : ℕ) → i < n → k < n → X i ≡ X k → i ≡ k)
        → how_many (λ k. eqb (low_at f l (X k)) 0) n < length l
    roots_few n l i e some below apart = go (few n l e below apart)
      where
        go : ((k : ℕ) → get_or l k 0 ≡ 0) ⊎ (how_many (is_root l) n < length l) → how_many (is_root l) n < length l
        go (inl none) = absurd (omega (arith, none i))
        go (inr less) = less

  -- among the locators of a word's first n places
  pub locators_few : (N n : ℕ) (l : List ℕ) (i : ℕ) → N < f.size → n ≤ N → Elements f l → 0 < get_or l i 0
      → how_many (λ k. eqb (low_at f l (locator f N k)) 0) n < length l
  locators_few N n l i fits h e some =
      roots_few (locator f N) n l i e some (λ k j. power_below f laws (N - 1 - k))
      (λ a b x y. locators_differ f laws N a b fits (omega arith) (omega arith))
