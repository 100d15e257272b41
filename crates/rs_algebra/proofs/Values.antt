-- The value of an error at a place, by a polynomial that vanishes at all its other places. Assumes nothing.
use Rattle.std.proofs.Common.{◌≡◌, ℕ, zero, suc, ◌+◌, ◌-◌, ◌<◌, ◌≤◌, ◌⊎◌, List, [], ◌∷◌, ◌++◌, length, get_or, sym, refl, ap, ◌∙◌, inl, inr, mod-eq_of_lt, arith}
use lib.Bits.{bit_xor, xor_zero_r}
use Rattle.std.proofs.lemmas.List.{length_push, get_or_push, get_or_append_left}
use Rattle.std.proofs.lemmas.Bool.{cases_lt}
use Rattle.field.specs.Field.{Field, Laws, power, raised}
use Rattle.rs_algebra.specs.Polynomials.{Elements, low_at, times_root, weighed}
use Rattle.field.specs.Polynomials.{value_at}
use Rattle.rs_algebra.specs.Words.{locator, Missing}
use Rattle.field.proofs.Facts.{zero_element, one_element, times_zero, zero_times, times_one, raised_below, power_below}
use Rattle.rs_algebra.proofs.Lists.{all_zeros}
use Rattle.rs_algebra.proofs.Polynomials.{value_zeros}
use Rattle.rs_algebra.proofs.LowFirst.{low_below, root_long, root_elements, root_here, root_stays, root_elsewhere}
use Rattle.rs_algebra.proofs.Syndromes.{at_locators, at_long, at_reads, shift, weighed_same}
use Rattle.rs_algebra.proofs.Zero.{locators_differ}

module _ (f : Field) (laws : Laws f) where
  -- the value of a list with one place that is not 0
  pub value_single : (p : List ℕ) (k x : ℕ) → k < length p → ((i : ℕ) → i < length p → ¬ (i ≡ k) → get_or p i 0 ≡ 0)
      → value_at f p x ≡ f.times (get_or p k 0) (raised f.times x (length p - 1 - k))
  unfolding value_at
  value_single [] k x h none = absurd (omega arith)
  value_single (c ∷ p) zero x h none =
      let e : length p ≡ suc (length p) - 1 - 0 = omega arith in
      ap (bit_xor (f.times c (raised f.times x (length p))))
      (ap (λ q. value_at f q x) (all_zeros p (λ i l. none (suc i) (omega arith) (omega arith))) ∙ value_zeros f laws (length p) x)
      ∙ xor_zero_r (f.times c (raised f.times x (length p)))
      ∙ ap (λ n. f.times c (raised f.times x n)) e
  value_single (c ∷ p) (suc k) x h none =
      let e : length p - 1 - k ≡ suc (length p) - 1 - suc k = omega arith in
      let z : f.times c (raised f.times x (length p)) ≡ 0
      = ap (λ y. f.times y (raised f.times x (length p))) (none 0 (omega arith) (omega arith)) ∙ zero_times f laws (raised f.times x (length p)) in
      ap (λ y. bit_xor y (value_at f p x)) z
      ∙ value_single p k x (omega arith) (λ i l o. none (suc i) (omega arith) (omega arith))
      ∙ ap (λ n. f.times (get_or p k 0) (raised f.times x n)) e

  raised_of_one : (j : ℕ) → raised f.times 1 j ≡ 1
  unfolding raised
  raised_of_one zero = refl
  raised_of_one (suc j) = laws.neutral (raised f.times 1 j) (raised_below f laws 1 j) ∙ raised_of_one j

  -- v vanishes at each other place where there is an error, and S is the error's first r syndromes
  pub value_found : (r : ℕ) (err v : List ℕ) (S : ℕ → ℕ) (k : ℕ) → length v ≤ r
      → ((j : ℕ) → j < r → S j ≡ value_at f err (power f j)) → k < length err
      → ((i : ℕ) → i < length err → ¬ (i ≡ k) → (get_or err i 0 ≡ 0) ⊎ (low_at f v (locator f (length err) i) ≡ 0))
      → weighed f v S 0 ≡ f.times (get_or err k 0) (low_at f v (locator f (length err) k))
  unfolding raised
  value_found r err v S k room agree h others =
      let w = at_locators f (low_at f v) err in
      let long : length w ≡ length err = at_long f laws (low_at f v) err in
      weighed_same f laws v S (λ i. value_at f err (power f i)) 0 (λ m l. agree (0 + m) (omega arith))
      ∙ shift f laws v err 0
      ∙ value_single w k 1 (omega arith) (λ i l o. at_reads f laws (low_at f v) err i (omega arith) ∙ either i (others i (omega arith) o))
      ∙ ap (f.times (get_or w k 0)) (raised_of_one (length w - 1 - k))
      ∙ ap (λ y. f.times y 1) (at_reads f laws (low_at f v) err k h)
      ∙ times_one f laws (f.times (get_or err k 0) (low_at f v (locator f (length err) k))) (laws.times_below (get_or err k 0) (low_at f v (locator f (length err) k)))
    where
      either : (i : ℕ) → (get_or err i 0 ≡ 0) ⊎ (low_at f v (locator f (length err) i) ≡ 0) → f.times (get_or err i 0) (low_at f v (locator f (length err) i)) ≡ 0
      either i (inl z) = ap (λ y. f.times y (low_at f v (locator f (length err) i))) z ∙ zero_times f laws (low_at f v (locator f (length err) i))
      either i (inr z) = ap (f.times (get_or err i 0)) z ∙ times_zero f laws (get_or err i 0)

  -- the quotient gives back a factor
  pub factor_back : (a b : ℕ) → a < f.size → 0 < b → b < f.size → f.times (f.times a b) (f.inverse b) ≡ a
  factor_back a b ha some hb =
      laws.associative a b (f.inverse b)
      ∙ ap (f.times a) (laws.inverts b (rw (mod-eq_of_lt hb) some))
      ∙ times_one f laws a ha

  -- the polynomial that vanishes at all places of a list but k, place by place
  pub missing_none : (N k : ℕ) → Missing f N k [] (1 ∷ [])
  missing_none N k = record {
    some = omega arith;
    long = omega arith;
    without = λ i h e. absurd (omega arith);
    elements = one;
    ends = λ i h o. absurd (omega arith);
    stays = stay;
  }
    where
      one : Elements f (1 ∷ [])
      one zero = one_element f laws
      one (suc j) = zero_element f laws

      stay : 0 < low_at f (1 ∷ []) (locator f N k)
      stay = unfold low_at in rw (times_zero f laws (locator f N k)) (omega arith)

  pub missing_same : (N k : ℕ) (ws v : List ℕ) → Missing f N k ws v → Missing f N k (ws ++ k ∷ []) v
  missing_same N k ws v m = record {
    some = m.some;
    long = omega (arith, length_push ws k, m.long);
    without = λ i h e. omega (arith, length_push ws k, m.long);
    elements = m.elements;
    ends = ended;
    stays = m.stays;
  }
    where
      ended : (i : ℕ) → i < length (ws ++ k ∷ []) → ¬ (get_or (ws ++ k ∷ []) i 0 ≡ k) → low_at f v (locator f N (get_or (ws ++ k ∷ []) i 0)) ≡ 0
      ended i h o = go (cases_lt i (length ws))
        where
          go : (i < length ws) ⊎ (length ws ≤ i) → low_at f v (locator f N (get_or (ws ++ k ∷ []) i 0)) ≡ 0
          go (inl l) =
              let at : get_or (ws ++ k ∷ []) i 0 ≡ get_or ws i 0 = get_or_append_left ws (k ∷ []) 0 i l in
              ap (λ y. low_at f v (locator f N y)) at ∙ m.ends i l (λ e. o (at ∙ e))
          go (inr l) =
              absurd (o (get_or_push ws k 0 i (omega (arith, length_push ws k))))

  pub missing_more : (N k w : ℕ) (ws v : List ℕ) → N < f.size → k < N → w < N → ¬ (w ≡ k) → Missing f N k ws v
      → Missing f N k (ws ++ w ∷ []) (times_root f (locator f N w) v)
  missing_more N k w ws v fits hk hw other m = record {
    some = omega (arith, root_long f laws (locator f N w) v);
    long = omega (arith, length_push ws w, root_long f laws (locator f N w) v, m.long);
    without = seen;
    elements = root_elements f laws (locator f N w) v m.elements;
    ends = ended;
    stays =
        root_elsewhere f laws (locator f N w) v (locator f N k) (power_below f laws (N - 1 - w)) (power_below f laws (N - 1 - k))
        (λ e. other (sym (locators_differ f laws N k w fits hk hw e))) m.elements m.stays;
  }
    where
      seen : (i : ℕ) → i < length (ws ++ w ∷ []) → get_or (ws ++ w ∷ []) i 0 ≡ k → length (times_root f (locator f N w) v) ≤ length (ws ++ w ∷ [])
      seen i h e = go (cases_lt i (length ws))
        where
          go : (i < length ws) ⊎ (length ws ≤ i) → length (times_root f (locator f N w) v) ≤ length (ws ++ w ∷ [])
          go (inl l) =
              omega (
                arith,
                length_push ws w,
                root_long f laws (locator f N w) v,
                m.without i l (sym (get_or_append_left ws (w ∷ []) 0 i l) ∙ e),
              )
          go (inr l) = absurd (other (sym (get_or_push ws w 0 i (omega (arith, length_push ws w))) ∙ e))

      ended : (i : ℕ) → i < length (ws ++ w ∷ []) → ¬ (get_or (ws ++ w ∷ []) i 0 ≡ k)
          → low_at f (times_root f (locator f N w) v) (locator f N (get_or (ws ++ w ∷ []) i 0)) ≡ 0
      ended i h o = go (cases_lt i (length ws))
        where
          go : (i < length ws) ⊎ (length ws ≤ i) → low_at f (times_root f (locator f N w) v) (locator f N (get_or (ws ++ w ∷ []) i 0)) ≡ 0
          go (inl l) =
              let at : get_or (ws ++ w ∷ []) i 0 ≡ get_or ws i 0 = get_or_append_left ws (w ∷ []) 0 i l in
              root_stays f laws (locator f N w) v (locator f N (get_or (ws ++ w ∷ []) i 0))
              (ap (λ y. low_at f v (locator f N y)) at ∙ m.ends i l (λ e. o (at ∙ e)))
          go (inr l) =
              ap (λ y. low_at f (times_root f (locator f N w) v) (locator f N y)) (get_or_push ws w 0 i (omega (arith, length_push ws w)))
              ∙ root_here f laws (locator f N w) v

  -- the value of an error at a place k among ws, which hold all places of the error
  pub value_at_lem : (r : ℕ) (err ws v : List ℕ) (S : ℕ → ℕ) (k : ℕ) → Elements f err → length v ≤ r
      → ((j : ℕ) → j < r → S j ≡ value_at f err (power f j)) → k < length err
      → ((i : ℕ) → i < length err → 0 < get_or err i 0 → (n : ℕ) × (n < length ws) × (get_or ws n 0 ≡ i))
      → Missing f (length err) k ws v
      → f.times (weighed f v S 0) (f.inverse (low_at f v (locator f (length err) k))) ≡ get_or err k 0
  value_at_lem r err ws v S k e room agree h among m =
      ap (λ y. f.times y (f.inverse (low_at f v (locator f (length err) k)))) (value_found r err v S k room agree h others)
      ∙ factor_back (get_or err k 0) (low_at f v (locator f (length err) k)) (e k) m.stays (low_below f laws v (locator f (length err) k) m.elements)
    where
      others : (i : ℕ) → i < length err → ¬ (i ≡ k) → (get_or err i 0 ≡ 0) ⊎ (low_at f v (locator f (length err) i) ≡ 0)
      others i l o = go (cases_lt 0 (get_or err i 0))
        where
          go : (0 < get_or err i 0) ⊎ (get_or err i 0 ≤ 0) → (get_or err i 0 ≡ 0) ⊎ (low_at f v (locator f (length err) i) ≡ 0)
          go (inl some) =
              let at = among i l some in
              inr (ap (λ y. low_at f v (locator f (length err) y)) (sym at.2) ∙ m.ends at.0 at.1 (λ z. o (sym at.2 ∙ z)))
          go (inr none) = inl (omega arith)
