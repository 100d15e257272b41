-- One step of the elimination: of m + 1 vectors that meet j equations, m that meet one equation more. Assumes nothing.
use Rattle.std.proofs.Common.{◌≡◌, ℕ, suc, ◌+◌, ◌%◌, ◌<◌, ◌≤◌, true, false, cond, eqb, ◌⊎◌, List, [], ◌∷◌, length, get_or, set, sym, refl, ap, ◌∙◌, ap₂, inl, inr, mod-eq_of_lt, arith, length-set, get_or-set_other, get_or-set_same}
use lib.Bits.{bit_xor, xor_self, xor_zero_r}
use Rattle.std.proofs.lemmas.Bool.{cases_Bool, cases_eq, cases_lt, eqb-true, eqb-false}
use Rattle.field.specs.Field.{Field, Laws}
use Rattle.field.proofs.Facts.{zero_element, one_element, times_zero, times_one}
use Rattle.rs_algebra.specs.Polynomials.{Elements, zeros, scaled, weighed}
use Rattle.rs_algebra.proofs.Lists.{plus_reads, plus_long, plus_comm, scaled_long, plus_elements, scaled_elements, zeros_long, zeros_read}
use Rattle.rs_algebra.proofs.LowFirst.{scaled_reads}
use Rattle.rs_algebra.proofs.Steps.{weighed-plus, weighed-scaled}
use Rattle.reed_solomon.specs.Locating.{Locating, Solutions, cleared}

-- number m moved to place p
abbrev moved : (m p k : ℕ) → ℕ
moved m p k = cond (eqb k p) m k

moved_which : (m p k : ℕ) → ((k ≡ p) × (moved m p k ≡ m)) ⊎ (¬ (k ≡ p) × (moved m p k ≡ k))
moved_which m p k = go (cases_Bool (eqb k p))
  where
    go : (eqb k p ≡ true) ⊎ (eqb k p ≡ false) → ((k ≡ p) × (moved m p k ≡ m)) ⊎ (¬ (k ≡ p) × (moved m p k ≡ k))
    go (inl e) = inl (eqb-true k p e, ap (λ b. cond b m k) e)
    go (inr e) = inr (eqb-false k p e, ap (λ b. cond b m k) e)

module _ (f : Field) (laws : Laws f) where
  pub weighed_below : (l : List ℕ) (S : ℕ → ℕ) (j : ℕ) → weighed f l S j < f.size
  unfolding weighed
  weighed_below [] S j = zero_element f laws
  weighed_below (c ∷ l) S j = laws.sum_below (f.times c (S j)) (weighed f l S (suc j)) (laws.times_below c (S j)) (weighed_below l S (suc j))

  -- what a new vector v' in place of v owes: it meets equation j, and is v but for a multiple of u
  pub record Mixed (S : ℕ → ℕ) (j : ℕ) (u v v' : List ℕ) : Type 0 where
    pub long : length v' ≡ length v
    pub elements : Elements f v → Elements f u → Elements f v'
    pub stays : (o : ℕ) → get_or u o 0 ≡ 0 → get_or v' o 0 ≡ get_or v o 0
    pub keeps : (e : ℕ) → weighed f u S e ≡ 0 → weighed f v S e ≡ 0 → weighed f v' S e ≡ 0
    pub killed : weighed f v' S j ≡ 0

  -- a vector that meets the equation stays
  pub mixed_same : (S : ℕ → ℕ) (j : ℕ) (u v v' : List ℕ) → v' ≡ v → weighed f v S j ≡ 0 → Mixed S j u v v'
  mixed_same S j u v v' same none =
      record {
        long = ap length same;
        elements = λ ev eu. rw same ev;
        stays = λ o z. ap (λ l. get_or l o 0) same;
        keeps = λ e zu zv. ap (λ l. weighed f l S e) same ∙ zv;
        killed = ap (λ l. weighed f l S j) same ∙ none;
      }

  -- and another has a multiple of u added
  pub mixed_cleared : (S : ℕ → ℕ) (j : ℕ) (u v v' : List ℕ) → v' ≡ cleared f S j u v → length u ≡ length v → 0 < weighed f u S j → Mixed S j u v v'
  unfolding cleared
  mixed_cleared S j u v v' made alike off =
      record {
        long = ap length made ∙ ap length (plus_comm v cu) ∙ plus_long cu v (omega (arith, scaled_long f c u));
        elements = λ ev eu. rw made (plus_elements f laws v cu ev (scaled_elements f laws c u));
        stays = λ o z.
            ap (λ l. get_or l o 0) made ∙ plus_reads v cu o ∙ ap (bit_xor (get_or v o 0)) (scaled_reads f laws c u o ∙ ap (f.times c) z ∙ times_zero f laws c)
            ∙ xor_zero_r (get_or v o 0);
        keeps = λ e zu zv. value e ∙ ap₂ bit_xor zv (ap (f.times c) zu ∙ times_zero f laws c);
        killed = value j ∙ ap (bit_xor a) back ∙ xor_self a;
      }
    where
      a : ℕ
      a = weighed f v S j

      b : ℕ
      b = weighed f u S j

      c : ℕ
      c = f.times a (f.inverse b)

      cu : List ℕ
      cu = scaled f c u

      value : (e : ℕ) → weighed f v' S e ≡ bit_xor (weighed f v S e) (f.times c (weighed f u S e))
      value e =
          ap (λ l. weighed f l S e) made ∙ weighed-plus f laws v cu S e ∙ ap (bit_xor (weighed f v S e)) (weighed-scaled f laws c u S e)

      -- (a/b)·b = a
      back : f.times c b ≡ a
      back =
          let some : 0 < b % f.size = rw (mod-eq_of_lt (weighed_below u S j)) off in
          laws.associative a (f.inverse b) b ∙ ap (f.times a) (laws.commutative (f.inverse b) b ∙ laws.inverts b some)
          ∙ times_one f laws a (weighed_below v S j)

  module _ {S : ℕ → ℕ} {w n m j : ℕ} {R R' : ℕ → List ℕ} (before : Solutions f S w n j R) (fewer : n ≡ m + 1) (p : ℕ) (in_p : p ≤ m) where
    -- Vector p leaves. New vector k comes from vector σ k, never from p and no two from one.
    one_fewer : (σ : ℕ → ℕ)
        → ((k : ℕ) → k < m → (σ k ≤ m) × ¬ (σ k ≡ p))
        → ((i k : ℕ) → i < m → k < m → σ i ≡ σ k → i ≡ k)
        → ((k : ℕ) → k < m → Mixed S j (R p) (R (σ k)) (R' k))
        → Solutions f S w m (j + 1) R'
    one_fewer σ from apart mixed =
        record {
          long = λ k h. (mixed k h).long ∙ before.long (σ k) (within k h);
          elements = λ k h. (mixed k h).elements (before.elements (σ k) (within k h)) (before.elements p (omega arith));
          own = own;
          killed = λ k h e l. killed k h e (cases_lt e j) l;
        }
      where
        within : (k : ℕ) → k < m → σ k < n
        within k h = omega (arith, (from k h).0)

        own : (k : ℕ) → k < m → (o : ℕ) × (o < w) × (get_or (R' k) o 0 ≡ 1) × ((i : ℕ) → i < m → ¬ (i ≡ k) → get_or (R' i) o 0 ≡ 0)
        own k h =
            let was = before.own (σ k) (within k h) in
            let none : get_or (R p) was.0 0 ≡ 0 = was.3 p (omega arith) (λ e. (from k h).1 (sym e)) in (
              was.0,
              was.1,
              (mixed k h).stays was.0 none ∙ was.2,
              λ i l other. (mixed i l).stays was.0 none ∙ was.3 (σ i) (within i l) (λ e. other (apart i k l h e)),
            )

        killed : (k : ℕ) → k < m → (e : ℕ) → (e < j) ⊎ (j ≤ e) → e < j + 1 → weighed f (R' k) S e ≡ 0
        killed k h e (inl l) _ = (mixed k h).keeps e (before.killed p (omega arith) e l) (before.killed (σ k) (within k h) e l)
        killed k h e (inr g) l = let now : e ≡ j = omega arith in ap (weighed f (R' k) S) now ∙ (mixed k h).killed

    -- Vector p does not meet the equation, and those before it do. The last vector takes its place, and those from there on are
    -- cleared by it.
    pub pivoted : {R₁ : ℕ → List ℕ} → 0 < weighed f (R p) S j → ((k : ℕ) → k < p → weighed f (R k) S j ≡ 0)
        → R₁ p ≡ R m → ((k : ℕ) → ¬ (k ≡ p) → R₁ k ≡ R k)
        → ((k : ℕ) → k < p → R' k ≡ R₁ k) → ((k : ℕ) → p ≤ k → k < m → R' k ≡ cleared f S j (R p) (R₁ k))
        → Solutions f S w m (j + 1) R'
    pivoted {R₁} off met here else front rest = one_fewer σ from apart (λ k h. mixed k h (cases_lt k p) (which k))
      where
        σ : ℕ → ℕ
        σ = moved m p

        which : (k : ℕ) → ((k ≡ p) × (σ k ≡ m)) ⊎ (¬ (k ≡ p) × (σ k ≡ k))
        which = moved_which m p

        from : (k : ℕ) → k < m → (σ k ≤ m) × ¬ (σ k ≡ p)
        from k h = go (which k)
          where
            go : ((k ≡ p) × (σ k ≡ m)) ⊎ (¬ (k ≡ p) × (σ k ≡ k)) → (σ k ≤ m) × ¬ (σ k ≡ p)
            go (inl e) = (omega arith, λ x. omega arith)
            go (inr e) = (omega arith, λ x. e.0 (sym e.1 ∙ x))

        apart : (i k : ℕ) → i < m → k < m → σ i ≡ σ k → i ≡ k
        apart i k h l same = go (which i) (which k)
          where
            go : ((i ≡ p) × (σ i ≡ m)) ⊎ (¬ (i ≡ p) × (σ i ≡ i)) → ((k ≡ p) × (σ k ≡ m)) ⊎ (¬ (k ≡ p) × (σ k ≡ k)) → i ≡ k
            go (inl a) (inl b) = omega arith
            go (inl a) (inr b) = omega arith
            go (inr a) (inl b) = omega arith
            go (inr a) (inr b) = omega arith

        mixed : (k : ℕ) → k < m → (k < p) ⊎ (p ≤ k) → ((k ≡ p) × (σ k ≡ m)) ⊎ (¬ (k ≡ p) × (σ k ≡ k)) → Mixed S j (R p) (R (σ k)) (R' k)
        mixed k h (inl less) (inl e) = absurd (omega arith)
        mixed k h (inl less) (inr e) =
            mixed_same S j (R p) (R (σ k)) (R' k) (front k less ∙ else k e.0 ∙ ap R (sym e.1)) (ap (λ i. weighed f (R i) S j) e.1 ∙ met k less)
        mixed k h (inr past) either =
            mixed_cleared S j (R p) (R (σ k)) (R' k) (rest k past h ∙ ap (cleared f S j (R p)) (source either))
            (before.long p (omega arith) ∙ sym (before.long (σ k) (omega (arith, (from k h).0)))) off
          where
            source : ((k ≡ p) × (σ k ≡ m)) ⊎ (¬ (k ≡ p) × (σ k ≡ k)) → R₁ k ≡ R (σ k)
            source (inl e) = ap R₁ e.0 ∙ here ∙ ap R (sym e.1)
            source (inr e) = else k e.0 ∙ ap R (sym e.1)

  -- all vectors meet the equation: the last one leaves
  pub all_meet : {S : ℕ → ℕ} {w n m j : ℕ} {R : ℕ → List ℕ} → Solutions f S w n j R → n ≡ m + 1 → ((k : ℕ) → k < n → weighed f (R k) S j ≡ 0)
      → Solutions f S w m (j + 1) R
  all_meet {S} {w} {n} {m} {j} {R} before fewer met =
      one_fewer before fewer m (omega arith) (λ k. k) (λ k h. (omega arith, λ e. omega arith)) (λ i k h l e. e)
      (λ k h. mixed_same S j (R m) (R k) (R k) refl (met k (omega arith)))

  -- the unit vectors, before the first equation
  pub units : {S : ℕ → ℕ} {w m n : ℕ} {R : ℕ → List ℕ} → w ≡ n → m ≡ n → ((i : ℕ) → i < n → R i ≡ set (zeros n) i 1) → Solutions f S w m 0 R
  units {S} {w} {m} {n} {R} wide all each =
      record {
        long = λ i h. ap length (each i (omega arith)) ∙ length-set (zeros n) i 1 ∙ zeros_long n ∙ sym wide;
        elements = λ i h. rw (each i (within i h)) (elements i (within i h));
        own = λ i h. (
          i,
          omega arith,
          ap (λ l. get_or l i 0) (each i (within i h)) ∙ one i (within i h),
          λ k l ne. ap (λ r. get_or r i 0) (each k (within k l)) ∙ none i k (λ e. ne (sym e)),
        );
        killed = λ i h e l. absurd (omega arith);
      }
    where
      within : (i : ℕ) → i < m → i < n
      within i h = omega arith

      one : (i : ℕ) → i < n → get_or (set (zeros n) i 1) i 0 ≡ 1
      one i h = get_or-set_same (zeros n) i 1 0 (omega (arith, zeros_long n))

      none : (o i : ℕ) → ¬ (o ≡ i) → get_or (set (zeros n) i 1) o 0 ≡ 0
      none o i ne = get_or-set_other (zeros n) i o 1 0 ne ∙ zeros_read n o

      elements : (i : ℕ) → i < n → Elements f (set (zeros n) i 1)
      elements i h k = go (cases_eq k i)
        where
          go : (k ≡ i) ⊎ ¬ (k ≡ i) → get_or (set (zeros n) i 1) k 0 < f.size
          go (inl e) = rw (ap (λ o. get_or (set (zeros n) i 1) o 0) e ∙ one i h) (one_element f laws)
          go (inr ne) = rw (none k i ne) (zero_element f laws)

  -- the last vector, after t equations
  pub found : {S : ℕ → ℕ} {w m j : ℕ} {R : ℕ → List ℕ} → Solutions f S w m j R → m ≡ 1 → w ≡ j + 1 → Locating f S (R 0)
  found {S} {w} {m} {j} {R} last one all =
      let own = last.own 0 (omega arith) in
      let long = last.long 0 (omega arith) in
      record {
        elements = last.elements 0 (omega arith);
        some = (own.0, omega (arith, own.1), omega (arith, own.2));
        killed = λ e h. last.killed 0 (omega arith) e (omega arith);
      }
