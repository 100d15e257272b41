-- Polynomials lowest power first: values, and the product by x + a. Assumes nothing.
use Rattle.std.proofs.Common.{◌≡◌, ℕ, zero, suc, ◌+◌, ◌<◌, ◌≤◌, ◌⊎◌, List, [], ◌∷◌, length, get_or, sym, refl, ap, ◌∙◌, inl, inr, arith}
use lib.Bits.{bit_xor, xor_comm, xor_self, xor_zero_r}
use Rattle.std.proofs.lemmas.Bool.{cases_lt}
use Rattle.field.specs.Field.{Field, Laws}
use Rattle.rs_algebra.specs.Polynomials.{Elements, plus, scaled, low_at, times_root}
use Rattle.field.specs.Sums.{xor_same, xor_four}
use Rattle.field.proofs.Facts.{zero_element, times_zero, zero_times, times_left, times_right, product_some}
use Rattle.rs_algebra.proofs.Lists.{plus_reads, plus_long, scaled_long, scaled_elements, plus_elements, joined_elements}

module _ (f : Field) (laws : Laws f) where
  pub low_below : (l : List ℕ) (x : ℕ) → Elements f l → low_at f l x < f.size
  unfolding low_at
  low_below [] x e = zero_element f laws
  low_below (c ∷ l) x e = laws.sum_below c (f.times x (low_at f l x)) (e 0) (laws.times_below x (low_at f l x))

  pub low_plus : (p q : List ℕ) (x : ℕ) → low_at f (plus p q) x ≡ bit_xor (low_at f p x) (low_at f q x)
  unfolding low_at plus
  low_plus [] q x = refl
  low_plus (c ∷ p) [] x = sym (xor_zero_r (low_at f (c ∷ p) x))
  low_plus (c ∷ p) (d ∷ q) x =
      ap (λ y. bit_xor (bit_xor c d) (f.times x y)) (low_plus p q x)
      ∙ ap (bit_xor (bit_xor c d)) (laws.distributive x (low_at f p x) (low_at f q x))
      ∙ xor_four c d (f.times x (low_at f p x)) (f.times x (low_at f q x))

  pub low_scaled : (c : ℕ) (l : List ℕ) (x : ℕ) → low_at f (scaled f c l) x ≡ f.times c (low_at f l x)
  unfolding low_at scaled
  low_scaled c [] x = sym (times_zero f laws c)
  low_scaled c (d ∷ l) x =
      ap (λ y. bit_xor (f.times c d) (f.times x y)) (low_scaled c l x)
      ∙ ap (bit_xor (f.times c d)) (times_left f laws x c (low_at f l x))
      ∙ sym (laws.distributive c d (f.times x (low_at f l x)))

  pub scaled_reads : (c : ℕ) (l : List ℕ) (k : ℕ) → get_or (scaled f c l) k 0 ≡ f.times c (get_or l k 0)
  unfolding scaled
  scaled_reads c [] k = sym (times_zero f laws c)
  scaled_reads c (d ∷ l) zero = refl
  scaled_reads c (d ∷ l) (suc k) = scaled_reads c l k

  -- the product by x + a
  pub root_long : (a : ℕ) (l : List ℕ) → length (times_root f a l) ≡ length l + 1
  unfolding times_root
  root_long a l = omega (arith, plus_long (scaled f a l) (0 ∷ l) (omega (arith, scaled_long f a l)))

  pub root_elements : (a : ℕ) (l : List ℕ) → Elements f l → Elements f (times_root f a l)
  unfolding times_root
  root_elements a l e =
      plus_elements f laws (scaled f a l) (0 ∷ l) (scaled_elements f laws a l) (joined_elements f laws 0 l (zero_element f laws) e)

  pub root_first : (a : ℕ) (l : List ℕ) → get_or (times_root f a l) 0 0 ≡ f.times a (get_or l 0 0)
  unfolding times_root
  root_first a l = plus_reads (scaled f a l) (0 ∷ l) 0 ∙ xor_zero_r (get_or (scaled f a l) 0 0) ∙ scaled_reads a l 0

  pub root_next : (a : ℕ) (l : List ℕ) (k : ℕ) → get_or (times_root f a l) (suc k) 0 ≡ bit_xor (f.times a (get_or l (suc k) 0)) (get_or l k 0)
  unfolding times_root
  root_next a l k = plus_reads (scaled f a l) (0 ∷ l) (suc k) ∙ ap (λ y. bit_xor y (get_or l k 0)) (scaled_reads a l (suc k))

  pub root_value : (a : ℕ) (l : List ℕ) (x : ℕ) → low_at f (times_root f a l) x ≡ f.times (bit_xor x a) (low_at f l x)
  unfolding times_root low_at
  root_value a l x =
      low_plus (scaled f a l) (0 ∷ l) x
      ∙ ap (λ y. bit_xor y (f.times x (low_at f l x))) (low_scaled a l x)
      ∙ xor_comm (f.times a (low_at f l x)) (f.times x (low_at f l x))
      ∙ sym (times_right f laws x a (low_at f l x))

  pub root_here : (a : ℕ) (l : List ℕ) → low_at f (times_root f a l) a ≡ 0
  root_here a l = root_value a l a ∙ ap (λ y. f.times y (low_at f l a)) (xor_self a) ∙ zero_times f laws (low_at f l a)

  pub root_stays : (a : ℕ) (l : List ℕ) (x : ℕ) → low_at f l x ≡ 0 → low_at f (times_root f a l) x ≡ 0
  root_stays a l x e = root_value a l x ∙ ap (f.times (bit_xor x a)) e ∙ times_zero f laws (bit_xor x a)

  pub root_elsewhere : (a : ℕ) (l : List ℕ) (x : ℕ) → a < f.size → x < f.size → ¬ (x ≡ a) → Elements f l → 0 < low_at f l x → 0 < low_at f (times_root f a l) x
  root_elsewhere a l x ha hx other e some =
      rw (root_value a l x) (product_some f laws (bit_xor x a) (low_at f l x) apart (laws.sum_below x a hx ha) some (low_below l x e))
    where
      apart : 0 < bit_xor x a
      apart = go (cases_lt 0 (bit_xor x a))
        where
          go : (0 < bit_xor x a) ⊎ (bit_xor x a ≤ 0) → 0 < bit_xor x a
          go (inl h) = h
          go (inr h) = absurd (other (xor_same x a (omega arith)))
