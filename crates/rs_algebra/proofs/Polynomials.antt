-- Values of polynomials, highest power first. Assumes nothing.
use Rattle.std.proofs.Common.{◌≡◌, ℕ, zero, suc, ◌+◌, ◌-◌, ◌<◌, List, [], ◌∷◌, ◌++◌, length, sym, refl, ◌∙◌, ap₂, arith, length-append}
use lib.Bits.{bit_xor, xor_assoc, xor_zero_r}
use Rattle.field.specs.Field.{Field, Laws, raised}
use Rattle.rs_algebra.specs.Polynomials.{Elements, zeros, plus, scaled, product}
use Rattle.field.specs.Polynomials.{value_at}
use Rattle.field.specs.Sums.{xor_four}
use Rattle.field.proofs.Facts.{zero_element, times_zero, zero_times, times_right, times_one, raised_add}
use Rattle.rs_algebra.proofs.Lists.{zeros_long, plus_long, scaled_long, plus_elements, zeros_elements, scaled_elements, joined_elements, append_elements}

module _ (f : Field) (laws : Laws f) where
  pub value_below : (p : List ℕ) (x : ℕ) → value_at f p x < f.size
  unfolding value_at
  value_below [] x = zero_element f laws
  value_below (c ∷ p) x =
      laws.sum_below (f.times c (raised f.times x (length p))) (value_at f p x) (laws.times_below c (raised f.times x (length p))) (value_below p x)

  pub value_zeros : (n x : ℕ) → value_at f (zeros n) x ≡ 0
  unfolding value_at
  value_zeros zero x = refl
  value_zeros (suc n) x = simp (zero_times f laws, value_zeros n x)

  pub value_plus : (p q : List ℕ) (x : ℕ) → length p ≡ length q → value_at f (plus p q) x ≡ bit_xor (value_at f p x) (value_at f q x)
  unfolding plus value_at
  value_plus [] [] x h = refl
  value_plus [] (d ∷ q) x h = absurd (omega arith)
  value_plus (c ∷ p) [] x h = absurd (omega arith)
  value_plus (c ∷ p) (d ∷ q) x h =
      let long : length p ≡ length q = omega arith in
      let n : length (plus p q) ≡ length q = plus_long p q (omega arith) in
      rw (n, long, value_plus p q x long, times_right f laws c d (raised f.times x (length q)))
      (xor_four (f.times c (raised f.times x (length q))) (f.times d (raised f.times x (length q))) (value_at f p x) (value_at f q x))

  pub value_scaled : (c : ℕ) (p : List ℕ) (x : ℕ) → value_at f (scaled f c p) x ≡ f.times c (value_at f p x)
  unfolding scaled value_at
  value_scaled c [] x = sym (times_zero f laws c)
  value_scaled c (d ∷ p) x =
      rw (
        scaled_long f c p,
        value_scaled c p x,
        laws.distributive c (f.times d (raised f.times x (length p))) (value_at f p x),
        laws.associative c d (raised f.times x (length p)),
      )

  pub value_append : (p q : List ℕ) (x : ℕ) → value_at f (p ++ q) x ≡ bit_xor (f.times (value_at f p x) (raised f.times x (length q))) (value_at f q x)
  unfolding value_at
  value_append [] q x = rw (zero_times f laws (raised f.times x (length q)))
  value_append (c ∷ p) q x =
      rw (
        length-append p q,
        value_append p q x,
        times_right f laws (f.times c (raised f.times x (length p))) (value_at f p x) (raised f.times x (length q)),
        laws.associative c (raised f.times x (length p)) (raised f.times x (length q)),
        raised_add f laws x (length p) (length q),
      )
      (sym (xor_assoc (f.times c (raised f.times x (length p + length q))) (f.times (value_at f p x) (raised f.times x (length q))) (value_at f q x)))

  -- zeros in front change nothing
  pub value_front : (n : ℕ) (p : List ℕ) (x : ℕ) → value_at f (zeros n ++ p) x ≡ value_at f p x
  value_front n p x = value_append (zeros n) p x ∙ simp (value_zeros n x, zero_times f laws)

  -- one more coefficient at the low end: a step of Horner's rule
  pub value_more : (p : List ℕ) (c x : ℕ) → c < f.size → value_at f (p ++ c ∷ []) x ≡ bit_xor (f.times (value_at f p x) x) c
  unfolding value_at raised
  value_more p c x h =
      value_append p (c ∷ []) x
      ∙ ap₂ bit_xor (sym (laws.associative (value_at f p x) x 1) ∙ times_one f laws (f.times (value_at f p x) x) (laws.times_below (value_at f p x) x))
      (xor_zero_r (f.times c 1) ∙ times_one f laws c h)

  -- the product's length, coefficients and value
  pub product_long : (p q : List ℕ) → 0 < length q → length (product f p q) + 1 ≡ length p + length q
  unfolding product
  product_long [] q h = omega (arith, zeros_long (length q - 1))
  product_long (c ∷ p) q h =
      let ih = product_long p q h in
      let front : length (scaled f c q ++ zeros (length p)) ≡ length q + length p
      = length-append (scaled f c q) (zeros (length p)) ∙ ap₂ ◌+◌ (scaled_long f c q) (zeros_long (length p)) in
      omega (arith, ih, plus_long (scaled f c q ++ zeros (length p)) (0 ∷ product f p q) (omega arith))

  pub product_elements : (p q : List ℕ) → Elements f (product f p q)
  unfolding product
  product_elements [] q = zeros_elements f laws (length q - 1)
  product_elements (c ∷ p) q =
      plus_elements f laws (scaled f c q ++ zeros (length p)) (0 ∷ product f p q)
      (append_elements f laws (scaled f c q) (zeros (length p)) (scaled_elements f laws c q) (zeros_elements f laws (length p)))
      (joined_elements f laws 0 (product f p q) (zero_element f laws) (product_elements p q))

  pub value_product : (p q : List ℕ) (x : ℕ) → 0 < length q → value_at f (product f p q) x ≡ f.times (value_at f p x) (value_at f q x)
  unfolding product value_at
  value_product [] q x h = value_zeros (length q - 1) x ∙ sym (zero_times f laws (value_at f q x))
  value_product (c ∷ p) q x h =
      let front : length (scaled f c q ++ zeros (length p)) ≡ length q + length p
      = length-append (scaled f c q) (zeros (length p)) ∙ ap₂ ◌+◌ (scaled_long f c q) (zeros_long (length p)) in
      let long : length (scaled f c q ++ zeros (length p)) ≡ suc (length (product f p q))
      = omega (arith, front, product_long p q h) in
      value_plus (scaled f c q ++ zeros (length p)) (0 ∷ product f p q) x long
      ∙ simp (
        value_append (scaled f c q) (zeros (length p)) x,
        zeros_long,
        value_zeros,
        value_scaled,
        value_product p q x h,
        zero_times f laws,
        xor_zero_r,
        times_right f laws,
        laws.associative,
        laws.commutative (value_at f q x) (raised f.times x (length p)),
      )
