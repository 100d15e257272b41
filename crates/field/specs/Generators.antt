-- Powers and logarithms: a test computed over their whole tables makes a reduced product a field. Assumes nothing.
use Rattle.std.specs.Prelude.{◌≡◌, ℕ, zero, suc, ◌+◌, ◌-◌, ◌%◌, ◌^◌, ◌<◌, ◌≤◌, Bool, true, cond, ◌&&◌, List, [], ◌∷◌, map, length, drop, ◌==◌, nat_lt, slice_index, slice_index_or}
use Rattle.std.proofs.Math.Path.{refl, sym, ap}
use Rattle.std.proofs.Common.{◌∙◌, arith, pow_mono}
use Rattle.std.proofs.lemmas.List.{length-drop, length-map, get_or-drop}
use Rattle.std.proofs.lemmas.Nat.{mod_below, xor_lt}
use Rattle.field.specs.Sums.{linear_zero}
use Rattle.std.proofs.lemmas.Bool.{and_parts, eqb-true, ltb-true}
use Rattle.field.specs.Field.{Laws, raised, power}
use Rattle.field.specs.Binary.{binary, reduced_times, reduced_inverse}
use Rattle.field.specs.Products as product
use Rattle.field.specs.Powers.{Product, times_power, once, one_first, power_below, power_add, power_of_order}

-- p, next p, next (next p) and so on
unfoldable pub listed : (ℕ → ℕ) → (count p : ℕ) → List ℕ
listed next zero p = []
listed next (suc count) p = p ∷ listed next count (next p)

-- where x stands in a list; its length if it does not
unfoldable pub index_of : ℕ → List ℕ → ℕ
index_of x [] = 0
index_of x (y ∷ ys) = cond (x == y) 0 (suc (index_of x ys))

-- the powers 0 to n-2 of alpha, and the logarithms of 0 to n-1
unfoldable pub power_table : (k r alpha : ℕ) → List ℕ
power_table k r alpha = listed (reduced_times k r alpha) (2 ^ k - 1) 1

unfoldable pub log_table : (k r alpha : ℕ) → List ℕ
log_table k r alpha = map (λ a. index_of a (power_table k r alpha)) (listed suc (2 ^ k) 0)

-- entry i of the powers has the logarithm i
unfoldable pub logged : List ℕ → ℕ → List ℕ → Bool
logged logs i [] = true
logged logs i (x ∷ xs) = slice_index logs x == i && logged logs (suc i) xs

-- entry a of the logarithms is below the number of powers, and the power there is a
unfoldable pub undone : List ℕ → ℕ → List ℕ → Bool
undone powers a [] = true
undone powers a (l ∷ ls) = nat_lt l (length powers) && (slice_index powers l == a && undone powers (suc a) ls)

listed-length : (next : ℕ → ℕ) (count p : ℕ) → length (listed next count p) ≡ count
unfolding listed
listed-length next zero p = refl
listed-length next (suc count) p = ap suc (listed-length next count (next p))

listed_at : (times : ℕ → ℕ → ℕ) (alpha count p i : ℕ) → i < count
    → slice_index (listed (times alpha) count p) i ≡ times_power times p alpha i
unfolding listed times_power
listed_at times alpha zero p i h = absurd (omega arith)
listed_at times alpha (suc count) p zero h = refl
listed_at times alpha (suc count) p (suc i) h =
    listed_at times alpha count (times alpha p) i (omega (arith, h)) ∙ one_first times p alpha i

logged_at : (logs : List ℕ) (i : ℕ) (xs : List ℕ) → logged logs i xs ≡ true
    → (j : ℕ) → j < length xs → slice_index logs (slice_index xs j) ≡ i + j
unfolding logged
logged_at logs i [] test j h = absurd (omega arith)
logged_at logs i (x ∷ xs) test zero h = omega (arith, eqb-true (slice_index logs x) i (and_parts _ _ test).0)
logged_at logs i (x ∷ xs) test (suc j) h = omega (arith, logged_at logs (suc i) xs (and_parts _ _ test).1 j (omega (arith, h)))

undone_at : (powers : List ℕ) (a : ℕ) (ls : List ℕ) → undone powers a ls ≡ true → (j : ℕ) → j < length ls
    → (slice_index ls j < length powers) × (slice_index powers (slice_index ls j) ≡ a + j)
unfolding undone
undone_at powers a [] test j h = absurd (omega arith)
undone_at powers a (l ∷ ls) test zero h =
    let parts = and_parts (nat_lt l (length powers)) (slice_index powers l == a && undone powers (suc a) ls) test in
    let there : slice_index_or powers l 0 ≡ a = eqb-true (slice_index powers l) a (and_parts (slice_index powers l == a) (undone powers (suc a) ls) parts.1).0 in
    (ltb-true l (length powers) parts.0, omega (arith, there))
undone_at powers a (l ∷ ls) test (suc j) h =
    let parts = and_parts (nat_lt l (length powers)) (slice_index powers l == a && undone powers (suc a) ls) test in
    let last = (and_parts (slice_index powers l == a) (undone powers (suc a) ls) parts.1).1 in
    let rest = undone_at powers (suc a) ls last j (omega (arith, h)) in
    (rest.0, omega (arith, rest.1))

-- What is to be tested of k, r and alpha, by computing the tables.
pub record Generates (k r alpha : ℕ) : Type 0 where
  pub least : 2 ≤ k
  pub most : k ≤ 8
  pub fits : r < 2 ^ k
  pub alpha_fits : alpha < 2 ^ k
  pub around : raised (reduced_times k r) alpha (2 ^ k - 1) ≡ 1
  pub logs_right : logged (log_table k r alpha) 0 (power_table k r alpha) ≡ true
  pub powers_right : undone (power_table k r alpha) 1 (drop 1 (log_table k r alpha)) ≡ true

module _ {k r alpha : ℕ} (t : Generates k r alpha) where
  some : 1 ≤ k
  some = omega (arith, t.least)

  size_least : 4 ≤ 2 ^ k
  size_least = pow_mono {i = 2} t.least

  size_most : 2 ^ k ≤ 256
  size_most = pow_mono {j = 8} t.most

  times_below : (a b : ℕ) → reduced_times k r a b < 2 ^ k
  times_below = product.times_below some t.fits

  neutral : (a : ℕ) → a < 2 ^ k → reduced_times k r 1 a ≡ a
  neutral = product.neutral some t.fits

  associative : (a b c : ℕ) → reduced_times k r (reduced_times k r a b) c ≡ reduced_times k r a (reduced_times k r b c)
  associative = product.associative some t.fits

  commutative : (a b : ℕ) → reduced_times k r a b ≡ reduced_times k r b a
  commutative = product.commutative some t.fits

  pub raisable : Product (2 ^ k) (reduced_times k r)
  raisable = record { some = omega (arith, size_least); below = times_below; associative = associative; neutral = neutral }

  many : length (power_table k r alpha) ≡ 2 ^ k - 1
  unfolding power_table
  many = listed-length (reduced_times k r alpha) (2 ^ k - 1) 1

  logs_many : length (log_table k r alpha) ≡ 2 ^ k
  unfolding log_table
  logs_many = length-map (listed suc (2 ^ k) 0) (λ a. index_of a (power_table k r alpha)) ∙ listed-length suc (2 ^ k) 0

  pub power_at : (i : ℕ) → i < 2 ^ k - 1 → slice_index (power_table k r alpha) i ≡ power (binary k r alpha) i
  unfolding power_table
  power_at i h = listed_at (reduced_times k r) alpha (2 ^ k - 1) 1 i h ∙ once (reduced_times k r) alpha i

  pub log_of_power : (i : ℕ) → i < 2 ^ k - 1 → slice_index (log_table k r alpha) (power (binary k r alpha) i) ≡ i
  log_of_power i h =
      ap (λ x. slice_index (log_table k r alpha) x) (sym (power_at i h))
      ∙ logged_at (log_table k r alpha) 0 (power_table k r alpha) t.logs_right i (omega (arith, many, h)) ∙ omega arith

  pub power_of_log : (a : ℕ) → 0 < a → a < 2 ^ k
      → (slice_index (log_table k r alpha) a < 2 ^ k - 1) × (power (binary k r alpha) (slice_index (log_table k r alpha) a) ≡ a)
  power_of_log zero h below = absurd (omega arith)
  power_of_log (suc a) h below =
      let logs : List ℕ = log_table k r alpha in
      let powers : List ℕ = power_table k r alpha in
      let left : length (drop 1 logs) ≡ length logs - 1 = length-drop 1 logs in
      let found = undone_at powers 1 (drop 1 logs) t.powers_right a (omega (arith, below, left, logs_many)) in
      let there : slice_index_or (drop 1 logs) a 0 ≡ slice_index_or logs (suc a) 0 = get_or-drop 1 logs a 0 ∙ ap (λ x. slice_index logs x) (omega arith) in
      let low : slice_index_or logs (suc a) 0 < 2 ^ k - 1 = omega (arith, found.0, there, many) in
      let is : slice_index_or powers (slice_index (drop 1 logs) a) 0 ≡ suc a = found.1 ∙ omega arith in
      (low, sym (power_at (slice_index logs (suc a)) low) ∙ ap (λ x. slice_index powers x) (sym there) ∙ is)

  -- the powers come round again after n-1 steps
  pub powers_around : (i : ℕ) → power (binary k r alpha) (2 ^ k - 1 + i) ≡ power (binary k r alpha) i
  powers_around i =
      sym (power_add raisable alpha (2 ^ k - 1) i) ∙ ap (λ x. reduced_times k r x (raised (reduced_times k r) alpha i)) t.around
      ∙ neutral (raised (reduced_times k r) alpha i) (power_below raisable alpha i)

  pub powers_add : (i j : ℕ) → reduced_times k r (power (binary k r alpha) i) (power (binary k r alpha) j) ≡ power (binary k r alpha) (i + j)
  powers_add i j = power_add raisable alpha i j

  -- every element but 0 has the power n-1 equal to 1
  whole_power : (a : ℕ) → 0 < a → a < 2 ^ k → raised (reduced_times k r) a (2 ^ k - 1) ≡ 1
  whole_power a h below =
      let log = power_of_log a h below in
      ap (λ x. raised (reduced_times k r) x (2 ^ k - 1)) (sym log.1)
      ∙ power_of_order raisable alpha (2 ^ k - 1) (slice_index (log_table k r alpha) a) t.around

  pub powers_differ : (i j : ℕ) → i < 2 ^ k - 1 → j < 2 ^ k - 1 → power (binary k r alpha) i ≡ power (binary k r alpha) j → i ≡ j
  powers_differ i j hi hj same = sym (log_of_power i hi) ∙ ap (λ x. slice_index (log_table k r alpha) x) same ∙ log_of_power j hj

  element : (a : ℕ) → a % 2 ^ k < 2 ^ k
  element a = mod_below a (2 ^ k) (omega (arith, size_least))

  inverse_below : (a : ℕ) → reduced_inverse k r a < 2 ^ k
  unfolding reduced_inverse
  inverse_below a = power_below raisable a (2 ^ k - 2)

  stands : (a j : ℕ) → raised (reduced_times k r) (a % 2 ^ k) j ≡ raised (reduced_times k r) a j
  unfolding raised
  stands a zero = refl
  stands a (suc j) =
      product.remainder_stands some t.fits a (raised (reduced_times k r) (a % 2 ^ k) j) ∙ ap (reduced_times k r a) (stands a j)

  inverts : (a : ℕ) → 0 < a % 2 ^ k → reduced_times k r a (reduced_inverse k r a) ≡ 1
  unfolding reduced_inverse raised
  inverts a h =
      let one_more : suc (2 ^ k - 2) ≡ 2 ^ k - 1 = omega (arith, size_least) in
      ap (raised (reduced_times k r) a) one_more ∙ sym (stands a (2 ^ k - 1)) ∙ whole_power (a % 2 ^ k) h (element a)

  nothing_inverts : (a : ℕ) → a % 2 ^ k ≡ 0 → reduced_inverse k r a ≡ 0
  unfolding reduced_inverse raised
  nothing_inverts a none =
      let one_more : 2 ^ k - 2 ≡ suc (2 ^ k - 3) = omega (arith, size_least) in
      ap (raised (reduced_times k r) a) one_more ∙ nothing (raised (reduced_times k r) a (2 ^ k - 3))
    where
      nothing : (x : ℕ) → reduced_times k r a x ≡ 0
      nothing x =
          sym (product.remainder_stands some t.fits a x) ∙ ap (λ y. reduced_times k r y x) none ∙ commutative 0 x
          ∙ linear_zero (reduced_times k r x) (product.distributive some t.fits x)

  pub laws : Laws (binary k r alpha)
  laws = record {
    at_least_four = size_least;
    at_most_octets = size_most;
    sum_below = xor_lt k;
    times_below = times_below;
    remainder_stands = product.remainder_stands some t.fits;
    associative = associative;
    commutative = commutative;
    distributive = product.distributive some t.fits;
    neutral = neutral;
    inverse_below = inverse_below;
    inverts = inverts;
    nothing_inverts = nothing_inverts;
    alpha_below = t.alpha_fits;
    every_power = λ a h below. (slice_index (log_table k r alpha) a, (power_of_log a h below).0, (power_of_log a h below).1);
    powers_differ = powers_differ;
  }
