-- The line places of a word's octets: none is shared, each word lies as word 0 does, and a place tells its octet.
-- Assumes nothing.
use Rattle.std.proofs.Common.{◌≡◌, ℕ, suc, ◌+◌, ◌-◌, ◌*◌, ◌/◌, ◌%◌, ◌<◌, ◌≤◌, sym, ap, ◌∙◌, ap₂, mul-le-mul_right, mod-lt, mul_assoc, suc-mul, mul_comm, div-lt_iff_lt-mul, add-mul, mul-le-mul_left, mul-zero, div-add-mod', zero-add, zero-mul, arith}
use native.Mathlib.Nat.{zero-div, zero-mod}
use lib.Arith.{digits_div, digits_lt, digits_mod}
use Rattle.places.specs.Line.{Plan, Lies, place}
use Rattle.places.proofs.Tallies.{Apart}

-- the relations between the numbers that places on the line rest on
pub record Laid (p : Plan) : Type 0 where
  pub some : 0 < p.block
  pub whole : p.parts * p.block ≡ p.word
  pub spans : p.reach ≡ p.step * p.block * (p.block - 1) + p.word

module _ {p : Plan} (laid : Laid p) where
  branch_lt : (n : ℕ) → n % p.block < p.block
  branch_lt n = mod-lt n laid.some

  pub part_lt : (n : ℕ) → n < p.word → n / p.block < p.parts
  part_lt n h = (div-lt_iff_lt-mul laid.some).1 (rw laid.whole h)

  -- a place tells the branch and the line block that it stands in
  pub branch_of : (c n : ℕ) → place p c n % p.block ≡ n % p.block
  unfolding place
  branch_of c n = digits_mod (c * p.parts + n / p.block + p.step * (n % p.block)) (branch_lt n)

  pub row_of : (c n : ℕ) → place p c n / p.block ≡ c * p.parts + n / p.block + p.step * (n % p.block)
  unfolding place
  row_of c n = digits_div (c * p.parts + n / p.block + p.step * (n % p.block)) (branch_lt n)

  -- no two octets of a word share a place
  pub apart : (c n : ℕ) → Apart (place p c) n
  apart c n m k _ _ e =
      let j : m % p.block ≡ k % p.block = sym (branch_of c m) ∙ ap (λ x. x % p.block) e ∙ branch_of c k in
      let r : c * p.parts + m / p.block + p.step * (m % p.block) ≡ c * p.parts + k / p.block + p.step * (k % p.block)
      = sym (row_of c m) ∙ ap (λ x. x / p.block) e ∙ row_of c k in
      let s : p.step * (m % p.block) ≡ p.step * (k % p.block) = ap (λ x. p.step * x) j in
      let b : m / p.block ≡ k / p.block = omega arith in
      sym (div-add-mod' m p.block) ∙ ap₂ (λ x y. x * p.block + y) b j ∙ div-add-mod' k p.block

  -- word c lies as word 0 does, c words further on
  pub moved : (c n : ℕ) → place p c n ≡ c * p.word + place p 0 n
  unfolding place
  moved c n =
      let k = n / p.block in
      let d = p.step * (n % p.block) in
      let w : c * p.parts * p.block ≡ c * p.word = mul_assoc c p.parts p.block ∙ ap (λ x. c * x) laid.whole in
      omega (
        arith,
        w,
        add-mul (c * p.parts + k) d p.block,
        add-mul (c * p.parts) k p.block,
        add-mul (0 * p.parts + k) d p.block,
        add-mul (0 * p.parts) k p.block,
        zero-mul p.parts,
        ap (λ x. x * p.block) (zero-mul p.parts),
        zero-mul p.block,
      )

  -- a word begins at the place of its octet 0 and ends within its reach
  at_0 : place p 0 0 ≡ 0
  unfolding place
  at_0 = simp (zero-div, zero-mod, zero-mul, mul-zero, zero-add)

  pub first : (c : ℕ) → place p c 0 ≡ c * p.word
  first c = omega (arith, moved c 0, at_0)

  pub reached : (n : ℕ) → n < p.word → place p 0 n < p.reach
  unfolding place
  reached n h =
      let k = n / p.block in
      let j = n % p.block in
      let d = p.step * j in
      let j_lt : j < p.block = branch_lt n in
      let k_lt : suc k * p.block ≤ p.parts * p.block = mul-le-mul_right p.block (part_lt n h) in
      let d-le : d * p.block ≤ p.step * (p.block - 1) * p.block
      = mul-le-mul_right p.block (mul-le-mul_left p.step (omega arith)) in
      let turned : p.step * (p.block - 1) * p.block ≡ p.step * p.block * (p.block - 1)
      = simp (mul_assoc, mul_comm (p.block - 1) p.block) in
      omega (
        arith,
        laid.spans,
        laid.whole,
        suc-mul k p.block,
        add-mul (0 * p.parts + k) d p.block,
        add-mul (0 * p.parts) k p.block,
        ap (λ x. x * p.block) (zero-mul p.parts),
        zero-mul p.block,
      )

  -- a line place is an octet's just where its line block is one of the q that carry octets of the word in that branch
  pub octet_there : (x : ℕ) → p.step * (x % p.block) ≤ x / p.block → x / p.block < p.step * (x % p.block) + p.parts
      → (n : ℕ) × (n < p.word) × (place p 0 n ≡ x)
  unfolding place
  octet_there x low high =
      let j = x % p.block in
      let d = p.step * j in
      let k = x / p.block - d in
      let n = k * p.block + j in
      let k_lt : k < p.parts = omega arith in
      let n-lt : n < p.parts * p.block = digits_lt k_lt (branch_lt x) in
      let row : 0 * p.parts + k + d ≡ x / p.block = omega (arith, zero-mul p.parts) in (
        n,
        rw laid.whole at n-lt,
        simp (digits_div k (branch_lt x), digits_mod k (branch_lt x)) (ap (λ r. r * p.block + j) row ∙ div-add-mod' x p.block),
      )

  pub there_low : (n : ℕ) → p.step * (place p 0 n % p.block) ≤ place p 0 n / p.block
  there_low n = rw (branch_of 0 n, row_of 0 n) (omega arith)

  pub there_high : (n : ℕ) → n < p.word → place p 0 n / p.block < p.step * (place p 0 n % p.block) + p.parts
  there_high n h = rw (branch_of 0 n, row_of 0 n) (omega (arith, zero-mul p.parts, part_lt n h))

  -- the last octet of a word is octet I − 1 of its block q − 1
  at_last : 0 < p.parts → place p 0 (p.word - 1) + 1 ≡ p.reach
  unfolding place
  at_last some =
      let k = p.parts - 1 in
      let j = p.block - 1 in
      let j_lt : j < p.block = omega (arith, laid.some) in
      let whole : k * p.block + p.block ≡ p.parts * p.block = sym (suc-mul k p.block) ∙ ap (λ x. x * p.block) (omega arith) in
      let n : p.word - 1 ≡ k * p.block + j = omega (arith, laid.whole, laid.some, whole) in
      let turned : p.step * j * p.block ≡ p.step * p.block * j = simp (mul_assoc, mul_comm j p.block) in
      rw (n, digits_div k j_lt, digits_mod k j_lt)
      (omega (
        arith,
        laid.spans,
        laid.whole,
        laid.some,
        whole,
        turned,
        add-mul (0 * p.parts + k) (p.step * j) p.block,
        add-mul (0 * p.parts) k p.block,
        ap (λ x. x * p.block) (zero-mul p.parts),
        zero-mul p.block,
      ))

  pub lies : 0 < p.parts → Lies p
  lies some = record {
    alike = moved;
    between = λ c n l. (omega (arith, moved c n), omega (arith, moved c n, reached n l));
    first = first;
    last = λ c. omega (arith, moved c (p.word - 1), at_last some);
  }
