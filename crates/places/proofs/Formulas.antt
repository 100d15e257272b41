-- The burst limit by a formula: without interleaving, and where each branch is delayed past the one before it.
-- Assumes nothing.
use Rattle.std.proofs.Common.{◌≡◌, ℕ, zero, suc, ◌+◌, ◌-◌, ◌*◌, ◌/◌, ◌%◌, ◌<◌, ◌≤◌, true, ◌⊎◌, sym, ap, ◌∙◌, ap₂, inl, inr, mul-le-mul_right, mod-lt, mul_assoc, suc-mul, mul_comm, div-lt_iff_lt-mul, add-mul, mul-le-mul_left, div-add-mod', zero-add, zero-mul, mul-one, mul-add, arith}
use lib.Arith.{digits_div, digits_lt, digits_mod}
use Rattle.std.proofs.lemmas.Bool.{cases_lt}
use Rattle.places.specs.Line.{Plan, place}
use Rattle.places.specs.Limit.{tally, within, held, Longest, wide_limit}
use Rattle.places.proofs.Tallies.{Apart, tally_more, few_within, within_true, within_from}
use Rattle.places.proofs.Places.{Laid, apart, first, part_lt}
use Rattle.places.proofs.Stretches.{Starts, held_few, held_more, held_longer, found_longest}

module _ {p : Plan} (laid : Laid p) where
  -- some octet of word 0 stands at place x
  abbrev Octet : ℕ → Type 0
  Octet x = (n : ℕ) × (n < p.word) × (place p 0 n ≡ x)

  -- a row of e + 1 places of octets, from a first to an e-th: as many octets are held up to the last one
  climbs : (f : ℕ → ℕ) (e a : ℕ) → ((b : ℕ) → b ≤ e → Octet (f b)) → ((b : ℕ) → b < e → f b < f (suc b)) → a ≤ e
      → a < held p 0 0 (suc (f a))
  climbs f e zero octets rising h =
      let o = octets 0 (omega arith) in
      omega (arith, held_more laid 0 0 (f 0) o.0 o.1 (o.2 ∙ sym (zero-add (f 0))))
  climbs f e (suc a) octets rising h =
      let o = octets (suc a) h in
      omega (
        arith,
        climbs f e a octets rising (omega arith),
        held_longer laid 0 0 (suc (f a)) (f (suc a)) (rising a (omega arith)),
        held_more laid 0 0 (f (suc a)) o.0 o.1 (o.2 ∙ sym (zero-add (f (suc a)))),
      )

  -- so they bound the longest stretch, if they are as close together as octets can be
  longest_by : (f : ℕ → ℕ) (e : ℕ) → ((b : ℕ) → b ≤ e → Octet (f b)) → ((b : ℕ) → b < e → f b < f (suc b)) → Starts p e (f e) → Longest p e (f e)
  longest_by f e octets rising starts =
      let at_0 : place p 0 0 ≡ 0 = first laid 0 ∙ zero-mul p.word in
      found_longest laid e (f e) 0 starts (rw at_0 (climbs f e e octets rising (omega arith)))

  -- M = 0: the octets of a word stand side by side
  side_by_side : p.step ≡ 0 → (n : ℕ) → place p 0 n ≡ n
  unfolding place
  side_by_side off n =
      simp (off, zero-mul) (ap (λ x. x * p.block + n % p.block) (omega arith) ∙ div-add-mod' n p.block)

  pub without_interleaving : (e : ℕ) → p.step ≡ 0 → e < p.word → Longest p e e
  without_interleaving e off few =
      longest_by (λ a. a) e (λ b h. (b, omega arith, side_by_side off b)) (λ b h. omega arith) (λ n l. held_few laid 0 (place p 0 n) e)

  -- Where M ≥ q, all octets of a branch stand before those of the next: the a-th of them stands at this place.
  abbrev order : ℕ → ℕ
  order a = wide_limit p a

  -- which octet that is, and which it is of all
  rank : ℕ → ℕ
  rank n = (n % p.block) * p.parts + n / p.block

  parts_pos : 0 < p.word → 0 < p.parts
  parts_pos some = go (cases_lt 0 p.parts)
    where
      go : (0 < p.parts) ⊎ (p.parts ≤ 0) → 0 < p.parts
      go (inl h) = h
      go (inr h) = let e : p.parts ≡ 0 = omega arith in absurd (omega (arith, laid.whole, ap (λ x. x * p.block) e, zero-mul p.block))

  spot-order : (j k : ℕ) → (0 * p.parts + k + p.step * j) * p.block + j ≡ j * (p.step * p.block + 1) + k * p.block
  spot-order j k =
      let t : p.step * j * p.block ≡ j * (p.step * p.block) = simp (mul_assoc, mul_comm p.step (j * p.block), mul_comm p.step p.block) in
      omega (
        arith,
        t,
        add-mul (0 * p.parts + k) (p.step * j) p.block,
        add-mul (0 * p.parts) k p.block,
        ap (λ x. x * p.block) (zero-mul p.parts),
        zero-mul p.block,
        mul-add j (p.step * p.block) 1,
        mul-one j,
      )

  ranked : (n : ℕ) → n < p.word → place p 0 n ≡ order (rank n)
  unfolding place rank
  ranked n h =
      spot-order (n % p.block) (n / p.block)
      ∙ ap₂ (λ j k. j * (p.step * p.block + 1) + k * p.block)
      (sym (digits_div (n % p.block) (part_lt laid n h))) (sym (digits_mod (n % p.block) (part_lt laid n h)))

  octet_ranked : 0 < p.parts → (a : ℕ) → a < p.word → Octet (order a)
  unfolding place
  octet_ranked some a h =
      let j = a / p.parts in
      let k = a % p.parts in
      let k_lt : k < p.parts = mod-lt a some in
      let j_lt : j < p.block = (div-lt_iff_lt-mul some).1 (rw (mul_comm p.block p.parts, laid.whole) h) in
      let n-lt : k * p.block + j < p.parts * p.block = digits_lt k_lt j_lt in
      (k * p.block + j, rw laid.whole at n-lt, simp (digits_div k j_lt, digits_mod k j_lt) (spot-order j k))

  module _ (wide : p.parts ≤ p.step) (some : 0 < p.parts) where
    -- q places of one branch are shorter than the way to the next branch
    gap : p.parts * p.block < p.step * p.block + 1
    gap = omega (arith, mul-le-mul_right p.block wide)

    together : (a b : ℕ) → order a + order b ≤ order (a + b)
    together a b = go (cases_lt (a % p.parts + b % p.parts) p.parts)
      where
        sum : a + b ≡ (a / p.parts + b / p.parts) * p.parts + (a % p.parts + b % p.parts)
        sum = omega (arith, div-add-mod' a p.parts, div-add-mod' b p.parts, add-mul (a / p.parts) (b / p.parts) p.parts)

        at : (j k : ℕ) → k < p.parts → a + b ≡ j * p.parts + k → order (a + b) ≡ j * (p.step * p.block + 1) + k * p.block
        at j k h e = rw (e, digits_div j h, digits_mod j h)

        go : (a % p.parts + b % p.parts < p.parts) ⊎ (p.parts ≤ a % p.parts + b % p.parts) → order a + order b ≤ order (a + b)
        go (inl less) =
            omega (
              arith,
              at (a / p.parts + b / p.parts) (a % p.parts + b % p.parts) less sum,
              add-mul (a / p.parts) (b / p.parts) (p.step * p.block + 1),
              add-mul (a % p.parts) (b % p.parts) p.block,
            )
        go (inr more) =
            let j = a / p.parts + b / p.parts in
            let r = a % p.parts + b % p.parts - p.parts in
            let r-lt : r < p.parts = omega (arith, mod-lt a some, mod-lt b some) in
            let cut : r * p.block + p.parts * p.block ≡ a % p.parts * p.block + b % p.parts * p.block
            = sym (add-mul r p.parts p.block) ∙ ap (λ x. x * p.block) (omega arith) ∙ add-mul (a % p.parts) (b % p.parts) p.block in
            omega (
              arith,
              at (suc j) r r-lt (omega (arith, sum, suc-mul j p.parts)),
              cut,
              gap,
              suc-mul j (p.step * p.block + 1),
              add-mul (a / p.parts) (b / p.parts) (p.step * p.block + 1),
            )

    -- each of them stands further on than its number says
    order_above : (a : ℕ) → a ≤ order a
    order_above a =
        let block_1 : p.parts * 1 ≤ p.parts * p.block = mul-le-mul_left p.parts laid.some in
        let far : (a / p.parts) * p.parts ≤ (a / p.parts) * (p.step * p.block + 1)
        = mul-le-mul_left (a / p.parts) (omega (arith, gap, block_1, mul-one p.parts)) in
        let near : (a % p.parts) * 1 ≤ (a % p.parts) * p.block = mul-le-mul_left (a % p.parts) laid.some in
        omega (arith, far, near, mul-one (a % p.parts), div-add-mod' a p.parts)

    order_less : (a b : ℕ) → a < b → order a < order b
    order_less a b h =
        let e : a + (b - a) ≡ b = omega arith in
        omega (arith, rw e at (together a (b - a)), order_above (b - a))

    rank_apart : Apart rank p.word
    rank_apart m k l h e = apart laid 0 p.word m k l h (ranked m l ∙ ap order e ∙ sym (ranked k h))

    -- the octets in a stretch as long as the way from the first to the e-th are e of them in a row, at most
    starts : (e : ℕ) → Starts p e (order e)
    starts e n l =
        let all = few_within rank p.word (rank n) e rank_apart in
        omega (arith, all, inside)
      where
        among : (m : ℕ) → m < p.word → within (place p 0 n) (order e) (place p 0 m) ≡ true → within (rank n) e (rank m) ≡ true
        among m h t = go (cases_lt (rank m) (rank n)) (cases_lt (rank m) (rank n + e))
          where
            seen : (order (rank n) ≤ order (rank m)) × (order (rank m) < order (rank n) + order e)
            seen =
                let s = within_true (place p 0 n) (order e) (place p 0 m) t in
                rw (ranked n l, ranked m h) at s

            go : (rank m < rank n) ⊎ (rank n ≤ rank m) → (rank m < rank n + e) ⊎ (rank n + e ≤ rank m) → within (rank n) e (rank m) ≡ true
            go (inl before) after = absurd (omega (arith, seen.0, order_less (rank m) (rank n) before))
            go (inr from) (inl before) = within_from (rank n) e (rank m) from before
            go (inr from) (inr after) =
                let back : rank n + e + (rank m - (rank n + e)) ≡ rank m = omega arith in
                absurd (omega (arith, seen.1, together (rank n) e, rw back at (together (rank n + e) (rank m - (rank n + e)))))

        inside : held p 0 (place p 0 n) (order e) ≤ tally (λ m. within (rank n) e (rank m)) p.word
        inside =
            unfold held in
            tally_more (λ m. within (place p 0 n) (order e) (place p 0 m)) (λ m. within (rank n) e (rank m)) p.word among

    longest : (e : ℕ) → e < p.word → Longest p e (order e)
    longest e few =
        longest_by order e (λ b h. octet_ranked some b (omega arith)) (λ b h. order_less b (suc b) (omega arith)) (starts e)

  pub wide_steps : (e : ℕ) → p.parts ≤ p.step → e < p.word → Longest p e (wide_limit p e)
  wide_steps e wide few = longest wide (parts_pos (omega arith)) e few
