-- Stretches of the line: it is enough to look at those that begin with an octet of word 0. Assumes nothing.
use Rattle.std.proofs.Common.{◌≡◌, ℕ, zero, suc, ◌+◌, ◌*◌, ◌<◌, ◌≤◌, true, false, eqb, ltb, ◌⊎◌, sym, ap, ◌∙◌, inl, inr, zero-mul, add-one, arith}
use Rattle.std.proofs.lemmas.Bool.{cases_lt, eqb-true, eqb-false, ne_eqb, ltb-true, ltb-false}
use Rattle.places.specs.Line.{Plan, place}
use Rattle.places.specs.Limit.{tally, within, held, Spreads, Longest, Sharp}
use Rattle.places.proofs.Tallies.{
  find,
  tally_split,
  tally_same,
  tally_more,
  tally_none,
  tally_all,
  hits_once,
  few_within,
  within-last,
  within_first,
  within_true,
  within_from,
  within_none,
  within-moved,
}
use Rattle.places.proofs.Places.{Laid, apart, moved, first, reached}

-- no stretch of L places that begins with an octet of word 0 holds more than e of them
abbrev pub Starts : Plan → (e L : ℕ) → Type 0
Starts p e L = (n : ℕ) → n < p.word → held p 0 (place p 0 n) L ≤ e

module _ {p : Plan} (laid : Laid p) where
  pub held_none : (c a : ℕ) → held p c a 0 ≡ 0
  unfolding held
  held_none c a = tally_none (λ n. within a 0 (place p c n)) p.word (λ m l. within_none a (place p c m))

  -- one place more, with an octet of the word or without
  step : (c a L : ℕ) → held p c a (suc L) ≡ held p c a L + tally (λ n. eqb (place p c n) (a + L)) p.word
  unfolding held
  step c a L =
      tally_split (λ n. within a (suc L) (place p c n)) (λ n. within a L (place p c n)) (λ n. eqb (place p c n) (a + L)) p.word
      (λ m l. within-last a L (place p c m))

  pub held_more : (c a L n : ℕ) → n < p.word → place p c n ≡ a + L → held p c a (suc L) ≡ held p c a L + 1
  held_more c a L n h e =
      let once = hits_once (place p c) p.word n (apart laid c p.word) h in
      omega (arith, step c a L, rw e at once)

  pub held_same : (c a L : ℕ) → ((n : ℕ) → n < p.word → place p c n ≡ a + L → ⊥) → held p c a (suc L) ≡ held p c a L
  held_same c a L free =
      let none = tally_none (λ n. eqb (place p c n) (a + L)) p.word (λ n l. ne_eqb (place p c n) (a + L) (free n l)) in
      omega (arith, step c a L, none)

  -- a longer stretch holds no fewer
  pub held_longer : (c a L K : ℕ) → L ≤ K → held p c a L ≤ held p c a K
  unfolding held
  held_longer c a L K h =
      tally_more (λ n. within a L (place p c n)) (λ n. within a K (place p c n)) p.word
      (λ m l t. let x = place p c m in let in-L = within_true a L x t in within_from a K x in-L.0 (omega (arith, in-L.1)))

  -- a stretch holds of word c what it holds of word 0, c words back
  pub held_moved : (c a L : ℕ) → held p c (c * p.word + a) L ≡ held p 0 a L
  unfolding held
  held_moved c a L =
      tally_same (λ n. within (c * p.word + a) L (place p c n)) (λ n. within a L (place p 0 n)) p.word
      (λ n l. ap (within (c * p.word + a) L) (moved laid c n) ∙ within-moved a (c * p.word) L (place p 0 n))

  -- each stretch holds at most as many octets as it has places
  pub held_few : (c a L : ℕ) → held p c a L ≤ L
  unfolding held
  held_few c a L = few_within (place p c) p.word a L (apart laid c p.word)

  -- a word's whole reach holds all of it
  pub held_all : held p 0 0 p.reach ≡ p.word
  unfolding held
  held_all =
      tally_all (λ n. within 0 p.reach (place p 0 n)) p.word
      (λ n l. within_from 0 p.reach (place p 0 n) (omega arith) (omega (arith, reached laid n l)))

  -- where those that begin with an octet of word 0 hold at most e, all stretches of L places do, of every word
  pub nothing_missed : (e L : ℕ) → Starts p e L → Spreads p e L
  nothing_missed e zero starts c a = omega (arith, held_none c a)
  nothing_missed e (suc L) starts c a =
      go (nothing_missed e L (λ n l. omega (arith, starts n l, held_longer 0 (place p 0 n) L (suc L) (omega arith))) c (suc a))
      (find (λ n. eqb (place p c n) a) p.word)
    where
      shifted : ((n : ℕ) → n < p.word → eqb (place p c n) a ≡ false) → held p c a (suc L) ≡ held p c (suc a) L
      shifted free =
          unfold held in
          tally_same (λ n. within a (suc L) (place p c n)) (λ n. within (suc a) L (place p c n)) p.word
          (λ n l. within_first a L (place p c n) (free n l))

      go : held p c (suc a) L ≤ e → ((n : ℕ) × (n < p.word) × (eqb (place p c n) a ≡ true)) ⊎ ((n : ℕ) → n < p.word → eqb (place p c n) a ≡ false)
          → held p c a (suc L) ≤ e
      go rest (inl found) =
          let n = found.0 in
          let e1 : a ≡ c * p.word + place p 0 n = sym (eqb-true (place p c n) a found.2) ∙ moved laid c n in
          rw (e1, held_moved c (place p 0 n) (suc L)) (starts n found.1)
      go rest (inr free) = rw (shifted free) rest

  -- such an L is below the reach, where e is fewer than a word has
  pub below_reach : (e L : ℕ) → e < p.word → Starts p e L → L < p.reach
  below_reach e L few starts = go (cases_lt L p.reach)
    where
      go : (L < p.reach) ⊎ (p.reach ≤ L) → L < p.reach
      go (inl h) = h
      go (inr h) =
          let at_0 : place p 0 0 ≡ 0 = first laid 0 ∙ zero-mul p.word in
          let whole = rw at_0 at (starts 0 (omega arith)) in
          absurd (omega (arith, whole, held_longer 0 0 p.reach L h, held_all))

  -- L is the longest stretch once one of L + 1 places holds too many
  pub found_longest : (e L i : ℕ) → Starts p e L → e < held p 0 (place p 0 i) (suc L) → Longest p e L
  found_longest e L i starts over = record {
    spreads = nothing_missed e L starts;
    largest = λ K spreads. go K spreads (cases_lt L K);
  }
    where
      go : (K : ℕ) → Spreads p e K → (L < K) ⊎ (K ≤ L) → K ≤ L
      go K spreads (inl h) = absurd (omega (arith, spreads 0 (place p 0 i), held_longer 0 (place p 0 i) (suc L) K h))
      go K spreads (inr h) = h

  -- the longest stretch plus one place holds too many, somewhere in each word's reach
  pub sharp : (e B : ℕ) → Longest p e B → Sharp p e B
  sharp e B longest c = go (find (λ n. ltb e (held p 0 (place p 0 n) (suc B))) p.word)
    where
      ends : (n : ℕ) → n < p.word → e < held p 0 (place p 0 n) (suc B)
          → ((m : ℕ) × (m < p.word) × (eqb (place p 0 m) (place p 0 n + B) ≡ true)) ⊎ ((m : ℕ) → m < p.word → eqb (place p 0 m) (place p 0 n + B) ≡ false)
          → place p 0 n + B < p.reach
      ends n l over (inl last) = omega (arith, eqb-true (place p 0 last.0) (place p 0 n + B) last.2, reached laid last.0 last.1)
      ends n l over (inr free) =
          absurd (omega (
            arith,
            longest.spreads 0 (place p 0 n),
            held_same 0 (place p 0 n) B (λ m k. eqb-false (place p 0 m) (place p 0 n + B) (free m k)),
          ))

      go : ((n : ℕ) × (n < p.word) × (ltb e (held p 0 (place p 0 n) (suc B)) ≡ true)) ⊎ ((n : ℕ) → n < p.word → ltb e (held p 0 (place p 0 n) (suc B)) ≡ false)
          → (a : ℕ) × (c * p.word ≤ a) × (a + B < c * p.word + p.reach) × (e < held p c a (B + 1))
      go (inl found) =
          let n = found.0 in
          let over : e < held p 0 (place p 0 n) (suc B) = ltb-true e (held p 0 (place p 0 n) (suc B)) found.2 in
          let end = ends n found.1 over (find (λ m. eqb (place p 0 m) (place p 0 n + B)) p.word) in
          (c * p.word + place p 0 n, omega arith, omega arith, rw (add-one, held_moved c (place p 0 n) (suc B)) over)
      go (inr none) =
          let more = longest.largest (suc B) (nothing_missed e (suc B) (λ n l. ltb-false e (held p 0 (place p 0 n) (suc B)) (none n l))) in
          absurd (omega arith)
