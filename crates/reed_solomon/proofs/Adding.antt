-- One term's powers added to a list of sums, the first power first. Assumes nothing.
use Rattle.std.proofs.Common.{◌≡◌, ℕ, ◌+◌, ◌<◌, ◌≤◌, List, length, get_or, set, sym, refl, ap, ◌∙◌, ap₂, add-one, arith}
use lib.Bits.{bit_xor}
use Rattle.std.proofs.lemmas.List.{get_or-set_other}
use Rattle.field.specs.Field.{Field, Laws, raised}
use Rattle.field.proofs.Facts.{times_left, times_one}
use Rattle.reed_solomon.proofs.Filling.{Filled, filled_more}

-- the first i sums have the term; `term` is the one of the next power
pub record Underway (f : Field) (value x : ℕ) (start : List ℕ) (i term : ℕ) (sums : List ℕ) : Type 0 where
  pub running : term ≡ f.times value (raised f.times x i)
  pub made : Filled (λ j y. y ≡ bit_xor (get_or start j 0) (f.times value (raised f.times x j))) i sums
  pub rest : (j : ℕ) → i ≤ j → get_or sums j 0 ≡ get_or start j 0

module _ (f : Field) (laws : Laws f) (value x : ℕ) (start : List ℕ) where
  pub begun : value < f.size → Underway f value x start 0 value start
  unfolding raised
  begun h = record { running = sym (times_one f laws value h); made = λ j l. absurd (omega arith); rest = λ j l. refl }

  pub next : (i term y : ℕ) (sums : List ℕ) → i < length sums → y ≡ f.times x term → Underway f value x start i term sums
      → Underway f value x start (i + 1) y (set sums i (bit_xor (get_or sums i 0) term))
  unfolding raised
  next i term y sums h is u = record {
    running = rw (add-one i) (is ∙ ap (f.times x) u.running ∙ times_left f laws x value (raised f.times x i));
    made =
        filled_more (λ j z. z ≡ bit_xor (get_or start j 0) (f.times value (raised f.times x j))) sums i (bit_xor (get_or sums i 0) term) h u.made
        (ap₂ bit_xor (u.rest i (omega arith)) u.running);
    rest = λ j l. get_or-set_other sums i j (bit_xor (get_or sums i 0) term) 0 (omega arith) ∙ u.rest j (omega arith);
  }
