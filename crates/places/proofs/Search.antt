-- A search for the longest stretch that counts along: for each octet of word 0, how many octets the stretch holds that
-- begins there. Assumes nothing.
use Rattle.std.proofs.Common.{◌≡◌, ℕ, suc, ◌+◌, ◌<◌, ◌≤◌, ◌≢◌, ◌⊎◌, List, length, get_or, set, replicate, sym, ◌∙◌, inl, inr, add-one, arith}
use Rattle.std.proofs.lemmas.List.{get_or-replicate, get_or-set_other, get_or-set_same, length-replicate, length-set}
use Rattle.std.proofs.lemmas.Bool.{cases_eq}
use Rattle.places.specs.Line.{Plan, place}
use Rattle.places.specs.Limit.{held, Longest}
use Rattle.places.proofs.Places.{Laid}
use Rattle.places.proofs.Stretches.{Starts, held_none, held_more, held_same, found_longest}

-- The stretch from octet n on has L + 1 places where n is below i, and L places from i on; none holds more than e.
pub record Counting (p : Plan) (e L i : ℕ) (counts : List ℕ) : Type 0 where
  pub room : p.word ≤ length counts
  pub done : (n : ℕ) → n < i → get_or counts n 0 ≡ held p 0 (place p 0 n) (suc L)
  pub done_few : (n : ℕ) → n < i → held p 0 (place p 0 n) (suc L) ≤ e
  pub rest : (n : ℕ) → i ≤ n → n < p.word → get_or counts n 0 ≡ held p 0 (place p 0 n) L
  pub few : Starts p e L

module _ {p : Plan} (laid : Laid p) {e : ℕ} where
  -- nothing is held by stretches of no length
  pub begin : (size : ℕ) → p.word ≤ size → Counting p e 0 0 (replicate size 0)
  begin size room = record {
    room = rw length-replicate room;
    done = λ n l. absurd (omega arith);
    done_few = λ n l. absurd (omega arith);
    rest = λ n _ l. get_or-replicate size n 0 0 (omega arith) ∙ sym (held_none laid 0 (place p 0 n));
    few = λ n l. omega (arith, held_none laid 0 (place p 0 n));
  }

  module _ {L i : ℕ} {counts : List ℕ} (now : Counting p e L i counts) (h : i < p.word) where
    -- the place that the stretch from octet i on gains
    abbrev Gains : Type 0
    Gains = (n : ℕ) × (n < p.word) × (place p 0 n ≡ place p 0 i + L)

    in_room : i < length counts
    in_room = omega (arith, now.room)

    -- the count as it is read back
    read : get_or (set counts i (get_or counts i 0 + 1)) i 0 ≡ get_or counts i 0 + 1
    read = get_or-set_same counts i (get_or counts i 0 + 1) 0 in_room

    gained : Gains → held p 0 (place p 0 i) (suc L) ≡ get_or counts i 0 + 1
    gained o = omega (arith, held_more laid 0 (place p 0 i) L o.0 o.1 o.2, now.rest i (omega arith) h)

    -- it holds an octet
    pub more : Gains → get_or (set counts i (get_or counts i 0 + 1)) i 0 ≤ e → Counting p e L (i + 1) (set counts i (get_or counts i 0 + 1))
    more o fits = record {
      room = rw (length-set counts i (get_or counts i 0 + 1)) now.room;
      done = λ n l. done n l (cases_eq n i);
      done_few = λ n l. done_few n l (cases_eq n i);
      rest = λ n l k. let ne : n ≢ i = omega arith in rw get_or-set_other (now.rest n (omega arith) k);
      few = now.few;
    }
      where
        done : (n : ℕ) → n < i + 1 → (n ≡ i) ⊎ (n ≡ i → ⊥) → get_or (set counts i (get_or counts i 0 + 1)) n 0 ≡ held p 0 (place p 0 n) (suc L)
        done n l (inl same) = rw (same, read) (sym (gained o))
        done n l (inr ne) = rw (get_or-set_other counts i n (get_or counts i 0 + 1) 0 ne) (now.done n (omega arith))

        done_few : (n : ℕ) → n < i + 1 → (n ≡ i) ⊎ (n ≡ i → ⊥) → held p 0 (place p 0 n) (suc L) ≤ e
        done_few n l (inl same) = rw same (omega (arith, gained o, read))
        done_few n l (inr ne) = now.done_few n (omega arith)

    -- it holds one octet too many
    pub too_many : Gains → e < get_or (set counts i (get_or counts i 0 + 1)) i 0 → Longest p e L
    too_many o over = found_longest laid e L i now.few (omega (arith, gained o, read))

    -- it holds none
    pub no_more : (Gains → ⊥) → Counting p e L (i + 1) counts
    no_more free = record {
      room = now.room;
      done = λ n l. done n l (cases_eq n i);
      done_few = λ n l. done_few n l (cases_eq n i);
      rest = λ n l k. now.rest n (omega arith) k;
      few = now.few;
    }
      where
        same : held p 0 (place p 0 i) (suc L) ≡ held p 0 (place p 0 i) L
        same = held_same laid 0 (place p 0 i) L (λ n l x. free (n, l, x))

        done : (n : ℕ) → n < i + 1 → (n ≡ i) ⊎ (n ≡ i → ⊥) → get_or counts n 0 ≡ held p 0 (place p 0 n) (suc L)
        done n l (inl e1) = rw e1 (now.rest i (omega arith) h ∙ sym same)
        done n l (inr ne) = now.done n (omega arith)

        done_few : (n : ℕ) → n < i + 1 → (n ≡ i) ⊎ (n ≡ i → ⊥) → held p 0 (place p 0 n) (suc L) ≤ e
        done_few n l (inl e1) = rw e1 (omega (arith, same, now.few i h))
        done_few n l (inr ne) = now.done_few n (omega arith)

  -- all stretches are one place longer
  pub longer : {L : ℕ} {counts : List ℕ} → Counting p e L p.word counts → Counting p e (L + 1) 0 counts
  longer {L} now = record {
    room = now.room;
    done = λ n l. absurd (omega arith);
    done_few = λ n l. absurd (omega arith);
    rest = λ n _ l. rw (add-one) (now.done n l);
    few = λ n l. rw (add-one) (now.done_few n l);
  }
