-- Where two words differ, and in how many places. Assumes nothing.
use Rattle.std.proofs.Common.{◌≡◌, ℕ, zero, suc, ◌+◌, ◌<◌, ◌≤◌, Bool, true, false, cond, not, eqb, ◌≢◌, ◌⊎◌, List, [], ◌∷◌, length, get_or, sym, refl, ap, ◌∙◌, inl, inr, arith}
use Rattle.std.proofs.ByRecursion.{All-from_get_or}
use Rattle.std.proofs.lemmas.Bool.{cases_Bool, eq-eqb, ne_eqb, true≢false}
use Rattle.places.specs.Limit.{tally}
use Rattle.places.proofs.Tallies.{tally_more}
use Rattle.coder.specs.Codes.{Octets, distance}
use Rattle.scrambler.specs.Bits as bits

-- octets, said for all elements
pub octets_all : (xs : List ℕ) → Octets xs → bits.Octets xs
octets_all xs each = All-from_get_or (λ m. m < 256) xs 0 (λ k _. each k)

-- ---- the distance counts the places that differ

-- whether two words differ at place k
abbrev pub differs : (a b : List ℕ) → ℕ → Bool
differs a b k = not (eqb (get_or a k 0) (get_or b k 0))

tally-front : (f : ℕ → Bool) (n : ℕ) → tally f (suc n) ≡ cond (f 0) 1 0 + tally (λ k. f (suc k)) n
unfolding tally
tally-front f zero = omega arith
tally-front f (suc n) = omega (arith, tally-front f n)

pub distance-counts : (a b : List ℕ) → length a ≡ length b → distance a b ≡ tally (differs a b) (length a)
unfolding distance tally
distance-counts [] b same = refl
distance-counts (x ∷ a) [] same = absurd (omega arith)
distance-counts (x ∷ a) (y ∷ b) same =
    omega (arith, turned (eqb x y), distance-counts a b (omega arith), tally-front (differs (x ∷ a) (y ∷ b)) (length a))
  where
    turned : (t : Bool) → ◌≡◌ {A = ℕ} (cond t 0 1) (cond (not t) 1 0)
    turned true = refl
    turned false = refl

-- words that differ only at places of a kind are at most as far apart as there are such places
pub few_differ : (a b : List ℕ) (n : ℕ) (f : ℕ → Bool) → length a ≡ n → length b ≡ n
    → ((k : ℕ) → k < n → f k ≡ false → get_or a k 0 ≡ get_or b k 0) → distance a b ≤ tally f n
few_differ a b n f la lb each =
    let counted : distance a b ≡ tally (differs a b) n = distance-counts a b (la ∙ sym lb) ∙ ap (tally (differs a b)) la in
    let fewer = tally_more (differs a b) f n (λ k l t. go k l t (cases_Bool (f k))) in
    omega (arith, counted, fewer)
  where
    go : (k : ℕ) → k < n → differs a b k ≡ true → (f k ≡ true) ⊎ (f k ≡ false) → f k ≡ true
    go k l t (inl yes-k) = yes-k
    go k l t (inr no-k) =
        let same : eqb (get_or a k 0) (get_or b k 0) ≡ true = eq-eqb (get_or a k 0) (get_or b k 0) (each k l no-k) in
        absurd (true≢false (sym t ∙ ap not same))

-- words that differ at all places of a kind are at least as far apart
pub many_differ : (a b : List ℕ) (n : ℕ) (f : ℕ → Bool) → length a ≡ n → length b ≡ n
    → ((k : ℕ) → k < n → f k ≡ true → get_or a k 0 ≢ get_or b k 0) → tally f n ≤ distance a b
many_differ a b n f la lb each =
    let counted : distance a b ≡ tally (differs a b) n = distance-counts a b (la ∙ sym lb) ∙ ap (tally (differs a b)) la in
    let more = tally_more f (differs a b) n (λ k l t. ap not (ne_eqb (get_or a k 0) (get_or b k 0) (each k l t))) in
    omega (arith, counted, more)
