-- The voted message is the nearest of all. Assumes nothing.
use Rattle.std.proofs.Common.{◌≡◌, ℕ, zero, suc, ◌+◌, ◌*◌, ◌<◌, ◌≤◌, ◌⊎◌, List, [], ◌∷◌, ◌++◌, map, length, get_or, take, sym, ap, ◌∙◌, inl, inr, arith}
use Rattle.std.specs.List.{zip}
use Rattle.std.proofs.lemmas.List.FromFn.{length-map-range_with_len, get_or-map-range_with_len}
use Rattle.std.proofs.lemmas.List.{length-append, get_or_append_left, get_or-append_right, get_or_past}
use Rattle.std.proofs.lemmas.List.Sums.{sum_by-cons}
use Rattle.std.proofs.lemmas.Bool.{cases_lt, cond_both}
use Rattle.std.proofs.lemmas.Bool.Decides.{nat_tests}
use Rattle.coder.specs.Codes.{Octets, distance}
use Rattle.coder.proofs.Distances.{distance-append}
use Rattle.threefold.specs.declared.threefold.Thirds.{Thirds}
use Rattle.threefold.specs.Threefold.{thrice}
use Rattle.threefold.specs.Votes.{Judged, majority_of, odd_of, odds_of, others, voted, voted_at, whole}

-- no octet is nearer to three others than their majority
pub majority_nearest : (a b c x : ℕ) → odd_of a b c ≤ others a b c x
majority_nearest a b c x = grind (arith, nat_tests)

pub odd_le : (a b c : ℕ) → odd_of a b c ≤ 3
odd_le a b c = grind (arith, nat_tests)

-- how many octets of three copies differ from a message's
abbrev apart : (m a b c : List ℕ) → ℕ
apart m a b c = distance m a + distance m b + distance m c

-- octets of which each is the majority of its copies
abbrev pub Voted : (m a b c : List ℕ) → Type 0
Voted m a b c = (k : ℕ) → k < length m → get_or m k 0 ≡ majority_of (get_or a k 0) (get_or b k 0) (get_or c k 0)

odds_more : (x y z : ℕ) (a b c : List ℕ) → odds_of (x ∷ a) (y ∷ b) (z ∷ c) ≡ odd_of x y z + odds_of a b c
odds_more x y z a b c = sum_by-cons (λ n. n) (odd_of x y z) (map (λ p. odd_of p.0.0 p.0.1 p.1) (zip (zip a b) c))

pub odds_few : (a b c : List ℕ) → odds_of a b c ≤ 3 * length a
odds_few [] b c = omega arith
odds_few (x ∷ a) [] c = omega arith
odds_few (x ∷ a) (y ∷ b) [] = omega arith
odds_few (x ∷ a) (y ∷ b) (z ∷ c) = omega (arith, odds_more x y z a b c, odd_le x y z, odds_few a b c)

-- the step of a loop that counts them
pub odds_next : (a b c : List ℕ) (i : ℕ) → i < length a → length b ≡ length a → length c ≡ length a
    → odds_of (take (i + 1) a) (take (i + 1) b) (take (i + 1) c)
    ≡ odds_of (take i a) (take i b) (take i c) + odd_of (get_or a i 0) (get_or b i 0) (get_or c i 0)
odds_next (x ∷ a) (y ∷ b) (z ∷ c) zero h e f = omega (arith, odds_more x y z [] [] [], odds_few [] [] [])
odds_next (x ∷ a) (y ∷ b) (z ∷ c) (suc i) h e f =
    let next : suc i + 1 ≡ suc (i + 1) = omega arith in
    rw next (omega (
      arith,
      odds_more x y z (take (i + 1) a) (take (i + 1) b) (take (i + 1) c),
      odds_more x y z (take i a) (take i b) (take i c),
      odds_next a b c i (omega arith) (omega arith) (omega arith),
    ))
odds_next (x ∷ a) [] c i h e f = absurd (omega arith)
odds_next (x ∷ a) (y ∷ b) [] i h e f = absurd (omega arith)
odds_next [] b c i h e f = absurd (omega arith)

odds_least : (m a b c : List ℕ) → length a ≡ length m → length b ≡ length m → length c ≡ length m → odds_of a b c ≤ apart m a b c
unfolding distance
odds_least [] a b c e f g = let a-none : odds_of a b c ≤ 0 = omega (arith, odds_few a b c) in omega (arith, a-none)
odds_least (w ∷ m) (x ∷ a) (y ∷ b) (z ∷ c) e f g =
    let here = majority_nearest x y z w in
    omega (arith, here, odds_more x y z a b c, odds_least m a b c (omega arith) (omega arith) (omega arith))
odds_least (w ∷ m) [] b c e f g = absurd (omega arith)
odds_least (w ∷ m) (x ∷ a) [] c e f g = absurd (omega arith)
odds_least (w ∷ m) (x ∷ a) (y ∷ b) [] e f g = absurd (omega arith)

-- the voted octets are as near as that
odds_are : (m a b c : List ℕ) → length a ≡ length m → length b ≡ length m → length c ≡ length m → Voted m a b c → apart m a b c ≡ odds_of a b c
unfolding distance
odds_are [] a b c e f g v = omega (arith, odds_few a b c)
odds_are (w ∷ m) (x ∷ a) (y ∷ b) (z ∷ c) e f g v =
    let first : w ≡ majority_of x y z = v 0 (omega arith) in
    let here : others x y z w ≡ odd_of x y z = ap (others x y z) first in
    let later = odds_are m a b c (omega arith) (omega arith) (omega arith) (λ k h. v (suc k) (omega arith)) in
    omega (arith, here, odds_more x y z a b c, later)
odds_are (w ∷ m) [] b c e f g v = absurd (omega arith)
odds_are (w ∷ m) (x ∷ a) [] c e f g v = absurd (omega arith)
odds_are (w ∷ m) (x ∷ a) (y ∷ b) [] e f g v = absurd (omega arith)

pub voted_long : (K : ℕ) (received : List ℕ) → length (voted K received) ≡ K
unfolding voted
voted_long K received = length-map-range_with_len (voted_at K received) 0 K

voted_get : (K : ℕ) (received : List ℕ) (i : ℕ) → i < K → get_or (voted K received) i 0 ≡ voted_at K received i
unfolding voted
voted_get K received i h = get_or-map-range_with_len (voted_at K received) 0 K i i 0 h (omega arith)

module _ (K : ℕ) (a b c : List ℕ) (al : length a ≡ K) (bl : length b ≡ K) (cl : length c ≡ K) where
  -- the octet of a received word by its three copies
  pub voted_at_lem : (k : ℕ) → k < K → voted_at K (a ++ b ++ c) k ≡ majority_of (get_or a k 0) (get_or b k 0) (get_or c k 0)
  voted_at_lem k h =
      let two : length (a ++ b) ≡ 2 * K = length-append a b ∙ omega arith in
      let in_a : get_or (a ++ b ++ c) k 0 ≡ get_or a k 0 = get_or_append_left (a ++ b) c 0 k (omega arith) ∙ get_or_append_left a b 0 k (omega arith) in
      let in_b : get_or (a ++ b ++ c) (K + k) 0 ≡ get_or b k 0
      = get_or_append_left (a ++ b) c 0 (K + k) (omega arith) ∙ get_or-append_right a b K (K + k) 0 al (omega arith) ∙ ap (λ n. get_or b n 0) (omega arith) in
      let in_c : get_or (a ++ b ++ c) (2 * K + k) 0 ≡ get_or c k 0
      = get_or-append_right (a ++ b) c (2 * K) (2 * K + k) 0 two (omega arith) ∙ ap (λ n. get_or c n 0) (omega arith) in
      rw (in_a, in_b, in_c)

  voted_parts : Voted (voted K (a ++ b ++ c)) a b c
  voted_parts k h =
      let l : k < K = omega (arith, voted_long K (a ++ b ++ c)) in
      voted_get K (a ++ b ++ c) k l ∙ voted_at_lem k l

  apart_is : (m : List ℕ) → length m ≡ K → distance (thrice m) (a ++ b ++ c) ≡ apart m a b c
  apart_is m ml =
      let pair : length (m ++ m) ≡ length (a ++ b) = length-append m m ∙ omega arith ∙ sym (length-append a b) in
      omega (arith, distance-append (m ++ m) (a ++ b) m c pair, distance-append m a m b (ml ∙ sym al))

  pub odds_voted : distance (thrice (voted K (a ++ b ++ c))) (a ++ b ++ c) ≡ odds_of a b c
  odds_voted =
      let m = voted K (a ++ b ++ c) in
      let ml : length m ≡ K = voted_long K (a ++ b ++ c) in
      apart_is m ml ∙ odds_are m a b c (omega arith) (omega arith) (omega arith) voted_parts

  pub odds_nearest : (m : List ℕ) → length m ≡ K → odds_of a b c ≤ distance (thrice m) (a ++ b ++ c)
  odds_nearest m ml = omega (arith, apart_is m ml, odds_least m a b c (omega arith) (omega arith) (omega arith))

-- a majority of octets is an octet
pub voted-octets : (K : ℕ) (received : List ℕ) → Octets received → Octets (voted K received)
voted-octets K received octets k = go (cases_lt k K)
  where
    go : (k < K) ⊎ (K ≤ k) → get_or (voted K received) k 0 < 256
    go (inl h) =
        let at = voted_get K received k h in
        let some : voted_at K received k < 256 = cond_both _ _ _ (λ x. x < 256) (λ t. octets (K + k)) (λ f. octets k) in
        omega arith
    go (inr h) = omega (arith, get_or_past (voted K received) k 0 (omega (arith, voted_long K received)))

-- What counting the odd octets tells.
pub judged : (t : Thirds) (n : ℕ) → n ≡ odds_of t.first.now t.second.now t.third.now → Judged t.coder (whole t) n
judged t n is =
    let K : ℕ = t.coder.sizes.frame in
    let all = odds_voted K t.first.now t.second.now t.third.now t.one t.two t.three ∙ sym is in
    record {
      near = λ within. record {
        message = record { long = voted_long K (whole t); octets = voted-octets K (whole t) t.octets };
        differing = all;
        within = within;
      };
      far = λ far m of. omega (arith, far, is, odds_nearest K t.first.now t.second.now t.third.now t.one t.two t.three m of.long);
    }
