-- The polynomial that vanishes at all places of a list but one, with zeros behind it, for loops. Assumes nothing.
use Rattle.std.proofs.Common.{◌≡◌, ℕ, zero, suc, ◌+◌, ◌-◌, ◌<◌, ◌≤◌, ◌⊎◌, List, [], ◌∷◌, ◌++◌, length, get_or, take, set, refl, ap, ◌∙◌, inl, inr, arith}
use lib.Bits.{bit_xor}
use Rattle.std.proofs.lemmas.List.{get_or-take, length-append, length-take-le, take_all, take_more}
use Rattle.std.proofs.lemmas.Bool.{cases_lt}
use Rattle.field.specs.Field.{Field, Laws}
use Rattle.field.proofs.Facts.{times_zero}
use Rattle.rs_algebra.specs.Polynomials.{times_root, weighed, low_at, zeros}
use Rattle.rs_algebra.specs.Words.{Missing, ValueFor, locator}
use Rattle.rs_algebra.proofs.Lists.{append_elements, zeros_elements, zeros_long}
use Rattle.rs_algebra.proofs.Values.{missing_none, missing_same, missing_more}

module _ (f : Field) (laws : Laws f) (N k : ℕ) where
  pub value_element : (S : ℕ → ℕ) (ws : List ℕ) (value : ℕ) → ValueFor f N S ws k value → value < f.size
  value_element S ws value found =
      rw found.2 (laws.times_below (weighed f found.0 S 0) (f.inverse (low_at f found.0 (locator f N k))))

  low_padded : (v : List ℕ) (n x : ℕ) → low_at f (v ++ zeros n) x ≡ low_at f v x
  unfolding low_at
  low_padded [] zero x = refl
  low_padded [] (suc n) x = ap (f.times x) (low_padded [] n x) ∙ times_zero f laws x
  low_padded (c ∷ v) n x = ap (λ y. bit_xor c (f.times x y)) (low_padded v n x)

  -- xs holds the polynomial for the places ws, and behind it zeros
  pub record Holding (ws xs : List ℕ) : Type 0 where
    pub polynomial : List ℕ
    pub room : ℕ
    pub is : xs ≡ polynomial ++ zeros room
    pub missing : Missing f N k ws polynomial

  -- where there is no more room than places
  padded : (ws xs : List ℕ) → length xs ≤ length ws → Holding ws xs → Missing f N k ws xs
  padded ws xs few h =
      let v = h.polynomial in
      let m = h.missing in
      let long : length xs ≡ length v + length (zeros h.room) = ap length h.is ∙ length-append v (zeros h.room) in
      let same : (x : ℕ) → low_at f xs x ≡ low_at f v x = λ x. ap (λ q. low_at f q x) h.is ∙ low_padded v h.room x in
      record {
        some = omega (arith, m.some);
        long = omega arith;
        without = λ i l e. few;
        elements = rw h.is (append_elements f laws v (zeros h.room) m.elements (zeros_elements f laws h.room));
        ends = λ i l o. same (locator f N (get_or ws i 0)) ∙ m.ends i l o;
        stays = rw (same (locator f N k)) m.stays;
      }

  pub begun : (n : ℕ) (xs : List ℕ) → 0 < n → xs ≡ zeros n → Holding [] (set xs 0 1)
  begun zero xs some is = absurd (omega arith)
  begun (suc n) xs some is = record { polynomial = 1 ∷ []; room = n; is = ap (λ l. set l 0 1) is; missing = missing_none f laws N k }

  module _ (ws : List ℕ) (i : ℕ) (h : i < length ws) (xs : List ℕ) (so_far : Holding (take i ws) xs) where
    pub kept : get_or ws i 0 ≡ k → Holding (take (i + 1) ws) xs
    kept same = record {
      polynomial = so_far.polynomial;
      room = so_far.room;
      is = so_far.is;
      missing = rw (take_more ws i 0 h, same) (missing_same f laws N k (take i ws) so_far.polynomial so_far.missing);
    }

    -- a root more: there is room for it, since one of the places is k
    pub more : (among : (a : ℕ) × (a < length ws) × (get_or ws a 0 ≡ k)) → length xs ≡ length ws
        → N < f.size → k < N → get_or ws i 0 < N → ¬ (get_or ws i 0 ≡ k) → (x : ℕ) (xs' : List ℕ) → x ≡ locator f N (get_or ws i 0)
        → ((p : List ℕ) (n : ℕ) → xs ≡ p ++ zeros (n + 1) → xs' ≡ times_root f x p ++ zeros n) → Holding (take (i + 1) ws) xs'
    more among wide fits here inside other x xs' at made = record {
      polynomial = times_root f x v;
      room = so_far.room - 1;
      is = made v (so_far.room - 1) (so_far.is ∙ ap (λ n. v ++ zeros n) left);
      missing = rw (take_more ws i 0 h, at) (missing_more f laws N k (get_or ws i 0) (take i ws) v fits here inside other so_far.missing);
    }
      where
        v : List ℕ
        v = so_far.polynomial

        left : so_far.room ≡ so_far.room - 1 + 1
        left = go (cases_lt among.0 i) (cases_lt i among.0)
          where
            total : length xs ≡ length v + so_far.room
            total = ap length so_far.is ∙ length-append v (zeros so_far.room) ∙ ap (λ n. length v + n) (zeros_long so_far.room)

            front : length (take i ws) ≡ i
            front = length-take-le i ws (omega arith)

            go : (among.0 < i) ⊎ (i ≤ among.0) → (i < among.0) ⊎ (among.0 ≤ i) → so_far.room ≡ so_far.room - 1 + 1
            go (inl before) _ =
                omega (arith, total, front, so_far.missing.without among.0 (omega (arith, front)) (get_or-take i ws among.0 0 before ∙ among.2))
            go (inr past) (inl after) = omega (arith, total, front, so_far.missing.long, among.1)
            go (inr past) (inr same) = let e : i ≡ among.0 = omega arith in absurd (other (ap (λ n. get_or ws n 0) e ∙ among.2))

  pub ended : (ws : List ℕ) (i : ℕ) (xs : List ℕ) → length ws ≤ i → length xs ≡ length ws → Holding (take i ws) xs → Missing f N k ws xs
  ended ws i xs all wide so_far = padded ws xs (omega arith) (rw (take_all i ws all) at so_far)
