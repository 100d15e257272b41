-- Sums of lists, number by number. Assumes nothing.
use Rattle.std.proofs.Common.{◌≡◌, ℕ, zero, suc, ◌+◌, ◌<◌, ◌≤◌, ◌⊎◌, List, [], ◌∷◌, ◌++◌, length, get_or, take, drop, sym, refl, ap, ◌∙◌, ap₂, inl, inr, arith}
use lib.ListN.{length-replicate}
use lib.Bits.{bit_xor, xor_comm, xor_assoc, xor_self, xor_zero_r}
use Rattle.std.proofs.lemmas.List.{get_or_past}
use Rattle.std.proofs.lemmas.Bool.{cases_lt}
use Rattle.field.specs.Field.{Field, Laws}
use Rattle.rs_algebra.specs.Polynomials.{Elements, zeros, plus, scaled}
use Rattle.field.specs.Sums.{xor_again, xor_same}
use Rattle.field.proofs.Facts.{zero_element}

-- lists of one length that read alike are the same
pub same_reads : (xs ys : List ℕ) → length xs ≡ length ys → ((k : ℕ) → k < length xs → get_or xs k 0 ≡ get_or ys k 0) → xs ≡ ys
same_reads [] [] long reads = refl
same_reads [] (y ∷ ys) long reads = absurd (omega arith)
same_reads (x ∷ xs) [] long reads = absurd (omega arith)
same_reads (x ∷ xs) (y ∷ ys) long reads =
    ap₂ {C = List ℕ} (λ a b. a ∷ b) (reads 0 (omega arith)) (same_reads xs ys (omega arith) (λ k h. reads (suc k) (omega arith)))

-- nothing but zeros
pub zeros_read : (n k : ℕ) → get_or (zeros n) k 0 ≡ 0
zeros_read zero k = refl
zeros_read (suc n) zero = refl
zeros_read (suc n) (suc k) = zeros_read n k

pub zeros_long : (n : ℕ) → length (zeros n) ≡ n
zeros_long n = length-replicate n 0

pub all_zeros : (xs : List ℕ) → ((k : ℕ) → k < length xs → get_or xs k 0 ≡ 0) → xs ≡ zeros (length xs)
all_zeros xs none = same_reads xs (zeros (length xs)) (sym (zeros_long (length xs))) (λ k h. none k h ∙ sym (zeros_read (length xs) k))

-- the sum reads as the sum of what its two lists read, everywhere
pub plus_reads : (p q : List ℕ) (k : ℕ) → get_or (plus p q) k 0 ≡ bit_xor (get_or p k 0) (get_or q k 0)
unfolding plus
plus_reads [] q k = refl
plus_reads (c ∷ p) [] k = sym (xor_zero_r (get_or (c ∷ p) k 0))
plus_reads (c ∷ p) (d ∷ q) zero = refl
plus_reads (c ∷ p) (d ∷ q) (suc k) = plus_reads p q k

pub plus_long : (p q : List ℕ) → length p ≤ length q → length (plus p q) ≡ length q
unfolding plus
plus_long [] q h = refl
plus_long (c ∷ p) [] h = absurd (omega arith)
plus_long (c ∷ p) (d ∷ q) h = ap suc (plus_long p q (omega arith))

pub plus_comm : (p q : List ℕ) → plus p q ≡ plus q p
unfolding plus
plus_comm [] [] = refl
plus_comm [] (d ∷ q) = refl
plus_comm (c ∷ p) [] = refl
plus_comm (c ∷ p) (d ∷ q) = ap₂ {C = List ℕ} (λ a b. a ∷ b) (xor_comm c d) (plus_comm p q)

pub plus_assoc : (p q r : List ℕ) → plus (plus p q) r ≡ plus p (plus q r)
unfolding plus
plus_assoc [] q r = refl
plus_assoc (c ∷ p) [] r = refl
plus_assoc (c ∷ p) (d ∷ q) [] = refl
plus_assoc (c ∷ p) (d ∷ q) (b ∷ r) = ap₂ {C = List ℕ} (λ x y. x ∷ y) (xor_assoc c d b) (plus_assoc p q r)

pub plus_again : (p q : List ℕ) → length p ≤ length q → plus p (plus p q) ≡ q
unfolding plus
plus_again [] q h = refl
plus_again (c ∷ p) [] h = absurd (omega arith)
plus_again (c ∷ p) (d ∷ q) h = ap₂ {C = List ℕ} (λ x y. x ∷ y) (xor_again c d) (plus_again p q (omega arith))

pub plus-zeros : (p : List ℕ) (n : ℕ) → n ≤ length p → plus (zeros n) p ≡ p
unfolding plus
plus-zeros p zero h = refl
plus-zeros [] (suc n) h = absurd (omega arith)
plus-zeros (c ∷ p) (suc n) h = ap (λ r. c ∷ r) (plus-zeros p n (omega arith))

-- zeros behind a list add nothing
pub plus_padded : (p q : List ℕ) (n : ℕ) → length p + n ≤ length q → plus (p ++ zeros n) q ≡ plus p q
unfolding plus
plus_padded [] q n h = plus-zeros q n (omega arith)
plus_padded (c ∷ p) [] n h = absurd (omega arith)
plus_padded (c ∷ p) (d ∷ q) n h = ap (λ r. bit_xor c d ∷ r) (plus_padded p q n (omega arith))

pub plus_appended : (p q a b : List ℕ) → length p ≡ length a → plus (p ++ q) (a ++ b) ≡ plus p a ++ plus q b
unfolding plus
plus_appended [] q [] b h = refl
plus_appended [] q (d ∷ a) b h = absurd (omega arith)
plus_appended (c ∷ p) q [] b h = absurd (omega arith)
plus_appended (c ∷ p) q (d ∷ a) b h = ap (λ r. bit_xor c d ∷ r) (plus_appended p q a b (omega arith))

-- what is equal sums to zeros, and nothing else
pub plus_self : (p : List ℕ) → plus p p ≡ zeros (length p)
unfolding plus
plus_self [] = refl
plus_self (c ∷ p) = ap₂ {C = List ℕ} (λ x y. x ∷ y) (xor_self c) (plus_self p)

pub plus_none : (p q : List ℕ) → length p ≡ length q → ((k : ℕ) → k < length p → get_or (plus p q) k 0 ≡ 0) → p ≡ q
plus_none p q long none =
    same_reads p q long (λ k h. xor_same (get_or p k 0) (get_or q k 0) (sym (plus_reads p q k) ∙ none k h))

module _ (f : Field) where
  pub scaled_long : (c : ℕ) (p : List ℕ) → length (scaled f c p) ≡ length p
  unfolding scaled
  scaled_long c [] = refl
  scaled_long c (d ∷ p) = ap suc (scaled_long c p)

  pub elements_tail : (c : ℕ) (p : List ℕ) → Elements f (c ∷ p) → Elements f p
  elements_tail c p e k = e (suc k)

module _ (f : Field) (laws : Laws f) where
  -- it is enough that each number in the list is an element
  pub elements_within : (xs : List ℕ) → ((k : ℕ) → k < length xs → get_or xs k 0 < f.size) → Elements f xs
  elements_within xs each k = go (cases_lt k (length xs))
    where
      go : (k < length xs) ⊎ (length xs ≤ k) → get_or xs k 0 < f.size
      go (inl h) = each k h
      go (inr h) = rw (get_or_past xs k 0 h) (zero_element f laws)

  pub zeros_elements : (n : ℕ) → Elements f (zeros n)
  zeros_elements n k = rw (zeros_read n k) (zero_element f laws)

  pub plus_elements : (p q : List ℕ) → Elements f p → Elements f q → Elements f (plus p q)
  plus_elements p q ep eq k = rw (plus_reads p q k) (laws.sum_below (get_or p k 0) (get_or q k 0) (ep k) (eq k))

  pub scaled_elements : (c : ℕ) (p : List ℕ) → Elements f (scaled f c p)
  unfolding scaled
  scaled_elements c [] k = zero_element f laws
  scaled_elements c (d ∷ p) zero = laws.times_below c d
  scaled_elements c (d ∷ p) (suc k) = scaled_elements c p k

  pub joined_elements : (c : ℕ) (p : List ℕ) → c < f.size → Elements f p → Elements f (c ∷ p)
  joined_elements c p h e zero = h
  joined_elements c p h e (suc k) = e k

  pub append_elements : (p q : List ℕ) → Elements f p → Elements f q → Elements f (p ++ q)
  append_elements [] q ep eq = eq
  append_elements (c ∷ p) q ep eq = joined_elements c (p ++ q) (ep 0) (append_elements p q (λ k. ep (suc k)) eq)

  pub take_elements : (n : ℕ) (p : List ℕ) → Elements f p → Elements f (take n p)
  take_elements zero p e k = zero_element f laws
  take_elements (suc n) [] e k = zero_element f laws
  take_elements (suc n) (c ∷ p) e k = joined_elements c (take n p) (e 0) (take_elements n p (λ j. e (suc j))) k

  pub drop_elements : (n : ℕ) (p : List ℕ) → Elements f p → Elements f (drop n p)
  drop_elements zero p e k = e k
  drop_elements (suc n) [] e k = zero_element f laws
  drop_elements (suc n) (c ∷ p) e k = drop_elements n p (λ j. e (suc j)) k
