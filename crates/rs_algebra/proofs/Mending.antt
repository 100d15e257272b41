-- Values added to a word at some places. Assumes nothing.
use Rattle.std.proofs.Common.{◌≡◌, ℕ, zero, suc, ◌+◌, ◌-◌, ◌<◌, ◌≤◌, Bool, true, false, cond, eqb, List, [], ◌∷◌, ◌++◌, length, get_or, set, sym, refl, ap, ◌∙◌, ap₂, arith, length-set}
use lib.Bits.{bit_xor, xor_comm, xor_assoc, xor_zero_r}
use Rattle.std.proofs.lemmas.List.{get_or-set_same, get_or-set_other}
use Rattle.field.specs.Field.{Field, Laws, power, raised}
use Rattle.rs_algebra.specs.Polynomials.{Elements, zeros, plus}
use Rattle.field.specs.Polynomials.{value_at}
use Rattle.rs_algebra.specs.Words.{locator, weight, Places, mend, terms_at}
use Rattle.field.specs.Sums.{xor_again}
use Rattle.field.proofs.Facts.{times_right, power_swap}
use Rattle.rs_algebra.proofs.Lists.{zeros_long, zeros_read, plus_comm, plus-zeros}
use Rattle.rs_algebra.proofs.Polynomials.{value_zeros}

-- places of a list's rest
pub places_rest : (N w : ℕ) (ws : List ℕ) → Places N (w ∷ ws) → Places N ws
places_rest N w ws p = record {
  inside = λ i h. p.inside (suc i) (omega arith);
  once = λ i j h k. p.once (suc i) (suc j) (omega arith) (omega arith);
}

pub mend_long : (xs ws vs : List ℕ) → length (mend xs ws vs) ≡ length xs
unfolding mend
mend_long xs [] vs = refl
mend_long xs (w ∷ ws) [] = refl
mend_long xs (w ∷ ws) (v ∷ vs) =
    mend_long (set xs w (bit_xor (get_or xs w 0) v)) ws vs ∙ length-set xs w (bit_xor (get_or xs w 0) v)

-- one place more
pub mend_more : (xs ws vs : List ℕ) (w v : ℕ) → length ws ≡ length vs
    → mend xs (ws ++ w ∷ []) (vs ++ v ∷ []) ≡ set (mend xs ws vs) w (bit_xor (get_or (mend xs ws vs) w 0) v)
unfolding mend
mend_more xs [] [] w v h = refl
mend_more xs [] (b ∷ vs) w v h = absurd (omega arith)
mend_more xs (a ∷ ws) [] w v h = absurd (omega arith)
mend_more xs (a ∷ ws) (b ∷ vs) w v h = mend_more (set xs a (bit_xor (get_or xs a 0) b)) ws vs w v (omega arith)

-- elsewhere nothing changes
pub mend_other : (xs ws vs : List ℕ) (k : ℕ) → ((i : ℕ) → i < length ws → ¬ (get_or ws i 0 ≡ k)) → get_or (mend xs ws vs) k 0 ≡ get_or xs k 0
unfolding mend
mend_other xs [] vs k other = refl
mend_other xs (w ∷ ws) [] k other = refl
mend_other xs (w ∷ ws) (v ∷ vs) k other =
    mend_other (set xs w (bit_xor (get_or xs w 0) v)) ws vs k (λ i h. other (suc i) (omega arith))
    ∙ get_or-set_other xs w k (bit_xor (get_or xs w 0) v) 0 (λ e. other 0 (omega arith) (sym e))

-- each place takes its value
pub mend_at : (xs ws vs : List ℕ) (i : ℕ) → Places (length xs) ws → length ws ≡ length vs → i < length ws
    → get_or (mend xs ws vs) (get_or ws i 0) 0 ≡ bit_xor (get_or xs (get_or ws i 0) 0) (get_or vs i 0)
unfolding mend
mend_at xs [] vs i p long h = absurd (omega arith)
mend_at xs (w ∷ ws) [] i p long h = absurd (omega arith)
mend_at xs (w ∷ ws) (v ∷ vs) zero p long h =
    mend_other (set xs w (bit_xor (get_or xs w 0) v)) ws vs w (λ i l e. p.once 0 (suc i) (omega arith) (omega arith) (sym e))
    ∙ get_or-set_same xs w (bit_xor (get_or xs w 0) v) 0 (p.inside 0 (omega arith))
mend_at xs (w ∷ ws) (v ∷ vs) (suc i) p long h =
    let y = bit_xor (get_or xs w 0) v in
    let rest : Places (length (set xs w y)) ws = rw (length-set xs w y) (places_rest (length xs) w ws p) in
    mend_at (set xs w y) ws vs i rest (omega arith) (omega arith)
    ∙ ap (λ a. bit_xor a (get_or vs i 0)) (get_or-set_other xs w (get_or ws i 0) y 0 (λ e. p.once 0 (suc i) (omega arith) (omega arith) (sym e)))

-- to add at places of a sum is to add at those of one of its two lists
set-plus : (a b : List ℕ) (k v : ℕ) → length a ≡ length b
    → set (plus a b) k (bit_xor (get_or (plus a b) k 0) v) ≡ plus a (set b k (bit_xor (get_or b k 0) v))
unfolding plus
set-plus [] [] k v h = refl
set-plus [] (y ∷ b) k v h = absurd (omega arith)
set-plus (x ∷ a) [] k v h = absurd (omega arith)
set-plus (x ∷ a) (y ∷ b) zero v h = ap (λ c. c ∷ plus a b) (xor_assoc x y v)
set-plus (x ∷ a) (y ∷ b) (suc k) v h = ap (λ c. bit_xor x y ∷ c) (set-plus a b k v (omega arith))

pub mend-plus : (a b ws vs : List ℕ) → length a ≡ length b → mend (plus a b) ws vs ≡ plus a (mend b ws vs)
unfolding mend
mend-plus a b [] vs h = refl
mend-plus a b (w ∷ ws) [] h = refl
mend-plus a b (w ∷ ws) (v ∷ vs) h =
    ap (λ c. mend c ws vs) (set-plus a b w v h)
    ∙ mend-plus a (set b w (bit_xor (get_or b w 0) v)) ws vs (h ∙ sym (length-set b w (bit_xor (get_or b w 0) v)))

-- a mended word is the word and the error added
pub mended_sum : (xs ws vs : List ℕ) → mend xs ws vs ≡ plus xs (mend (zeros (length xs)) ws vs)
mended_sum xs ws vs =
    ap (λ c. mend c ws vs) (sym (plus_comm xs (zeros (length xs)) ∙ plus-zeros xs (length xs) (omega arith)))
    ∙ mend-plus xs (zeros (length xs)) ws vs (sym (zeros_long (length xs)))

-- how many places are not 0
abbrev counts : ℕ → ℕ
counts x = cond (eqb x 0) 0 1

weight-set : (xs : List ℕ) (k v : ℕ) → k < length xs → weight (set xs k v) + counts (get_or xs k 0) ≡ weight xs + counts v
unfolding weight
weight-set [] k v h = absurd (omega arith)
weight-set (x ∷ xs) zero v h = omega arith
weight-set (x ∷ xs) (suc k) v h = omega (arith, weight-set xs k v (omega arith))

weight-mend : (xs ws vs : List ℕ) → Places (length xs) ws → length ws ≡ length vs → ((i : ℕ) → i < length ws → get_or xs (get_or ws i 0) 0 ≡ 0)
    → weight (mend xs ws vs) ≡ weight xs + weight vs
unfolding mend weight
weight-mend xs [] [] p long none = omega arith
weight-mend xs [] (v ∷ vs) p long none = absurd (omega arith)
weight-mend xs (w ∷ ws) [] p long none = absurd (omega arith)
weight-mend xs (w ∷ ws) (v ∷ vs) p long none =
    let y = bit_xor (get_or xs w 0) v in
    let z : get_or xs w 0 ≡ 0 = none 0 (omega arith) in
    let y-v : y ≡ v = ap (λ a. bit_xor a v) z in
    let rest : Places (length (set xs w y)) ws = rw (length-set xs w y) (places_rest (length xs) w ws p) in
    omega (
      arith,
      weight-mend (set xs w y) ws vs rest (omega arith)
          (λ i h. get_or-set_other xs w (get_or ws i 0) y 0 (λ e. p.once 0 (suc i) (omega arith) (omega arith) (sym e)) ∙ none (suc i) (omega arith)),
      weight-set xs w y (p.inside 0 (omega arith)),
      ap counts z,
      ap counts y-v,
    )

weight-zeros : (n : ℕ) → weight (zeros n) ≡ 0
unfolding weight
weight-zeros zero = refl
weight-zeros (suc n) = omega (arith, weight-zeros n)

pub error_weight : (N : ℕ) (ws vs : List ℕ) → Places N ws → length ws ≡ length vs → weight (mend (zeros N) ws vs) ≡ weight vs
error_weight N ws vs p long =
    omega (
      arith,
      weight-mend (zeros N) ws vs (rw (zeros_long N) p) long (λ i h. zeros_read N (get_or ws i 0)),
      weight-zeros N,
    )

pub weight_most : (xs : List ℕ) → weight xs ≤ length xs
unfolding weight
weight_most [] = omega arith
weight_most (x ∷ xs) = omega (arith, one (eqb x 0), weight_most xs)
  where
    one : (b : Bool) → cond b 0 1 ≤ 1
    one true = omega arith
    one false = omega arith

module _ (f : Field) (laws : Laws f) where
  set_elements : (xs : List ℕ) (k v : ℕ) → Elements f xs → v < f.size → Elements f (set xs k v)
  set_elements [] k v e h i = e i
  set_elements (x ∷ xs) zero v e h zero = h
  set_elements (x ∷ xs) zero v e h (suc i) = e (suc i)
  set_elements (x ∷ xs) (suc k) v e h zero = e 0
  set_elements (x ∷ xs) (suc k) v e h (suc i) = set_elements xs k v (λ j. e (suc j)) h i

  pub mend_elements : (xs ws vs : List ℕ) → Elements f xs → Elements f vs → Elements f (mend xs ws vs)
  unfolding mend
  mend_elements xs [] vs e h k = e k
  mend_elements xs (w ∷ ws) [] e h k = e k
  mend_elements xs (w ∷ ws) (v ∷ vs) e h k =
      mend_elements (set xs w (bit_xor (get_or xs w 0) v)) ws vs
      (set_elements xs w (bit_xor (get_or xs w 0) v) e (laws.sum_below (get_or xs w 0) v (e w) (h 0))) (λ j. h (suc j)) k

  -- a value put at a place
  pub value_set : (w : List ℕ) (k v x : ℕ) → k < length w
      → value_at f (set w k v) x ≡ bit_xor (value_at f w x) (f.times (bit_xor (get_or w k 0) v) (raised f.times x (length w - 1 - k)))
  unfolding value_at
  value_set [] k v x h = absurd (omega arith)
  value_set (c ∷ p) zero v x h =
      let e : suc (length p) - 1 - 0 ≡ length p = omega arith in
      rw e (close c v (raised f.times x (length p)) (value_at f p x))
    where
      close : (c v y q : ℕ) → bit_xor (f.times v y) q ≡ bit_xor (bit_xor (f.times c y) q) (f.times (bit_xor c v) y)
      close c v y q = simp (times_right f laws, xor_assoc, xor_comm, xor_again)
  value_set (c ∷ p) (suc k) v x h =
      let e : suc (length p) - 1 - suc k ≡ length p - 1 - k = omega arith in
      rw (e, length-set p k v, value_set p k v x (omega arith))
      (sym (xor_assoc (f.times c (raised f.times x (length p))) (value_at f p x) (f.times (bit_xor (get_or p k 0) v) (raised f.times x (length p - 1 - k)))))

  -- the syndromes of what is mended
  pub value_mend : (xs ws vs : List ℕ) (j : ℕ) → ((i : ℕ) → i < length ws → get_or ws i 0 < length xs)
      → value_at f (mend xs ws vs) (power f j) ≡ bit_xor (value_at f xs (power f j)) (terms_at f (length xs) ws vs j)
  unfolding mend terms_at
  value_mend xs [] vs j h = sym (xor_zero_r (value_at f xs (power f j)))
  value_mend xs (w ∷ ws) [] j h = sym (xor_zero_r (value_at f xs (power f j)))
  value_mend xs (w ∷ ws) (v ∷ vs) j h =
      let N = length xs in
      let y = bit_xor (get_or xs w 0) v in
      let l : length (set xs w y) ≡ N = length-set xs w y in
      value_mend (set xs w y) ws vs j (λ i k. rw l (h (suc i) (omega arith)))
      ∙ ap₂ bit_xor (
      value_set xs w y (power f j) (h 0 (omega arith))
      ∙ ap₂ (λ a b. bit_xor (value_at f xs (power f j)) (f.times a b)) (xor_again (get_or xs w 0) v) (power_swap f laws j (N - 1 - w))
      ) (ap (λ n. terms_at f n ws vs j) l)
      ∙ xor_assoc (value_at f xs (power f j)) (f.times v (raised f.times (locator f N w) j)) (terms_at f N ws vs j)

  pub error_value : (N : ℕ) (ws vs : List ℕ) (j : ℕ) → ((i : ℕ) → i < length ws → get_or ws i 0 < N)
      → value_at f (mend (zeros N) ws vs) (power f j) ≡ terms_at f N ws vs j
  error_value N ws vs j h =
      value_mend (zeros N) ws vs j (λ i l. rw (zeros_long N) (h i l))
      ∙ ap₂ bit_xor (value_zeros f laws N (power f j)) (ap (λ n. terms_at f n ws vs j) (zeros_long N))

  -- one term more
  pub terms_more : (N : ℕ) (ws vs : List ℕ) (w v j : ℕ) → length ws ≡ length vs
      → terms_at f N (ws ++ w ∷ []) (vs ++ v ∷ []) j ≡ bit_xor (terms_at f N ws vs j) (f.times v (raised f.times (locator f N w) j))
  unfolding terms_at
  terms_more N [] [] w v j h = xor_zero_r (f.times v (raised f.times (locator f N w) j))
  terms_more N [] (b ∷ vs) w v j h = absurd (omega arith)
  terms_more N (a ∷ ws) [] w v j h = absurd (omega arith)
  terms_more N (a ∷ ws) (b ∷ vs) w v j h =
      ap (bit_xor (f.times b (raised f.times (locator f N a) j))) (terms_more N ws vs w v j (omega arith))
      ∙ sym (xor_assoc (f.times b (raised f.times (locator f N a) j)) (terms_at f N ws vs j) (f.times v (raised f.times (locator f N w) j)))
