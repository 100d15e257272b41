-- The register as one number, and the rows that feed it. Assumes nothing.
use Rattle.std.proofs.Common.{◌≡◌, ℕ, suc, ◌+◌, ◌*◌, ◌/◌, ◌%◌, ◌^◌, ◌<◌, ◌≤◌, ◌⊎◌, List, [], ◌∷◌, ◌++◌, length, get_or, drop, set, sym, refl, ap, ◌∙◌, ap₂, inl, inr, fold, reverse, arith}
use lib.Bits.{bit_xor, xor_comm, xor_lt}
use Rattle.std.proofs.lemmas.List.{drop-drop, get_or-drop, get_or-set_other, get_or-set_same, length-drop, length-set}
use Rattle.std.proofs.lemmas.Bool.{cases_lt}
use Rattle.coder.specs.Codes.{Octets}
use Rattle.field.specs.Binary.{octets}
use Rattle.field.specs.Octets.{octet_laws}
use Rattle.rs_algebra.specs.Polynomials.{zeros, scaled, generator}
use Rattle.rs_algebra.specs.Words.{register_step, register, check_of}
use Rattle.rs_algebra.proofs.Lists.{same_reads, zeros_long, zeros_elements, scaled_elements, append_elements, drop_elements}
use Rattle.rs_algebra.proofs.Division.{lower_long}
use Rattle.rs_algebra.proofs.Registers.{step_long, step_elements, check_register}
use Rattle.reed_solomon.specs.Rows.{packed, RowsOf, fed_back}
use Rattle.reed_solomon.proofs.Folds.{fold-reverse}
use Rattle.reed_solomon.proofs.Packing.{packed-plus, packed_top, packed_zero, packed-zeros, packed_up, packed_down}

-- one octet of a message
pub fed : (R : ℕ) (rows : List ℕ) → RowsOf R rows → (reg : List ℕ) (c : ℕ) → Octets reg → length reg ≤ 16 → c < 256
    → fed_back rows (packed 16 reg) c ≡ packed 16 (register_step octets (generator octets R) reg c)
unfolding register_step
fed R rows right reg c o long octet =
    let back : ℕ = bit_xor (get_or reg 0 0) c in
    let below : back < 256 = xor_lt 8 (get_or reg 0 0) c (o 0) octet in
    let row : List ℕ = scaled octets back (drop 1 (generator octets R)) in
    let up : List ℕ = drop 1 (reg ++ 0 ∷ []) in
    let up-octets : Octets up = drop_elements octets octet_laws 1 (reg ++ 0 ∷ []) (append_elements octets octet_laws reg (0 ∷ []) o (zeros_elements octets octet_laws 1)) in
    ap₂ (λ a t. bit_xor a (get_or rows (bit_xor t c) 0)) (packed_up 15 reg o long ∙ moved reg) (packed_top 15 reg o)
    ∙ ap (λ r. bit_xor (packed 16 up) r) (right back below)
    ∙ xor_comm (packed 16 up) (packed 16 row)
    ∙ packed-plus 16 row up (scaled_elements octets octet_laws back (drop 1 (generator octets R))) up-octets
  where
    moved : (reg : List ℕ) → packed 16 (drop 1 reg) ≡ packed 16 (drop 1 (reg ++ 0 ∷ []))
    moved [] = refl
    moved (r ∷ reg) = sym (packed_zero 16 reg)

-- all octets of a message, from a register of R octets on
folded : (R : ℕ) (rows : List ℕ) → RowsOf R rows → R ≤ 16 → (reg m : List ℕ) → Octets reg → length reg ≡ R → Octets m
    → fold (fed_back rows) (packed 16 reg) m ≡ packed 16 (register octets (generator octets R) reg m)
unfolding register
folded R rows right few reg [] o long om = refl
folded R rows right few reg (c ∷ m) o long om =
    let g : List ℕ = generator octets R in
    ap (λ n. fold (fed_back rows) n m) (fed R rows right reg c o (omega (arith, long)) (om 0))
    ∙ folded R rows right few (register_step octets g reg c) m (step_elements octets octet_laws g reg c o)
    (step_long octets octet_laws g reg c (lower_long octets octet_laws R ∙ sym long) ∙ long) (λ k. om (suc k))

pub packed_check : (R : ℕ) (rows : List ℕ) → RowsOf R rows → R ≤ 16 → (m : List ℕ) → Octets m → fold (fed_back rows) 0 m ≡ packed 16 (check_of octets R m)
packed_check R rows right few m o =
    ap (λ n. fold (fed_back rows) n m) (sym (packed-zeros 16 R))
    ∙ folded R rows right few (zeros R) m (zeros_elements octets octet_laws R) (zeros_long R) o
    ∙ ap (packed 16) (sym (check_register octets octet_laws R m))

-- a row is packed from its last octet on
pub row_folded : (factor : ℕ) (p : List ℕ) → fold (λ row c. octets.times factor c * 2 ^ 120 + row / 256) 0 (reverse p) ≡ packed 16 (scaled octets factor p)
unfolding packed scaled
row_folded factor =
    fold-reverse (λ row c. octets.times factor c * 2 ^ 120 + row / 256) 0 (λ p. packed 16 (scaled octets factor p)) refl
    (λ c p. ap (λ r. octets.times factor c * 2 ^ 120 + r)
    (sym (packed_down 15 (scaled octets factor p) (scaled_elements octets octet_laws factor p))))

-- the first i octets of a number are written, and the others are left
abbrev pub Unpacked : (whole i left : ℕ) (held : List ℕ) → Type 0
Unpacked whole i left held =
    (xs : List ℕ) → Octets xs → length xs ≤ 16 → length xs ≡ length held → whole ≡ packed 16 xs
    → (left ≡ packed 16 (drop i xs)) × ((k : ℕ) → k < i → get_or held k 0 ≡ get_or xs k 0)

pub none_unpacked : (whole : ℕ) (held : List ℕ) → Unpacked whole 0 whole held
none_unpacked whole held xs o few long is = (is, λ k h. absurd (omega arith))

pub one_unpacked : (whole i left v : ℕ) (held : List ℕ) → i < length held → v ≡ left / 2 ^ 120 → Unpacked whole i left held
    → Unpacked whole (i + 1) (left * 2 ^ 8 % 2 ^ 128) (set held i v)
one_unpacked whole i left v held inside top so xs o few long is = (moved, λ k h. reads k h (cases_lt k i))
  where
    before : (left ≡ packed 16 (drop i xs)) × ((k : ℕ) → k < i → get_or held k 0 ≡ get_or xs k 0)
    before = so xs o few (long ∙ length-set held i v) is

    octets-left : Octets (drop i xs)
    octets-left = drop_elements octets octet_laws i xs o

    moved : left * 2 ^ 8 % 2 ^ 128 ≡ packed 16 (drop (i + 1) xs)
    moved =
        ap (λ n. n * 2 ^ 8 % 2 ^ 128) before.0
        ∙ packed_up 15 (drop i xs) octets-left (omega (arith, length-drop i xs))
        ∙ ap (packed 16) (drop-drop 1 i xs)

    first : v ≡ get_or xs i 0
    first =
        let e : i + 0 ≡ i = omega arith in
        top ∙ ap (λ n. n / 2 ^ 120) before.0 ∙ packed_top 15 (drop i xs) octets-left ∙ get_or-drop i xs 0 0 ∙ ap (λ j. get_or xs j 0) e

    reads : (k : ℕ) → k < i + 1 → (k < i) ⊎ (i ≤ k) → get_or (set held i v) k 0 ≡ get_or xs k 0
    reads k h (inl lower) = get_or-set_other held i k v 0 (omega arith) ∙ before.1 k lower
    reads k h (inr at) =
        let e : k ≡ i = omega arith in
        ap (λ j. get_or (set held i v) j 0) e ∙ get_or-set_same held i v 0 inside ∙ first ∙ ap (λ j. get_or xs j 0) (sym e)

pub all_unpacked : (whole i left : ℕ) (held : List ℕ) → length held ≤ i → Unpacked whole i left held
    → (xs : List ℕ) → Octets xs → length xs ≤ 16 → length xs ≡ length held → whole ≡ packed 16 xs → held ≡ xs
all_unpacked whole i left held all so xs o few long is =
    same_reads held xs (sym long) (λ k h. (so xs o few long is).1 k (omega arith))
