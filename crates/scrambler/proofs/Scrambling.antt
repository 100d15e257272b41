-- What scrambling does to messages. Assumes nothing.
use Rattle.std.proofs.Common.{◌≡◌, ℕ, suc, ◌+◌, ◌-◌, ◌*◌, ◌≤◌, Bool, true, false, List, [], ◌∷◌, ◌++◌, length, drop, sym, refl, ap, ◌∙◌, ap₂, append_assoc, append-nil, arith, length-append, length-drop, drop-drop}
use lib.Seq.{drop-append-le, drop-append-add}
use Rattle.scrambler.specs.Bits.{◌⊕◌, bits_of, number_of, message_bits, octets_of, Octets}
use Rattle.scrambler.specs.Scrambler.{latest, taps, scrambled_bits, descrambled_bits, scrambled, descrambled, after, Sample}
use Rattle.scrambler.proofs.Bits.{bits_of_octets, length_message_bits, length-octets, message_bits-append, octets-append, octets_are, octets_of_bits}

pub sample : Sample
unfolding scrambled scrambled_bits message_bits octets_of bits_of number_of
sample = refl

-- ---- the last 23 bits

pub length-latest : (xs : List Bool) → 23 ≤ length xs → length (latest xs) ≡ 23
length-latest xs h = simp length-drop (omega arith)

pub latest_all : (xs : List Bool) → length xs ≤ 23 → latest xs ≡ xs
latest_all xs h = let none : length xs - 23 ≡ 0 = omega arith in ap (λ (n : ℕ). drop n xs) none

pub latest-append : (xs ys : List Bool) → latest (latest xs ++ ys) ≡ latest (xs ++ ys)
latest-append xs ys =
    let within : length xs - 23 ≤ length xs = omega arith in
    let cut : latest xs ++ ys ≡ drop (length xs - 23) (xs ++ ys) = sym (drop-append-le (length xs - 23) xs ys within) in
    let places : length xs - 23 + (length (latest xs ++ ys) - 23) ≡ length (xs ++ ys) - 23
    = simp (length-append, length-drop) (omega arith) in
    ap (drop (length (latest xs ++ ys) - 23)) cut
    ∙ drop-drop (length (latest xs ++ ys) - 23) (length xs - 23) (xs ++ ys)
    ∙ ap (λ (n : ℕ). drop n (xs ++ ys)) places

pub latest_renewed : (xs ys : List Bool) → 23 ≤ length ys → latest (xs ++ ys) ≡ latest ys
latest_renewed xs ys h =
    let places : length (xs ++ ys) - 23 ≡ length xs + (length ys - 23) = simp length-append (omega arith) in
    ap (λ (n : ℕ). drop n (xs ++ ys)) places ∙ drop-append-add xs ys (length ys - 23)

-- one bit more after 23 bits
pub next : (e : List Bool) (x : Bool) → length e ≡ 23 → length (latest (e ++ x ∷ [])) ≡ 23
next e x h = length-latest (e ++ x ∷ []) (simp length-append (omega arith))

one_more : (e : List Bool) (x : Bool) (xs : List Bool) → latest (latest (e ++ x ∷ []) ++ xs) ≡ latest (e ++ x ∷ xs)
one_more e x xs = latest-append (e ++ x ∷ []) xs ∙ ap latest (append_assoc e (x ∷ []) xs)

none_more : (e : List Bool) → length e ≡ 23 → latest (e ++ []) ≡ e
none_more e h = ap latest (append-nil e) ∙ latest_all e (omega arith)

-- ---- bits

twice : (a b : Bool) → a ⊕ b ⊕ b ≡ a
twice true true = refl
twice true false = refl
twice false true = refl
twice false false = refl

pub length-scrambled-bits : (e ms : List Bool) → length (scrambled_bits e ms) ≡ length ms
unfolding scrambled_bits
length-scrambled-bits e [] = refl
length-scrambled-bits e (m ∷ ms) = ap suc (length-scrambled-bits (latest (e ++ (m ⊕ taps e) ∷ [])) ms)

pub length-descrambled-bits : (e xs : List Bool) → length (descrambled_bits e xs) ≡ length xs
unfolding descrambled_bits
length-descrambled-bits e [] = refl
length-descrambled-bits e (x ∷ xs) = ap suc (length-descrambled-bits (latest (e ++ x ∷ [])) xs)

pub undo_bits : (e ms : List Bool) → descrambled_bits e (scrambled_bits e ms) ≡ ms
unfolding scrambled_bits descrambled_bits
undo_bits e [] = refl
undo_bits e (m ∷ ms) = ap₂ {C = List Bool} (λ x y. x ∷ y) (twice m (taps e)) (undo_bits (latest (e ++ (m ⊕ taps e) ∷ [])) ms)

pub redo_bits : (e xs : List Bool) → scrambled_bits e (descrambled_bits e xs) ≡ xs
unfolding scrambled_bits descrambled_bits
redo_bits e [] = refl
redo_bits e (x ∷ xs) =
    ap (λ y. y ∷ scrambled_bits (latest (e ++ y ∷ [])) (descrambled_bits (latest (e ++ x ∷ [])) xs)) (twice x (taps e))
    ∙ ap {B = List Bool} (λ r. x ∷ r) (redo_bits (latest (e ++ x ∷ [])) xs)

pub scrambled-bits-append : (e xs ys : List Bool) → length e ≡ 23
    → scrambled_bits e (xs ++ ys) ≡ scrambled_bits e xs ++ scrambled_bits (latest (e ++ scrambled_bits e xs)) ys
unfolding scrambled_bits
scrambled-bits-append e [] ys h = ap (λ r. scrambled_bits r ys) (sym (none_more e h))
scrambled-bits-append e (m ∷ ms) ys h =
    let x = m ⊕ taps e in
    let e' = latest (e ++ x ∷ []) in
    ap {B = List Bool} (λ r. x ∷ r)
    (scrambled-bits-append e' ms ys (next e x h)
    ∙ ap (λ r. scrambled_bits e' ms ++ scrambled_bits r ys) (one_more e x (scrambled_bits e' ms)))

pub descrambled-bits-append : (e xs ys : List Bool) → length e ≡ 23
    → descrambled_bits e (xs ++ ys) ≡ descrambled_bits e xs ++ descrambled_bits (latest (e ++ xs)) ys
unfolding descrambled_bits
descrambled-bits-append e [] ys h = ap (λ r. descrambled_bits r ys) (sym (none_more e h))
descrambled-bits-append e (x ∷ xs) ys h =
    let e' = latest (e ++ x ∷ []) in
    ap {B = List Bool} (λ r. (x ⊕ taps e) ∷ r)
    (descrambled-bits-append e' xs ys (next e x h)
    ∙ ap (λ r. descrambled_bits e' xs ++ descrambled_bits r ys) (one_more e x xs))

-- ---- octets, by way of their bits

module _ (F : List Bool → List Bool → List Bool) (kept : (e bs : List Bool) → length (F e bs) ≡ length bs) where
  abbrev through : List Bool → List ℕ → List ℕ
  through e ms = octets_of (length ms) (F e (message_bits ms))

  whole : (e : List Bool) (ms : List ℕ) → length (F e (message_bits ms)) ≡ 8 * length ms
  whole e ms = kept e (message_bits ms) ∙ length_message_bits ms

  length-through : (e : List Bool) (ms : List ℕ) → length (through e ms) ≡ length ms
  length-through e ms = length-octets (length ms) (F e (message_bits ms))

  through-bits : (e : List Bool) (ms : List ℕ) → message_bits (through e ms) ≡ F e (message_bits ms)
  through-bits e ms = bits_of_octets (length ms) (F e (message_bits ms)) (whole e ms)

  through-append : (e e' : List Bool) (xs ys : List ℕ)
      → F e (message_bits xs ++ message_bits ys) ≡ F e (message_bits xs) ++ F e' (message_bits ys)
      → through e (xs ++ ys) ≡ through e xs ++ through e' ys
  through-append e e' xs ys h =
      ap₂ octets_of (length-append xs ys) (ap (F e) (message_bits-append xs ys) ∙ h)
      ∙ octets-append (length xs) (length ys) (F e (message_bits xs)) (F e' (message_bits ys)) (whole e xs)

  -- back by way of what undoes F
  through_back : (G : List Bool → List Bool → List Bool) → ((e bs : List Bool) → G e (F e bs) ≡ bs) → (e : List Bool) (ms : List ℕ)
      → Octets ms → octets_of (length (through e ms)) (G e (message_bits (through e ms))) ≡ ms
  through_back G back e ms h =
      ap₂ octets_of (length-through e ms) (ap (G e) (through-bits e ms) ∙ back e (message_bits ms)) ∙ octets_of_bits ms h

-- ---- messages keep their length, and are octets

pub scrambled-bits : (e : List Bool) (ms : List ℕ) → message_bits (scrambled e ms) ≡ scrambled_bits e (message_bits ms)
unfolding scrambled
scrambled-bits = through-bits scrambled_bits length-scrambled-bits

pub length-scrambled : (e : List Bool) (ms : List ℕ) → length (scrambled e ms) ≡ length ms
unfolding scrambled
length-scrambled = length-through scrambled_bits length-scrambled-bits

pub length-descrambled : (e : List Bool) (xs : List ℕ) → length (descrambled e xs) ≡ length xs
unfolding descrambled
length-descrambled = length-through descrambled_bits length-descrambled-bits

pub scrambled-octets : (e : List Bool) (ms : List ℕ) → Octets (scrambled e ms)
unfolding scrambled
scrambled-octets e ms = octets_are (length ms) (scrambled_bits e (message_bits ms))

pub descrambled-octets : (e : List Bool) (xs : List ℕ) → Octets (descrambled e xs)
unfolding descrambled
descrambled-octets e xs = octets_are (length xs) (descrambled_bits e (message_bits xs))

-- ---- the two are inverse

pub undo : (e : List Bool) (ms : List ℕ) → Octets ms → descrambled e (scrambled e ms) ≡ ms
unfolding scrambled descrambled
undo = through_back scrambled_bits length-scrambled-bits descrambled_bits undo_bits

pub redo : (e : List Bool) (xs : List ℕ) → Octets xs → scrambled e (descrambled e xs) ≡ xs
unfolding scrambled descrambled
redo = through_back descrambled_bits length-descrambled-bits scrambled_bits redo_bits

pub injective : (e : List Bool) (xs ys : List ℕ) → Octets xs → Octets ys → descrambled e xs ≡ descrambled e ys → xs ≡ ys
injective e xs ys h k same = sym (redo e xs h) ∙ ap (scrambled e) same ∙ redo e ys k

-- ---- the earlier bits

pub length-after : (e : List Bool) (xs : List ℕ) → length e ≡ 23 → length (after e xs) ≡ 23
unfolding after
length-after e xs h = length-latest (e ++ message_bits xs) (simp length-append (omega arith))

pub renewed : (e e' : List Bool) (xs : List ℕ) → 3 ≤ length xs → after e xs ≡ after e' xs
unfolding after
renewed e e' xs h =
    let long : 23 ≤ length (message_bits xs) = omega (arith, length_message_bits xs) in
    latest_renewed e (message_bits xs) long ∙ sym (latest_renewed e' (message_bits xs) long)

pub after_none : (e : List Bool) → length e ≡ 23 → after e [] ≡ e
unfolding after message_bits
after_none e h = none_more e h

-- ---- running on from message to message

pub after-append : (e : List Bool) (xs ys : List ℕ) → after e (xs ++ ys) ≡ after (after e xs) ys
unfolding after
after-append e xs ys =
    ap (λ r. latest (e ++ r)) (message_bits-append xs ys)
    ∙ ap latest (sym (append_assoc e (message_bits xs) (message_bits ys)))
    ∙ sym (latest-append (e ++ message_bits xs) (message_bits ys))

-- what came before the last three octets is forgotten
pub renewed_end : (e e' : List Bool) (xs ys : List ℕ) → 3 ≤ length ys → after e (xs ++ ys) ≡ after e' ys
renewed_end e e' xs ys h = after-append e xs ys ∙ renewed (after e xs) e' ys h

pub scrambled-append : (e : List Bool) (xs ys : List ℕ) → length e ≡ 23
    → scrambled e (xs ++ ys) ≡ scrambled e xs ++ scrambled (after e (scrambled e xs)) ys
unfolding scrambled after
scrambled-append e xs ys h =
    through-append scrambled_bits length-scrambled-bits e (after e (scrambled e xs)) xs ys
    (scrambled-bits-append e (message_bits xs) (message_bits ys) h
    ∙ ap (λ r. scrambled_bits e (message_bits xs) ++ scrambled_bits (latest (e ++ r)) (message_bits ys)) (sym (scrambled-bits e xs)))

pub descrambled-append : (e : List Bool) (xs ys : List ℕ) → length e ≡ 23
    → descrambled e (xs ++ ys) ≡ descrambled e xs ++ descrambled (after e xs) ys
unfolding descrambled after
descrambled-append e xs ys h =
    through-append descrambled_bits length-descrambled-bits e (after e xs) xs ys
    (descrambled-bits-append e (message_bits xs) (message_bits ys) h)
