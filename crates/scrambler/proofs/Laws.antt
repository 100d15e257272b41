-- The laws of scrambled messages. Assumes nothing.
use Rattle.std.proofs.Common.{◌≡◌, ℕ, zero, suc, ◌+◌, ◌-◌, ◌<◌, ◌≤◌, Bool, true, false, not, ◌⊎◌, List, [], ◌∷◌, ◌++◌, length, take, drop, sym, refl, ap, ◌∙◌, ap₂, inl, inr, append_assoc, add-suc, arith, length-append, take-append-drop, length-take-le, drop_at}
use lib.ListN.{get_or-append}
use lib.Seq.{get_or_at}
use Rattle.std.proofs.lemmas.List.{drop_all}
use Rattle.std.proofs.lemmas.Bool.{cases_lt}
use Rattle.scrambler.specs.Bits.{◌⊕◌, message_bits, Octets}
use Rattle.scrambler.specs.Laws.{bit, Formula, Receiving, Sending, Sums}
use Rattle.scrambler.specs.Scrambler.{latest, taps, scrambled_bits, scrambled, descrambled, after}
use Rattle.scrambler.proofs.Scrambling.{descrambled-append, injective, length-descrambled, next, redo, renewed, scrambled-bits, undo}

-- ---- the formula

-- the line from the next bit on
onward : (e : List Bool) (x : Bool) (xs : List Bool) → length e ≡ 23 → (k : ℕ)
    → bit (e ++ x ∷ xs) (suc k) ≡ bit (latest (e ++ x ∷ []) ++ xs) k
onward [] x xs h k = absurd (omega arith)
onward (a ∷ e) x xs h k =
    let one : length (a ∷ e ++ x ∷ []) - 23 ≡ 1 = simp length-append (omega arith) in
    ap (λ r. bit r k) (sym (append_assoc e (x ∷ []) xs) ∙ ap (λ (n : ℕ). drop n (a ∷ e ++ x ∷ []) ++ xs) (sym one))

bit_formula : (e ms : List Bool) → length e ≡ 23 → (n : ℕ) → n < length ms
    → bit (e ++ scrambled_bits e ms) (23 + n)
    ≡ bit ms n ⊕ (bit (e ++ scrambled_bits e ms) (5 + n) ⊕ bit (e ++ scrambled_bits e ms) n)
unfolding scrambled_bits
bit_formula e [] h n l = absurd (omega arith)
bit_formula e (m ∷ ms) h zero l =
    let x = m ⊕ taps e in
    let xs = scrambled_bits (latest (e ++ x ∷ [])) ms in
    get_or_at e x xs false 23 h
    ∙ ap (λ t. m ⊕ t)
    (ap₂ (λ a b. a ⊕ b) (sym (get_or-append e (x ∷ xs) false 5 (omega arith))) (sym (get_or-append e (x ∷ xs) false 0 (omega arith))))
bit_formula e (m ∷ ms) h (suc n) l =
    let x = m ⊕ taps e in
    let e' = latest (e ++ x ∷ []) in
    let xs = scrambled_bits e' ms in
    let on = onward e x xs h in
    ap (bit (e ++ x ∷ xs)) (add-suc 23 n) ∙ on (23 + n)
    ∙ bit_formula e' ms (next e x h) n (omega arith)
    ∙ ap (λ t. bit ms n ⊕ t) (ap₂ (λ a b. a ⊕ b) (sym (ap (bit (e ++ x ∷ xs)) (add-suc 5 n) ∙ on (5 + n))) (sym (on n)))

plus_assoc : (a b c : Bool) → a ⊕ (b ⊕ c) ≡ a ⊕ b ⊕ c
plus_assoc true true c = both_ways c
  where
    both_ways : (c : Bool) → not (not c) ≡ c
    both_ways true = refl
    both_ways false = refl
plus_assoc true false c = refl
plus_assoc false b c = refl

pub formula : (e : List Bool) (ms : List ℕ) → length e ≡ 23 → Formula e ms (scrambled e ms)
formula e ms h = rw (scrambled-bits e ms) sums
  where
    line : List Bool
    line = e ++ scrambled_bits e (message_bits ms)

    sums : Sums line (message_bits ms)
    sums n l =
        let tap : 5 + n ≡ 23 + n - 18 = omega arith in
        let other : n ≡ 23 + n - 23 = omega arith in
        bit_formula e (message_bits ms) h n l
        ∙ plus_assoc (bit (message_bits ms) n) (bit line (5 + n)) (bit line n)
        ∙ ap₂ (λ (a b : ℕ). bit (message_bits ms) n ⊕ bit line a ⊕ bit line b) tap other

pub formula_back : (e : List Bool) (xs : List ℕ) → length e ≡ 23 → Octets xs → Formula e (descrambled e xs) xs
formula_back e xs h k = rw (redo e xs k) at (formula e (descrambled e xs) h)

-- ---- recovery

pub recovers : (e e' : List Bool) (xs : List ℕ) → length e ≡ 23 → length e' ≡ 23 → drop 3 (descrambled e' xs) ≡ drop 3 (descrambled e xs)
recovers e e' xs h h' = go (cases_lt (length xs) 3)
  where
    short : length xs < 3 → (e : List Bool) → drop 3 (descrambled e xs) ≡ []
    short less e = drop_all 3 (descrambled e xs) (omega (arith, length-descrambled e xs))

    tail : 3 ≤ length xs → (e : List Bool) → length e ≡ 23
        → drop 3 (descrambled e xs) ≡ descrambled (after e (take 3 xs)) (drop 3 xs)
    tail more e h =
        let first = take 3 xs in
        ap (λ r. drop 3 (descrambled e r)) (sym (take-append-drop 3 xs))
        ∙ ap (drop 3) (descrambled-append e first (drop 3 xs) h)
        ∙ drop_at (descrambled e first) (descrambled (after e first) (drop 3 xs)) 3
        (length-descrambled e first ∙ length-take-le 3 xs more)

    go : (length xs < 3) ⊎ (3 ≤ length xs) → drop 3 (descrambled e' xs) ≡ drop 3 (descrambled e xs)
    go (inl less) = short less e' ∙ sym (short less e)
    go (inr more) =
        let three : 3 ≤ length (take 3 xs) = omega (arith, length-take-le 3 xs more) in
        tail more e' h' ∙ ap (λ r. descrambled r (drop 3 xs)) (renewed e' e (take 3 xs) three) ∙ sym (tail more e h)

-- ---- all laws of a message

pub sending : (e e' : List Bool) (ms xs : List ℕ) → length e ≡ 23 → Octets ms → xs ≡ scrambled e ms → e' ≡ after e (scrambled e ms)
    → Sending e e' ms xs
sending e e' ms xs full octets made later =
    let sent = scrambled e ms in
    let laws : Sending e (after e sent) ms sent
    = record {
      formula = formula e ms full;
      undone = undo e ms octets;
      alike = refl;
      renewed = λ three others. renewed others e sent three;
    } in
    rw (made, later) laws

pub receiving : (e e' : List Bool) (xs ms : List ℕ) → length e ≡ 23 → Octets xs → ms ≡ descrambled e xs → e' ≡ after e xs
    → Receiving e e' xs ms
receiving e e' xs ms full octets made later =
    let laws : Receiving e (after e xs) xs (descrambled e xs)
    = record {
      formula = formula_back e xs full octets;
      redone = redo e xs octets;
      alone = λ other are same. injective e other xs are octets same;
      renewed = λ three others. renewed others e xs three;
      recovers = λ others h. recovers e others xs full h;
    } in
    rw (made, later) laws
