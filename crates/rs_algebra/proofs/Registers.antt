-- The check octets of a message by a register. Assumes nothing.
use Rattle.std.proofs.Common.{◌≡◌, ℕ, zero, suc, ◌+◌, ◌<◌, ◌≤◌, List, [], ◌∷◌, ◌++◌, length, get_or, take, drop, sym, refl, ap, ◌∙◌, ap₂, arith, length-append, length-drop}
use lib.Bits.{bit_xor}
use Rattle.std.proofs.lemmas.List.{take_more, length_push}
use Rattle.field.specs.Field.{Field, Laws}
use Rattle.rs_algebra.specs.Polynomials.{Elements, zeros, plus, scaled, generator}
use Rattle.rs_algebra.specs.Words.{remainder, check_of, register_step, register}
use Rattle.rs_algebra.proofs.Lists.{zeros_long, plus_long, plus_comm, plus_assoc, plus-zeros, plus_padded, plus_reads, scaled_long, plus_elements, scaled_elements, append_elements, drop_elements, zeros_elements}
use Rattle.rs_algebra.proofs.LowFirst.{scaled_reads}
use Rattle.rs_algebra.proofs.Division.{lower_long}

module _ (f : Field) (laws : Laws f) where
  pub step_long : (g reg : List ℕ) (c : ℕ) → length (drop 1 g) ≡ length reg → length (register_step f g reg c) ≡ length reg
  unfolding register_step
  step_long g reg c h =
      let up : length (drop 1 (reg ++ 0 ∷ [])) ≡ length reg = omega (arith, length-drop 1 (reg ++ 0 ∷ []), length_push reg 0) in
      plus_long (scaled f (bit_xor (get_or reg 0 0) c) (drop 1 g)) (drop 1 (reg ++ 0 ∷ [])) (omega (arith, scaled_long f (bit_xor (get_or reg 0 0) c) (drop 1 g))) ∙ up

  pub step_elements : (g reg : List ℕ) (c : ℕ) → Elements f reg → Elements f (register_step f g reg c)
  unfolding register_step
  step_elements g reg c e =
      plus_elements f laws (scaled f (bit_xor (get_or reg 0 0) c) (drop 1 g)) (drop 1 (reg ++ 0 ∷ [])) (scaled_elements f laws (bit_xor (get_or reg 0 0) c) (drop 1 g))
      (drop_elements f laws 1 (reg ++ 0 ∷ []) (append_elements f laws reg (0 ∷ []) e (zeros_elements f laws 1)))

  -- place k of the register after a step
  pub step_reads : (g reg : List ℕ) (c k : ℕ)
      → get_or (register_step f g reg c) k 0 ≡ bit_xor (f.times (bit_xor (get_or reg 0 0) c) (get_or g (k + 1) 0)) (get_or reg (k + 1) 0)
  unfolding register_step
  step_reads g reg c k =
      plus_reads (scaled f (bit_xor (get_or reg 0 0) c) (drop 1 g)) (drop 1 (reg ++ 0 ∷ [])) k
      ∙ ap₂ bit_xor (scaled_reads f laws (bit_xor (get_or reg 0 0) c) (drop 1 g) k ∙ ap (f.times (bit_xor (get_or reg 0 0) c)) (behind g k)) (moved reg k)
    where
      behind : (g : List ℕ) (k : ℕ) → get_or (drop 1 g) k 0 ≡ get_or g (k + 1) 0
      behind [] k = refl
      behind (d ∷ g) k = let e : suc k ≡ k + 1 = omega arith in ap (λ n. get_or (d ∷ g) n 0) e

      padded : (p : List ℕ) (k : ℕ) → get_or (p ++ 0 ∷ []) k 0 ≡ get_or p k 0
      padded [] zero = refl
      padded [] (suc k) = refl
      padded (d ∷ p) zero = refl
      padded (d ∷ p) (suc k) = padded p k

      moved : (reg : List ℕ) (k : ℕ) → get_or (drop 1 (reg ++ 0 ∷ [])) k 0 ≡ get_or reg (k + 1) 0
      moved reg k = behind (reg ++ 0 ∷ []) k ∙ padded reg (k + 1)

  -- one octet more
  register_push : (g reg m : List ℕ) (c : ℕ) → register f g reg (m ++ c ∷ []) ≡ register_step f g (register f g reg m) c
  unfolding register
  register_push g reg [] c = refl
  register_push g reg (d ∷ m) c = register_push g (register_step f g reg d) m c

  pub register_next : (g reg m : List ℕ) (i : ℕ) → i < length m → register f g reg (take (i + 1) m) ≡ register_step f g (register f g reg (take i m)) (get_or m i 0)
  register_next g reg m i h = ap (register f g reg) (take_more m i 0 h) ∙ register_push g reg (take i m) (get_or m i 0)

  pub register_none : (g reg m : List ℕ) → register f g reg (take 0 m) ≡ reg
  unfolding register
  register_none g reg m = refl

  front : (reg x : List ℕ) (c : ℕ) → plus reg (c ∷ x) ≡ bit_xor (get_or reg 0 0) c ∷ plus (drop 1 reg) x
  unfolding plus
  front [] x c = refl
  front (r ∷ reg) x c = refl

  up : (reg x : List ℕ) → length reg ≤ length x → plus (drop 1 (reg ++ 0 ∷ [])) x ≡ plus (drop 1 reg) x
  up [] x h = refl
  up (r ∷ reg) x h = plus_padded reg x 1 (omega arith)

  stepped : (g reg x : List ℕ) (c : ℕ) → length reg ≤ length x
      → plus (scaled f (bit_xor (get_or reg 0 0) c) (drop 1 g)) (plus (drop 1 reg) x) ≡ plus (register_step f g reg c) x
  unfolding register_step
  stepped g reg x c h =
      ap (plus (scaled f (bit_xor (get_or reg 0 0) c) (drop 1 g))) (sym (up reg x h))
      ∙ sym (plus_assoc (scaled f (bit_xor (get_or reg 0 0) c) (drop 1 g)) (drop 1 (reg ++ 0 ∷ [])) x)

  divides : (g m reg : List ℕ) (R : ℕ) → length (drop 1 g) ≡ R → length reg ≡ R
      → remainder f g (length m) (plus reg (m ++ zeros R)) ≡ register f g reg m
  unfolding remainder register
  divides g [] reg R l h = plus_comm reg (zeros R) ∙ plus-zeros reg R (omega arith)
  divides g (c ∷ m) reg R l h =
      let long : length (m ++ zeros R) ≡ length m + R = length-append m (zeros R) ∙ ap (λ n. length m + n) (zeros_long R) in
      ap (remainder f g (suc (length m))) (front reg (m ++ zeros R) c)
      ∙ ap (remainder f g (length m)) (stepped g reg (m ++ zeros R) c (omega arith))
      ∙ divides g m (register_step f g reg c) R l (step_long g reg c (l ∙ sym h) ∙ h)

  -- the check octets are what the register holds at the end
  pub check_register : (R : ℕ) (m : List ℕ) → check_of f R m ≡ register f (generator f R) (zeros R) m
  unfolding check_of
  check_register R m =
      let long : length (m ++ zeros R) ≡ length m + R = length-append m (zeros R) ∙ ap (λ n. length m + n) (zeros_long R) in
      ap (remainder f (generator f R) (length m)) (sym (plus-zeros (m ++ zeros R) R (omega arith)))
      ∙ divides (generator f R) m (zeros R) R (lower_long f laws R) (zeros_long R)
