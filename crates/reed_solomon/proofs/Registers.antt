-- A step of the register in place. Assumes nothing.
use Rattle.std.proofs.Common.{◌≡◌, ℕ, zero, suc, ◌+◌, ◌-◌, ◌<◌, ◌≤◌, ◌⊎◌, List, [], ◌∷◌, ◌++◌, length, get_or, take, set, sym, refl, ap, ◌∙◌, ap₂, inl, inr, arith}
use Rattle.std.proofs.Math.Seq.{take-append_seam}
use lib.Bits.{bit_xor}
use Rattle.std.proofs.lemmas.Bool.{cases_lt}
use Rattle.std.proofs.lemmas.List.{length-append, length-drop, take_all, get_or_past, get_or-set_same, get_or-set_other}
use Rattle.field.specs.Field.{Field, Laws}
use Rattle.rs_algebra.specs.Polynomials.{zeros, generator}
use Rattle.rs_algebra.specs.Words.{register_step, register, check_of}
use Rattle.rs_algebra.proofs.Lists.{same_reads, zeros_long, zeros_read}
use Rattle.rs_algebra.proofs.Registers.{step_long, step_reads, register_none, register_next, check_register}

-- A register with a 0 behind it, while its places are written from the first one on: those before k are, and the others
-- stand as before.
pub record Fed (f : Field) (g before : List ℕ) (c k : ℕ) (held : List ℕ) : Type 0 where
  pub written : (j : ℕ) → j < k
      → get_or held j 0 ≡ bit_xor (f.times (bit_xor (get_or before 0 0) c) (get_or g (j + 1) 0)) (get_or before (j + 1) 0)
  pub ahead : (j : ℕ) → k ≤ j → get_or held j 0 ≡ get_or before j 0

padded : (p : List ℕ) (k : ℕ) → get_or (p ++ 0 ∷ []) k 0 ≡ get_or p k 0
padded [] zero = refl
padded [] (suc k) = refl
padded (d ∷ p) zero = refl
padded (d ∷ p) (suc k) = padded p k

module _ (f : Field) (g before : List ℕ) (c : ℕ) where
  pub begun : Fed f g before c 0 before
  begun = record { written = λ j h. absurd (omega (arith, h)); ahead = λ j h. refl }

  -- one place more; v is what is written there
  pub more : (k v : ℕ) (held : List ℕ) → k < length held → Fed f g before c k held
      → v ≡ bit_xor (f.times (bit_xor (get_or before 0 0) c) (get_or g (k + 1) 0)) (get_or held (k + 1) 0)
      → Fed f g before c (k + 1) (set held k v)
  more k v held inside now is = record {
    written = λ j h. place j h (cases_lt j k);
    ahead = λ j h. get_or-set_other held k j v 0 (omega arith) ∙ now.ahead j (omega arith);
  }
    where
      place : (j : ℕ) → j < k + 1 → (j < k) ⊎ (k ≤ j)
          → get_or (set held k v) j 0 ≡ bit_xor (f.times (bit_xor (get_or before 0 0) c) (get_or g (j + 1) 0)) (get_or before (j + 1) 0)
      place j h (inl past) = get_or-set_other held k j v 0 (omega arith) ∙ now.written j past
      place j h (inr at) =
          let e : k ≡ j = omega arith in
          ap (λ i. get_or (set held k v) i 0) (sym e) ∙ get_or-set_same held k v 0 inside ∙ is
          ∙ ap (bit_xor (f.times (bit_xor (get_or before 0 0) c) (get_or g (k + 1) 0))) (now.ahead (k + 1) (omega arith))
          ∙ ap (λ i. bit_xor (f.times (bit_xor (get_or before 0 0) c) (get_or g (i + 1) 0)) (get_or before (i + 1) 0)) e

  -- and all places
  pub fed : Laws f → (held : List ℕ) → length g ≡ length before → length held ≡ length before → Fed f g before c (length before - 1) held
      → (reg : List ℕ) → before ≡ reg ++ 0 ∷ [] → held ≡ register_step f g reg c ++ 0 ∷ []
  fed laws held long same now reg is =
      same_reads held (register_step f g reg c ++ 0 ∷ []) (omega (arith, one, step, length-append (register_step f g reg c) (0 ∷ []))) (λ j h. place j (cases_lt j (length reg)))
    where
      one : length before ≡ length reg + 1
      one = ap length is ∙ length-append reg (0 ∷ [])

      step : length (register_step f g reg c) ≡ length reg
      step = step_long f laws g reg c (omega (arith, one, length-drop 1 g))

      reads : (j : ℕ) → get_or before j 0 ≡ get_or reg j 0
      reads j = ap (λ xs. get_or xs j 0) is ∙ padded reg j

      place : (j : ℕ) → (j < length reg) ⊎ (length reg ≤ j) → get_or held j 0 ≡ get_or (register_step f g reg c ++ 0 ∷ []) j 0
      place j (inl l) =
          now.written j (omega (arith, one))
          ∙ ap₂ bit_xor (ap (λ x. f.times (bit_xor x c) (get_or g (j + 1) 0)) (reads 0)) (reads (j + 1))
          ∙ sym (step_reads f laws g reg c j) ∙ sym (padded (register_step f g reg c) j)
      place j (inr p) =
          now.ahead j (omega (arith, one)) ∙ reads j ∙ get_or_past reg j 0 p
          ∙ sym (get_or_past (register_step f g reg c) j 0 (omega (arith, step))) ∙ sym (padded (register_step f g reg c) j)

-- The register over a message: p is a generator polynomial, and the register has R octets, with a 0 behind them.
module _ (f : Field) (laws : Laws f) (p : List ℕ) (R : ℕ) (m : List ℕ) where
  -- after i octets
  pub Passed : (i : ℕ) → List ℕ → Type 0
  Passed i held = held ≡ register f p (zeros R) (take i m) ++ 0 ∷ []

  pub none_passed : (held : List ℕ) → held ≡ zeros (R + 1) → Passed 0 held
  unfolding Passed
  none_passed held is =
      is ∙ same_reads (zeros (R + 1)) (zeros R ++ 0 ∷ []) (zeros_long (R + 1) ∙ sym (length-append (zeros R) (0 ∷ []) ∙ ap (λ n. n + 1) (zeros_long R)))
      (λ k h. zeros_read (R + 1) k ∙ sym (padded (zeros R) k ∙ zeros_read R k))
      ∙ ap (λ reg. reg ++ 0 ∷ []) (sym (register_none f laws p (zeros R) m))

  pub one_passed : (i : ℕ) (held after : List ℕ) → i < length m → Passed i held
      → ((reg : List ℕ) → held ≡ reg ++ 0 ∷ [] → after ≡ register_step f p reg (get_or m i 0) ++ 0 ∷ []) → Passed (i + 1) after
  unfolding Passed
  one_passed i held after h is step =
      step (register f p (zeros R) (take i m)) is
      ∙ ap (λ reg. reg ++ 0 ∷ []) (sym (register_next f laws p (zeros R) m i h))

  pub all_passed : (i : ℕ) (held : List ℕ) → length m ≤ i → p ≡ generator f R → length held ≡ R + 1 → Passed i held → take R held ≡ check_of f R m
  unfolding Passed
  all_passed i held h is long passed =
      let reg = register f p (zeros R) (take i m) in
      let size : length reg ≡ R = omega (arith, ap length passed, length-append reg (0 ∷ [])) in
      ap (take R) passed ∙ ap (λ n. take n (reg ++ 0 ∷ [])) (sym size) ∙ take-append_seam reg (0 ∷ [])
      ∙ ap₂ (λ q x. register f q (zeros R) x) is (take_all i m h) ∙ sym (check_register f laws R m)
