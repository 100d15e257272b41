-- The threefold code is sound. Assumes nothing.
use Rattle.std.specs.Prelude.{◌≡◌, ℕ, ◌*◌, ◌<◌, ◌≤◌, ◌≢◌, ◌⊎◌, List, ◌++◌, length}
use Rattle.std.proofs.Common.{sym, ◌∙◌, inl, inr, arith}
use Rattle.std.proofs.lemmas.List.{length-append}
use Rattle.std.proofs.lemmas.Bool.{cases_lt}
use Rattle.coder.specs.Codes.{Sound, distance}
use Rattle.coder.proofs.Distances.{distance-append, distance_zero}
use Rattle.coder.proofs.Octets.{octets-append}
use Rattle.threefold.specs.declared.threefold.Threefold.{Threefold}
use Rattle.threefold.specs.Threefold.{thrice, threefold_code}

pub thrice_long : (m : List ℕ) → length (thrice m) ≡ 3 * length m
thrice_long m = length-append (m ++ m) m ∙ omega (arith, length-append m m)

-- each place where two messages differ counts three times
pub thrice-apart : (a b : List ℕ) → length a ≡ length b → distance (thrice a) (thrice b) ≡ 3 * distance a b
thrice-apart a b e =
    let pair : length (a ++ a) ≡ length (b ++ b) = length-append a a ∙ omega (arith, e) ∙ sym (length-append b b) in
    omega (arith, distance-append (a ++ a) (b ++ b) a b pair, distance-append a b a b e)

pub other_apart : (a b : List ℕ) → length a ≡ length b → a ≢ b → 3 ≤ distance (thrice a) (thrice b)
other_apart a b e other = go (cases_lt 0 (distance a b))
  where
    go : (0 < distance a b) ⊎ (distance a b ≤ 0) → 3 ≤ distance (thrice a) (thrice b)
    go (inl some) = omega (arith, some, thrice-apart a b e)
    go (inr none) = absurd (other (distance_zero a b e (omega arith)))

pub threefold_sound : (c : Threefold) → Sound (threefold_code c)
threefold_sound c = record {
  shortest = c.sizes.lengths.0;
  frame_fits = c.sizes.lengths.1;
  longest = c.sizes.lengths.2;
  word_long = λ m is. omega (arith, thrice_long m, is.long, c.long);
  word_octets = λ m is. octets-append (m ++ m) m (octets-append m m is.octets is.octets) is.octets;
  apart = λ a b of-a of-b other. omega (arith, c.single, other_apart a b (of-a.long ∙ sym of-b.long) other);
}
