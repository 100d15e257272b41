-- Reed-Solomon codes as codes of a coder. Assumes nothing.
use Rattle.std.specs.Prelude.{◌≡◌, ℕ, ◌+◌, ◌/◌, List, ◌++◌, length}
use Rattle.coder.specs.Codes.{Code}
use Rattle.field.specs.Field.{Field}
use Rattle.rs_algebra.specs.Polynomials.{Elements}
use Rattle.rs_algebra.specs.Words.{Remainder, check_of, word_of}

-- the code with R check octets for each message of K octets; half as many can be repaired
abbrev pub rs_code : Field → (K R : ℕ) → Code
rs_code f K R = record { sizes = record { frame = K; word = K + R; repairs = R / 2 }; word_of = word_of f R }

-- Each word is its message and then R check octets: M(D)·D^R is a multiple of the generator polynomial and these.
abbrev pub CheckedWords : Field → (K R : ℕ) → Type 0
CheckedWords f K R =
    (m : List ℕ) → length m ≡ K → Elements f m → ((rs_code f K R).word_of m ≡ m ++ check_of f R m) × Remainder f R m (check_of f R m)
