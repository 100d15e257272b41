-- Which sizes a coder has, or the number of the refusal. Assumes nothing.
use Rattle.std.specs.Prelude.{ℕ, ◌+◌, ◌*◌, ◌/◌, ◌%◌, Bool, cond, ◌&&◌, Ok, Err, Result, ◌==◌, nat_le}
use Rattle.coder.specs.declared.refusal.Refusal.{Refusal}
use Rattle.coder.specs.declared.sizes.Sizes.{Sizes}
use Rattle.coder.specs.Refusals.{number_of}

-- The parameters of a code: a frame of K octets becomes a word of N, of which any t can be repaired.
pub record Parameters : Type 0 where
  pub frame : ℕ
  pub word : ℕ
  pub repairs : ℕ

abbrev pub parameters : Sizes → Parameters
parameters s = record { frame = s.frame; word = s.word; repairs = s.repairs }

-- an answer as its numbers: the parameters, or the refusal's number
abbrev pub told : Result Sizes Refusal → Result Parameters ℕ
told (Ok s) = Ok (parameters s)
told (Err e) = Err (number_of e)

-- the parameters where they are allowed, else refusal 1
abbrev pub if_allowed : Bool → Parameters → Result Parameters ℕ
if_allowed allowed p = cond allowed (Ok p) (Err 1)

-- Reed-Solomon: an even number R of check octets, at most 16; half as many octets can be repaired
abbrev pub reed_solomon_sizes : (K R : ℕ) → Result Parameters ℕ
reed_solomon_sizes K R =
    if_allowed (nat_le 3 K && nat_le (K + R) 255 && nat_le R 16 && R % 2 == 0) (record { frame = K; word = K + R; repairs = R / 2 })

-- threefold: the frame three times over, one octet can be repaired
abbrev pub threefold_sizes : (K R : ℕ) → Result Parameters ℕ
threefold_sizes K R = if_allowed (nat_le 3 K && nat_le K 85 && R == 0) (record { frame = K; word = 3 * K; repairs = 1 })

-- any coder: words of different frames differ in 2×t + 1 octets, so a word has at least that many
abbrev pub any_coder_sizes : (K N t : ℕ) → Result Parameters ℕ
any_coder_sizes K N t =
    if_allowed (nat_le 3 K && nat_le K N && nat_le N 255 && nat_le (2 * t + 1) N) (record { frame = K; word = N; repairs = t })
