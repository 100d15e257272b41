-- What the constructor answers. Assumes nothing.
use Rattle.std.specs.Prelude.{◌≡◌, ℕ, ◌+◌, cond, Ok, Err, Result, nat_lt}
use Rattle.coder.specs.declared.refusal.Refusal.{Refusal}
use Rattle.coder.specs.Codes.{Code}
use Rattle.coder.specs.Refusals.{number_of}
use Rattle.coder.specs.Sizes.{Parameters, parameters, reed_solomon_sizes}
use Rattle.field.specs.Field.{Field}
use Rattle.reed_solomon.specs.ReedSolomon.{rs_code, CheckedWords}
use Rattle.reed_solomon.specs.Samples.{WordSamples, DecodingSamples}
use Rattle.reed_solomon.specs.declared.reed_solomon.ReedSolomon.{ReedSolomon}

-- the sizes of a Reed-Solomon coder over a field, or refusal 1: a word has fewer octets than the field has elements
abbrev pub sizes_over : Field → (K R : ℕ) → Result Parameters ℕ
sizes_over f K R = cond (nat_lt (K + R) f.size) (reed_solomon_sizes K R) (Err 1)

-- an answer as its numbers
abbrev pub told : {F : Type 0} → Result (ReedSolomon F) Refusal → Result Parameters ℕ
told (Ok s) = Ok (parameters s.sizes)
told (Err e) = Err (number_of e)

-- the code of a coder over the field f
abbrev pub code_over : {F : Type 0} → Field → ReedSolomon F → Code
code_over f s = rs_code f s.sizes.frame s.check

-- a coder that was made has the code that was asked for, and its words are messages with their remainders
abbrev pub Made : {F : Type 0} → Field → (K R : ℕ) → Result (ReedSolomon F) Refusal → Type 0
Made f K R (Ok s) = (code_over f s ≡ rs_code f K R) × CheckedWords f K R × WordSamples × DecodingSamples
Made f K R (Err e) = Unit {0}
