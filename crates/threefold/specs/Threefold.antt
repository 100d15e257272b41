-- The threefold code. Assumes nothing.
use Rattle.std.specs.Prelude.{ℕ, ◌*◌, List, ◌++◌, Ok, Err, Result}
use Rattle.coder.specs.declared.refusal.Refusal.{Refusal}
use Rattle.coder.specs.Codes.{Code}
use Rattle.coder.specs.Refusals.{number_of}
use Rattle.coder.specs.Sizes.{Parameters, parameters}
use Rattle.threefold.specs.declared.threefold.Threefold.{Threefold}

-- the word of a message: the message three times over
abbrev pub thrice : List ℕ → List ℕ
thrice m = m ++ m ++ m

abbrev pub threefold_code : Threefold → Code
threefold_code c = record { sizes = parameters c.sizes; word_of = thrice }

-- the code for frames of K octets; one octet can be repaired
abbrev pub thrice_code : (K : ℕ) → Code
thrice_code K = record { sizes = record { frame = K; word = 3 * K; repairs = 1 }; word_of = thrice }

-- an answer as its numbers: the parameters of the coder, or the refusal's number
abbrev pub told : Result Threefold Refusal → Result Parameters ℕ
told (Ok c) = Ok (parameters c.sizes)
told (Err e) = Err (number_of e)
