-- What the constructor of a coder with rows answers: what that of the coder over the field answers. Assumes nothing.
use Rattle.std.specs.Prelude.{ℕ, Ok, Err, Result}
use Rattle.coder.specs.declared.refusal.Refusal.{Refusal}
use Rattle.coder.specs.Codes.{Code}
use Rattle.coder.specs.Sizes.{Parameters}
use Rattle.field.specs.Binary.{octets}
use Rattle.field.specs.declared.table.Table.{Table}
use Rattle.reed_solomon.specs.Constructed.{told, code_over, Made}
use Rattle.reed_solomon.specs.declared.reed_solomon.ReedSolomon.{ReedSolomon}
use Rattle.reed_solomon.specs.declared.rows.row_coder.RowCoder.{RowCoder}

-- the coder over the field that a coder with rows holds
abbrev pub plain_of : Result RowCoder Refusal → Result (ReedSolomon Table) Refusal
plain_of (Ok s) = Ok s.plain
plain_of (Err e) = Err e

-- an answer as its numbers
abbrev pub told_rows : Result RowCoder Refusal → Result Parameters ℕ
told_rows result = told (plain_of result)

-- the code of a coder
abbrev pub code_of : RowCoder → Code
code_of s = code_over octets s.plain

-- a coder that was made has the code that was asked for, and its words are messages with their remainders
abbrev pub MadeRows : (K R : ℕ) → Result RowCoder Refusal → Type 0
MadeRows K R result = Made octets K R (plain_of result)
