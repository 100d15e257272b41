use Rattle.std.proofs.Common.{◌≡◌, ℕ, ◌<◌, length, get_or, take}
use lib.Bits.{bit_xor}
use Rattle.rs_algebra.specs.Words.{terms_at}
use Rattle.reed_solomon.specs.Repairs.{places_of, values_of}
use Rattle.reed_solomon.proofs.terms.Pattern.add_terms.Given as goal

abbrev pub invariant-loop-term : goal.invariant-loop-term
invariant-loop-term g l =
    (j : ℕ) → j < length l.initial.sums
    → get_or l.sums j 0
    ≡ bit_xor (get_or l.initial.sums j 0) (terms_at g.F.Field.field l.self.word (take l.term-index (places_of l.self.terms.now)) (take l.term-index (values_of l.self.terms.now)) j)
