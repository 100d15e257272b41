-- The burst theorem, all of it. Assumes nothing.
use Rattle.std.proofs.Common.{ℕ}
use Rattle.places.specs.Line.{Plan}
use Rattle.places.specs.Limit.{BurstLimit}
use Rattle.coder.specs.Codes.{Code}
use Rattle.runs.specs.Theorem.{RidesOut}
use Rattle.runs.proofs.Settled.{Fits, Settled}
use Rattle.runs.proofs.SenderLine.{line_holds}
use Rattle.runs.proofs.ReceiverWords.{answers_rest}
use Rattle.runs.proofs.Arriving.{frames_arrive}
use Rattle.runs.proofs.Apart.{told_apart}
use Rattle.runs.proofs.Sharp.{sharp_limit}

pub rides : {p : Plan} {c : Code} → Settled p → Fits p c → (B : ℕ) → BurstLimit p B → RidesOut p c B
rides settled fits B limit = record {
  limit = limit;
  line_holds = line_holds settled fits;
  answers_rest = answers_rest settled;
  frames_arrive = frames_arrive settled fits B limit;
  told_apart = told_apart settled fits B limit;
  sharp_limit = sharp_limit settled fits B limit;
}
