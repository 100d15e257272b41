-- The number of each loss, and its answer as the theory has it. Assumes nothing.
use Rattle.std.specs.Prelude.{ℕ}
use Rattle.runs.specs.Receivers.{Answer, coder_loss, scrambler_loss}
use Rattle.link.specs.Refusals.{refused_number}
use Rattle.link.specs.declared.loss.Cause.{Cause}
use Rattle.link.specs.declared.loss.Cause.TheVariants.{Coder, Scrambler}
use Rattle.link.specs.declared.loss.Unreceived.{Unreceived}
use Rattle.link.specs.declared.loss.Unreceived.TheVariants.{Refused, Lost}

abbrev pub answer_of : Cause → Answer
answer_of (Coder marks) = coder_loss marks
answer_of Scrambler = scrambler_loss

abbrev pub cause_number : Cause → ℕ
cause_number (Coder marks) = 8
cause_number Scrambler = 9

abbrev pub unreceived_number : Unreceived → ℕ
unreceived_number (Refused refused) = refused_number refused
unreceived_number (Lost loss) = cause_number loss.cause
