-- How an end came from open to its present state: by accepted calls, each with the end's one memory and the shared coder, and by refused ones,
-- which may have been lent anything and moved nothing. Assumes nothing.
use Rattle.std.specs.Prelude.{◌≡◌, ℕ, ◌+◌, List, [], ◌∷◌, ◌++◌, replicate, Ok}
use Prim.{tt}
use Rattle.places.specs.Line.{Plan}
use Rattle.coder.specs.declared.arrival.Arrival.{Arrival}
use Rattle.coder.specs.declared.arrival.Arrival.TheVariants.{Octet}
use Rattle.coder.specs.Codes.{Code}
use Rattle.runs.specs.Senders.{Sending, Draining, send_answer, Sent, ended, drain_answer, Drained, close_answer}
use Rattle.runs.specs.Senders as sender
use Rattle.runs.specs.Receivers.{Filling, Running, fill_answer, Filled, start_answer, started, receive_answer, Received, Answer}
use Rattle.runs.specs.Receivers as receiver

-- a sender that sends, with the frames of its accepted sends and all line octets that it wrote
pub data SendingRun (p : Plan) (c : Code) : (frames : List (List ℕ)) (line : List ℕ) (s : Sending) (memory : List ℕ) → Type 0 where
  opens : SendingRun p c [] [] sender.opened (replicate p.memory 0)
  sends : {frames : List (List ℕ)} {line : List ℕ} {s s' : Sending} {memory memory' : List ℕ} (frame before after : List ℕ)
      → SendingRun p c frames line s memory
      → send_answer p c s memory frame before ≡ Ok tt → Sent p c s s' memory memory' frame after
      → SendingRun p c (frames ++ frame ∷ []) (line ++ after) s' memory'
  refuses : {frames : List (List ℕ)} {line : List ℕ} {s : Sending} {memory : List ℕ}
      → SendingRun p c frames line s memory → SendingRun p c frames line s memory

-- a sender that drains
pub data DrainingRun (p : Plan) (c : Code) : (frames : List (List ℕ)) (line : List ℕ) (s : Draining) (memory : List ℕ) → Type 0 where
  ends : {frames : List (List ℕ)} {line : List ℕ} {s : Sending} {memory : List ℕ}
      → SendingRun p c frames line s memory → DrainingRun p c frames line (ended s) memory
  drains : {frames : List (List ℕ)} {line : List ℕ} {s s' : Draining} {memory memory' : List ℕ} (before after : List ℕ)
      → DrainingRun p c frames line s memory
      → drain_answer p s memory before ≡ Ok tt → Drained p s s' memory memory' after
      → DrainingRun p c frames (line ++ after) s' memory'
  refuses : {frames : List (List ℕ)} {line : List ℕ} {s : Draining} {memory : List ℕ}
      → DrainingRun p c frames line s memory → DrainingRun p c frames line s memory

-- a sender at any stage, and a closed one
pub data SenderRun (p : Plan) (c : Code) (frames : List (List ℕ)) (line : List ℕ) : Type 0 where
  sending : (s : Sending) (memory : List ℕ) → SendingRun p c frames line s memory → SenderRun p c frames line
  draining : (s : Draining) (memory : List ℕ) → DrainingRun p c frames line s memory → SenderRun p c frames line

pub record ClosedRun (p : Plan) (c : Code) (frames : List (List ℕ)) (line : List ℕ) : Type 0 where
  pub state : Draining
  pub memory : List ℕ
  pub run : DrainingRun p c frames line state memory
  pub close : close_answer p state ≡ Ok tt

-- a receiver that fills, with the arrivals that it met
pub data FillingRun (p : Plan) : (arrivals : List Arrival) (s : Filling) (memory : List Arrival) → Type 0 where
  opens : FillingRun p [] receiver.opened (replicate (p.memory + p.word) (Octet 0))
  fills : {arrivals : List Arrival} {s s' : Filling} {memory memory' : List Arrival} (line : List Arrival)
      → FillingRun p arrivals s memory
      → fill_answer p s memory line ≡ Ok tt → Filled p s s' memory memory' line
      → FillingRun p (arrivals ++ line) s' memory'
  refuses : {arrivals : List Arrival} {s : Filling} {memory : List Arrival}
      → FillingRun p arrivals s memory → FillingRun p arrivals s memory

-- a receiver that runs, with the answers of its accepted receives
pub data RunningRun (p : Plan) (c : Code) : (arrivals : List Arrival) (answers : List Answer) (s : Running) (memory : List Arrival) → Type 0 where
  starts : {arrivals : List Arrival} {s : Filling} {memory : List Arrival}
      → FillingRun p arrivals s memory → start_answer p s ≡ Ok tt → RunningRun p c arrivals [] started memory
  receives : {arrivals : List Arrival} {answers : List Answer} {s s' : Running} {memory memory' : List Arrival}
      (line : List Arrival) (before : List ℕ) (answer : Answer)
      → RunningRun p c arrivals answers s memory
      → receive_answer p c s memory line before ≡ Ok tt → Received p c s s' memory memory' line answer
      → RunningRun p c (arrivals ++ line) (answers ++ answer ∷ []) s' memory'
  refuses : {arrivals : List Arrival} {answers : List Answer} {s : Running} {memory : List Arrival}
      → RunningRun p c arrivals answers s memory → RunningRun p c arrivals answers s memory

-- a receiver at any stage, closed ones included, since close leaves all as it is
pub data ReceiverRun (p : Plan) (c : Code) : (arrivals : List Arrival) (answers : List Answer) → Type 0 where
  filling : {arrivals : List Arrival} (s : Filling) (memory : List Arrival) → FillingRun p arrivals s memory → ReceiverRun p c arrivals []
  running : {arrivals : List Arrival} {answers : List Answer} (s : Running) (memory : List Arrival)
      → RunningRun p c arrivals answers s memory → ReceiverRun p c arrivals answers
