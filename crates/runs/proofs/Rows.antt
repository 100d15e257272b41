-- Where the octets of words stand in the stream of blocks. Assumes nothing.
use Rattle.std.proofs.Common.{◌≡◌, ℕ, ◌+◌, ◌*◌, ◌/◌, ◌%◌, ◌<◌, ◌≤◌, ◌⊎◌, ap, ◌∙◌, inl, inr, mul-le-mul_right, mul_assoc, add-mul, div-add-mod', arith}
use lib.Arith.{digits_lt}
use Rattle.std.proofs.lemmas.Bool.{cases_lt}
use Rattle.places.specs.Line.{Plan}
use Rattle.runs.proofs.Settled.{Settled}

module _ {p : Plan} (settled : Settled p) where
  -- n words are n × q blocks
  pub words_blocks : (n : ℕ) → n * p.parts * p.block ≡ n * p.word
  words_blocks n = mul_assoc n p.parts p.block ∙ ap (λ x. n * x) settled.laid.whole

  -- octet k of word n is element (n × q + k / I, k % I) of the stream
  pub stream_place : (n k : ℕ) → (n * p.parts + k / p.block) * p.block + k % p.block ≡ n * p.word + k
  stream_place n k =
      omega (arith, words_blocks n, add-mul (n * p.parts) (k / p.block) p.block, div-add-mod' k p.block)

  pub some_word : 0 < p.word
  some_word =
      let h : 0 * p.block + 0 < p.parts * p.block = digits_lt settled.some_parts settled.laid.some in
      omega (arith, h, settled.laid.whole)

  pub row_below : (u j clock : ℕ) → u * p.block + j < clock * p.block → u < clock
  row_below u j clock h = go (cases_lt u clock)
    where
      go : (u < clock) ⊎ (clock ≤ u) → u < clock
      go (inl l) = l
      go (inr l) = let m : clock * p.block ≤ u * p.block = mul-le-mul_right p.block l in absurd (omega (arith, m, h))
