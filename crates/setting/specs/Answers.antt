-- What a setting answers about its words and its burst limit. Assumes nothing.
use Rattle.std.specs.Prelude.{◌≡◌, ℕ, ◌<◌, ◌≤◌, Some, None, Option}
use Rattle.places.specs.Line.{Plan, Lies, place}
use Rattle.places.specs.Limit.{BurstLimit, wide_limit}

-- The line place of octet n of word 0, which tells where every word lies; no answer where a word has no octet n.
abbrev pub Placed : Plan → ℕ → Option ℕ → Type 0
Placed p n (Some x) = (n < p.word) × (x ≡ place p 0 n) × Lies p
Placed p n None = p.word ≤ n

-- The limit without interleaving: t if M = 0, and no answer for another M.
abbrev pub SideBySide : Plan → Option ℕ → Type 0
SideBySide p (Some B) = (p.step ≡ 0) × (B ≡ p.repairs) × BurstLimit p B
SideBySide p None = 0 < p.step

-- The limit by the formula for M ≥ q, and no answer for a smaller M.
abbrev pub WideSteps : Plan → Option ℕ → Type 0
WideSteps p (Some B) = (p.parts ≤ p.step) × (B ≡ wide_limit p p.repairs) × BurstLimit p B
WideSteps p None = p.step < p.parts
