-- What is answered to a list of octets. Assumes nothing.
use Rattle.std.specs.Prelude.{◌≡◌, ℕ, cond, List, [], ◌∷◌, ◌++◌, Ok, Err, codes, decimal, Result, ◌==◌}
use Rattle.coder.specs.declared.refusal.Refusal.{Refusal}
use Rattle.coder.specs.Refusals.{number_of}
use Rattle.coder.specs.Sizes.{Parameters, reed_solomon_sizes, threefold_sizes}
use Rattle.places.specs.Line.{Plan}
use Rattle.places.specs.Limit.{BurstLimit}
use Rattle.setting.specs.Settings.{setting_of}
use Rattle.installer.specs.declared.report.Report.{Report}

-- coder 0 is Reed-Solomon and 1 is threefold; another is refusal 4
abbrev pub sizes_of : (coder K R : ℕ) → Result Parameters ℕ
sizes_of coder K R = cond (coder == 0) (reed_solomon_sizes K R) (cond (coder == 1) (threefold_sizes K R) (Err 4))

-- the setting of such a coder with block length I and step M
abbrev pub with_blocks : (I M : ℕ) → Result Parameters ℕ → Result Plan ℕ
with_blocks I M (Ok sizes) = setting_of sizes I M
with_blocks I M (Err number) = Err number

-- The setting that a list of octets asks for, or the number of the refusal: just five octets ask for one.
abbrev pub asked : List ℕ → Result Plan ℕ
asked [] = Err 4
asked (_ ∷ []) = Err 4
asked (_ ∷ _ ∷ []) = Err 4
asked (_ ∷ _ ∷ _ ∷ []) = Err 4
asked (_ ∷ _ ∷ _ ∷ _ ∷ []) = Err 4
asked (coder ∷ K ∷ R ∷ I ∷ M ∷ []) = with_blocks I M (sizes_of coder K R)
asked (_ ∷ _ ∷ _ ∷ _ ∷ _ ∷ _ ∷ _) = Err 4

-- the report has the numbers of the setting, and its burst limit
pub record Reports (p : Plan) (r : Report) : Type 0 where
  pub word : r.word ≡ p.word
  pub parts : r.parts ≡ p.parts
  pub lag : r.lag ≡ p.lag
  pub burst : BurstLimit p r.burst
  pub reach : r.reach ≡ p.reach
  pub memory : r.memory ≡ p.memory

-- a report answers the setting that it reports, and a refusal its number
abbrev pub Answers : Result Plan ℕ → Result Report Refusal → Type 0
Answers (Ok p) (Ok r) = Reports p r
Answers (Ok p) (Err e) = ⊥
Answers (Err number) (Ok r) = ⊥
Answers (Err number) (Err e) = number_of e ≡ number

-- An answer as text: N, q, w, B, Z and P with single spaces, or the word refused and the number.
abbrev pub text : Result Report Refusal → List ℕ
text (Ok r) =
    decimal r.word ++ (codes " " ++ (decimal r.parts ++ (codes " " ++ (decimal r.lag ++ (codes " " ++ (decimal r.burst
    ++ (codes " " ++ (decimal r.reach ++ (codes " " ++ decimal r.memory)))))))))
text (Err e) = codes "refused " ++ decimal (number_of e)

-- The text of the answer to a list of octets.
abbrev pub Printed : List ℕ → List ℕ → Type 0
Printed octets bytes = (r : Result Report Refusal) × Answers (asked octets) r × (bytes ≡ text r)
