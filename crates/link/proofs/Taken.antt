-- A fill: a receiver has gathered nothing before its last fill. Assumes nothing.
use Rattle.std.proofs.Common.{◌≡◌, ℕ, suc, ◌+◌, ◌-◌, ◌*◌, ◌<◌, ◌≤◌, ◌⊎◌, List, ◌++◌, drop, sym, ap, ◌∙◌, inl, inr, mul-le-mul_right, suc-mul, zero-mul, arith}
use Rattle.std.proofs.Math.Nat.{sub-zero}
use Rattle.std.proofs.lemmas.List.{drop_all}
use Rattle.std.proofs.lemmas.Bool.{cases_lt}
use Rattle.coder.specs.declared.arrival.Arrival.{Arrival}
use Rattle.places.specs.Line.{Plan}
use Rattle.runs.specs.Receivers.{Filled, kept, gathered, delayed}
use Rattle.setting.specs.declared.setting.Setting.{Setting}
use Rattle.setting.specs.Settings.{plan}
use Rattle.link.specs.declared.receiver.Filling.{Filling}
use Rattle.link.specs.Receivers.{filling}
use Rattle.link.specs.Gathering.{Gathered}
use Rattle.link.proofs.Settings.{settled}

pub kept_none : (s : Setting) (f : ℕ) → f < s.lag → kept (plan s) f ≡ 0
kept_none s f h =
    let sooner : suc f * s.parts ≤ s.lag * s.parts = mul-le-mul_right s.parts h in
    let early : f * s.parts - s.delay ≡ 0 = omega (arith, sooner, suc-mul f s.parts, (settled s).lag_least) in
    ap (λ (n : ℕ). n * s.block) early ∙ zero-mul s.block

module _ (s : Filling) (memory memory' line word : List Arrival) (some : s.filled < s.setting.lag)
    (taken : Gathered (plan s.setting) (s.filled * s.setting.parts) memory memory' line word) where
  abbrev p : Plan
  p = plan s.setting

  abbrev f : ℕ
  f = s.filled

  abbrev leaving : List Arrival
  leaving = delayed p (f * p.parts) memory line

  gathers : gathered p (kept p (suc f)) memory' ≡ gathered p (kept p f) memory ++ drop (p.word - (kept p (suc f) - kept p f)) leaving
  gathers = rw (kept_none s.setting f some) (go (cases_lt (suc f) p.lag))
    where
      go : (suc f < p.lag) ⊎ (p.lag ≤ suc f) → gathered p (kept p (suc f)) memory' ≡ drop (p.word - (kept p (suc f) - 0)) leaving
      go (inl more) = rw (kept_none s.setting (suc f) more) (sym (drop_all (p.word - 0) leaving (omega (arith, taken.long))))
      go (inr last) =
          let all : suc f ≡ p.lag = omega (arith, some, last) in
          rw all (rw (sub-zero (kept p p.lag)) taken.gathers)

  pub filled_word : Filled p (filling s) (record { filled = f + 1 }) memory memory' line
  filled_word = record { delays = taken.delays; gathers = gathers; filled = omega arith }
