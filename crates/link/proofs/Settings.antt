-- Every setting keeps the relations that the theory of runs asks for. Assumes nothing.
use Rattle.std.proofs.Common.{◌≡◌, ℕ, ◌*◌, sym, ap, ◌∙◌, arith}
use Rattle.std.proofs.lemmas.Grind.{div_ceil_times}
use Rattle.setting.specs.declared.setting.Setting.{Setting}
use Rattle.setting.specs.Settings.{plan}
use Rattle.setting.specs.Relations.{rounded_up}
use Rattle.setting.proofs.Facts.{laid, parts_pos}
use Rattle.runs.proofs.Settled.{Settled}

module _ (s : Setting) where
  lag : s.lag * s.parts ≡ rounded_up s.delay s.parts * s.parts
  lag = ap (λ (w : ℕ). w * s.parts) (s.lags ∙ ap (λ (d : ℕ). rounded_up d s.parts) (sym s.delays))

  pub settled : Settled (plan s)
  settled = record {
    laid = laid s;
    some_parts = parts_pos s;
    remembers = s.remembers;
    delays = s.delays;
    lag_enough = omega (arith, lag, (div_ceil_times s.delay s.parts (parts_pos s)).0);
    lag_least = omega (arith, lag, (div_ceil_times s.delay s.parts (parts_pos s)).1);
  }
