-- Which settings are accepted, with all their numbers, or the number of the refusal. Assumes nothing.
use Rattle.std.specs.Prelude.{ℕ, ◌/◌, ◌%◌, cond, ◌&&◌, Ok, Err, Result, ◌==◌, nat_le, nat_lt}
use Rattle.coder.specs.declared.refusal.Refusal.{Refusal}
use Rattle.coder.specs.Refusals.{number_of}
use Rattle.coder.specs.Sizes.{Parameters}
use Rattle.places.specs.Line.{Plan}
use Rattle.setting.specs.declared.setting.Setting.{Setting}
use Rattle.setting.specs.Relations.{memory_of, delay_of, lag_of, reach_of}

-- the numbers of a setting
abbrev pub plan : Setting → Plan
plan s = record {
  frame = s.sizes.frame;
  word = s.sizes.word;
  repairs = s.sizes.repairs;
  block = s.block;
  step = s.step;
  parts = s.parts;
  memory = s.memory;
  delay = s.delay;
  lag = s.lag;
  reach = s.reach;
}

-- an answer as its numbers: those of the setting, or the refusal's
abbrev pub told : Result Setting Refusal → Result Plan ℕ
told (Ok s) = Ok (plan s)
told (Err e) = Err (number_of e)

-- the numbers that follow from a coder's parameters, the block length I and the step M
abbrev pub plan_of : Parameters → (I M : ℕ) → Plan
plan_of c I M = record {
  frame = c.frame;
  word = c.word;
  repairs = c.repairs;
  block = I;
  step = M;
  parts = c.word / I;
  memory = memory_of I M;
  delay = delay_of I M;
  lag = lag_of I M (c.word / I);
  reach = reach_of I M c.word;
}

-- Refusal 2: the block length is 0 or does not divide the word. Refusal 3: a step above 255, or a memory above 16,384.
abbrev pub setting_of : Parameters → (I M : ℕ) → Result Plan ℕ
setting_of c I M =
    cond (nat_lt 0 I && c.word % I == 0) (cond (nat_le M 255 && nat_le (memory_of I M) 16384) (Ok (plan_of c I M)) (Err 3)) (Err 2)
