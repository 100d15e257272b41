-- A word's blocks through a delay line. Assumes nothing.
use Rattle.std.specs.Prelude.{◌≡◌, ℕ, ◌+◌, List, length}
use Rattle.delay.specs.declared.lengths.Lengths.{Lengths}
use Rattle.delay.specs.declared.triangle.Triangle.{Triangle}
use Rattle.delay.specs.Queues.{Alike}
use Rattle.delay.specs.Triangles.{queue}
use Rattle.setting.specs.declared.setting.Setting.{Setting}
use Rattle.runs.specs.Blocks.{through, left}

-- the delay line of one end
abbrev pub line_of : Setting → Lengths → Triangle
line_of s lengths = record { block = s.block; step = s.step; lengths = lengths }

-- q blocks entered, and what left stands in their place
pub record Passed (E : Type 0) (t : Triangle) (q clock : ℕ) (memory memory' word word' : List E) : Type 0 where
  pub leaves : word' ≡ through t.block q (queue t clock memory) word
  pub waits : Alike t.block (queue t (clock + q) memory') (left t.block q (queue t clock memory) word)
  pub size : length memory' ≡ length memory
