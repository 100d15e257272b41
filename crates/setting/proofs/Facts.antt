-- What every setting keeps, in the form that proofs use. Assumes nothing.
use Rattle.std.proofs.Common.{◌≡◌, ℕ, ◌+◌, ◌*◌, ◌/◌, ◌%◌, ◌^◌, ◌<◌, ◌≤◌, eqb, ltb, leb, Option, ◌⊎◌, Decides, refl, ap, inl, inr, mul-le-mul_right, mod-lt, mul-le-mul, mul-le-mul_left, zero-add, zero-mul, mul-one, div-le_self, arith}
use native.Mathlib.Nat.{mod-le}
use Rattle.std.specs.Bool.{then_some}
use Rattle.std.proofs.lemmas.Bool.{cases_eq, cases_lt, eq-eqb, le-leb, leb-true, lt-leb, lt-ltb, ltb-true, ne_eqb}
use Rattle.places.specs.Limit.{wide_limit}
use Rattle.places.proofs.Formulas.{wide_steps, without_interleaving}
use Rattle.setting.specs.Answers.{SideBySide, WideSteps}
use Rattle.places.specs.Line.{place}
use Rattle.places.proofs.Places.{Laid, octet_there, reached, there_high, there_low}
use Rattle.setting.specs.declared.setting.Setting.{Setting}
use Rattle.setting.specs.Settings.{plan}
use Rattle.setting.proofs.Numbers.{spread_below}

module _ (s : Setting) where
  pub laid : Laid (plan s)
  laid = record { some = s.cut.0; whole = s.cut.1; spans = s.reaches }

  pub word_le : s.sizes.word ≤ 255
  word_le = s.sizes.lengths.2

  pub word_pos : 0 < s.sizes.word
  word_pos = omega (arith, s.sizes.distance)

  -- fewer octets are repaired than a word has
  pub few : s.sizes.repairs < s.sizes.word
  few = omega (arith, s.sizes.distance)

  pub parts_pos : 0 < s.parts
  parts_pos = go (cases_lt 0 s.parts)
    where
      go : (0 < s.parts) ⊎ (s.parts ≤ 0) → 0 < s.parts
      go (inl some) = some
      go (inr none) =
          let e : s.parts ≡ 0 = omega arith in
          absurd (omega (arith, word_pos, s.cut.1, ap (λ q. q * s.block) e, zero-mul s.block))

  pub block_le : s.block ≤ 255
  block_le = omega (arith, word_le, s.cut.1, mul-le-mul_right s.block parts_pos)

  pub parts_le : s.parts ≤ 255
  parts_le = omega (arith, word_le, s.cut.1, mul-le-mul_left s.parts s.cut.0, mul-one s.parts)

  pub reach_below : s.reach < 2 ^ 32
  reach_below = omega (arith, s.reaches, word_le, spread_below s.block s.step block_le s.bounded.0)

  -- the first line block of branch j that carries word 0
  pub wait_below : (x : ℕ) → s.step * (x % s.block) ≤ 255 * 255
  wait_below x =
      let branch : x % s.block ≤ 255 = omega (arith, block_le, mod-lt x s.cut.0) in
      mul-le-mul s.bounded.0 branch

  -- the parts of the limit's formula are small
  pub way_below : s.step * s.block ≤ 255 * 255
  way_below = mul-le-mul s.bounded.0 block_le

  pub whole_below : s.sizes.repairs / s.parts * (s.step * s.block + 1) ≤ 255 * (255 * 255 + 1)
  whole_below =
      let f : s.sizes.repairs / s.parts ≤ 255 = omega (arith, few, word_le, div-le_self s.sizes.repairs s.parts) in
      let way : s.step * s.block + 1 ≤ 255 * 255 + 1 = omega (arith, way_below) in
      mul-le-mul f way

  pub rest_below : s.sizes.repairs % s.parts * s.block ≤ 255 * 255
  rest_below =
      let r : s.sizes.repairs % s.parts ≤ 255 = omega (arith, few, word_le, mod-le s.sizes.repairs s.parts) in
      mul-le-mul r block_le

  -- the place of an octet as it is worked out
  pub place_is : (n : ℕ) → (n / s.block + s.step * (n % s.block)) * s.block + n % s.block ≡ place (plan s) 0 n
  unfolding place
  place_is n = simp (zero-mul, zero-add)

  pub place_below : (n : ℕ) → n < s.sizes.word → (n / s.block + s.step * (n % s.block)) * s.block + n % s.block < s.reach
  place_below n h = rw (place_is n) (reached laid n h)

  -- some octet of word 0 stands at place x
  abbrev pub Octet : ℕ → Type 0
  Octet x = (n : ℕ) × (n < s.sizes.word) × (place (plan s) 0 n ≡ x)

  -- it does if the place's line block is one of the q that carry the word in its branch
  pub in_time : (x : ℕ) → s.step * (x % s.block) ≤ x / s.block
      → Decides (ltb (x / s.block) (s.step * (x % s.block) + s.parts)) (Octet x)
  in_time x low =
      (λ t. octet_there laid x low (ltb-true _ _ t), λ o. lt-ltb _ _ (rw o.2 at (there_high laid o.0 o.1)))

  pub too_early : (x : ℕ) → x / s.block < s.step * (x % s.block) → Decides (leb (s.step * (x % s.block)) (x / s.block)) (Octet x)
  too_early x early = (
    λ t. absurd (omega (arith, early, leb-true (s.step * (x % s.block)) (x / s.block) t)),
    λ o. absurd (omega (arith, early, rw o.2 at (there_low laid o.0))),
  )

-- the limits by formula
pub side_by_side : (s : Setting) (r : Option ℕ) → r ≡ then_some (eqb s.step 0) s.sizes.repairs → SideBySide (plan s) r
side_by_side s r is = rw is (go (cases_eq s.step 0))
  where
    go : (s.step ≡ 0) ⊎ (s.step ≡ 0 → ⊥) → SideBySide (plan s) (then_some (eqb s.step 0) s.sizes.repairs)
    go (inl none) = rw (eq-eqb s.step 0 none) (none, refl, without_interleaving (laid s) s.sizes.repairs none (few s))
    go (inr some) = rw (ne_eqb s.step 0 some) (omega (arith, some))

pub by_wide_steps : (s : Setting) (r : Option ℕ) → r ≡ then_some (leb s.parts s.step) (wide_limit (plan s) s.sizes.repairs) → WideSteps (plan s) r
by_wide_steps s r is = rw is (go (cases_lt s.step s.parts))
  where
    go : (s.step < s.parts) ⊎ (s.parts ≤ s.step) → WideSteps (plan s) (then_some (leb s.parts s.step) (wide_limit (plan s) s.sizes.repairs))
    go (inl less) = rw (lt-leb s.parts s.step less) less
    go (inr wide) = rw (le-leb s.parts s.step wide) (wide, refl, wide_steps (laid s) s.sizes.repairs wide (few s))

pub ruleset placing = (place_below, reach_below, place_is)

pub ruleset standing = (wait_below, parts_le, in_time, too_early)

pub ruleset wide_parts = (way_below, whole_below, rest_below)
