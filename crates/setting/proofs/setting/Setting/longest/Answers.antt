use Rattle.std.proofs.Common.{◌≡◌, ℕ, ◌+◌, ◌<◌, ◌≤◌, length, get_or, set, take, replicate, sym, refl, ap, ◌∙◌, arith, get_or-set_same}
use Rattle.std.proofs.lemmas.Bool.{both_ways}
use Rattle.std.proofs.lemmas.List.{take-replicate, length-replicate, length-set, set-get_or}
use Rattle.places.specs.Limit.{Longest}
use Rattle.places.proofs.Search.{Counting, begin, more, no_more, too_many}
use Rattle.places.proofs.Stretches.{below_reach, sharp}
use Rattle.setting.specs.Settings.{plan}
use Rattle.setting.proofs.Facts.{laid, word_le}
use Rattle.setting.proofs.setting.Setting.longest.Goals as goal
use Rattle.setting.proofs.setting.Setting.longest.Goals.{then-stands_at+else-held-most, else-stands_at}

pub search-init : goal.search-init
search-init c =
    let s = c.args.self.now in
    let some : s.sizes.word ≤ 255 = word_le s in
    let zero : ℕ = 0 in
    let fresh : take s.sizes.word (replicate 255 zero) ≡ replicate s.sizes.word zero = take-replicate s.sizes.word 255 zero some in
    let all : s.sizes.word ≤ s.sizes.word = omega arith in
    let counting : Counting (plan s) c.args.most 0 0 (replicate s.sizes.word zero) = begin (laid s) s.sizes.word all in
    (refl, rw (sym fresh) at counting, ap length fresh ∙ length-replicate s.sizes.word zero)

pub loop-octet-preserved : goal.loop-octet-preserved
loop-octet-preserved c =
    let s = c.args.self.now in
    let i = c.loop-octet.octet in
    let counts = c.loop-octet.counts in
    let l : i < s.sizes.word = omega (arith, c.loop-octet.invariant.1) in
    let there = rw c.place_of.ensures.value at c.stands_at.ensures in
    elim c.if-stands_at.branch [
      | then-stands_at+else-held-most w ↦
          let fits : get_or (set counts i (get_or counts i 0 + 1)) i 0 ≤ c.args.most
          = omega (arith, get_or-set_same counts i (get_or counts i 0 + 1) 0, w.if-held-most.false, c.loop-octet.invariant.1) in
          rw w.counts-is (more (laid s) c.loop-octet.invariant.0 l (there.0 w.if-stands_at.true) fits, length-set counts i (get_or counts i 0 + 1) ∙ c.loop-octet.invariant.1)
      | else-stands_at w ↦
          rw (w.counts-is, set-get_or counts i 0) (no_more (laid s) c.loop-octet.invariant.0 l (λ o. both_ways _ w.if-stands_at.false (there.1 o)), c.loop-octet.invariant.1)
    ]

-- a stretch as long as the reach would hold the whole word
pub returns-after-search : goal.returns-after-search
returns-after-search c =
    let all = below_reach (laid c.args.self.now) c.args.most c.search.length c.requires c.search.invariant.1.few in
    absurd (omega arith)

pub returns-then-held-most : goal.returns-then-held-most
returns-then-held-most c =
    let s = c.args.self.now in
    let i = c.loop-octet.octet in
    let counts = c.loop-octet.counts in
    let l : i < s.sizes.word = omega (arith, c.loop-octet.invariant.1) in
    let octet = rw c.place_of.ensures.value at (c.stands_at.ensures.0 c.if-stands_at.true) in
    let over : c.args.most < get_or (set counts i (get_or counts i 0 + 1)) i 0
    = omega (arith, get_or-set_same counts i (get_or counts i 0 + 1) 0, c.if-held-most.true, c.loop-octet.invariant.1) in
    let found : Longest (plan s) c.args.most c.search.longest
    = rw c.search.invariant.0 (too_many (laid s) c.loop-octet.invariant.0 l octet over) in
    record { longest = found; sharp = sharp (laid s) c.args.most c.search.longest found }
