use Rattle.std.proofs.Common.{◌≡◌, length}
use Rattle.places.proofs.Search.{Counting}
use Rattle.setting.specs.Settings.{plan}
use Rattle.setting.proofs.setting.Setting.longest.Given as goal

abbrev pub invariant-search : goal.invariant-search
invariant-search l = (l.longest ≡ l.length) × Counting (plan l.self) l.most l.length 0 l.counts × (length l.counts ≡ l.self.sizes.word)

abbrev pub invariant-loop-octet : goal.invariant-loop-octet
invariant-loop-octet l = Counting (plan l.self) l.most l.length l.octet l.counts × (length l.counts ≡ l.self.sizes.word)
