use Rattle.places.proofs.Places.{lies}
use Rattle.setting.proofs.Facts.{laid, parts_pos}
use Rattle.setting.proofs.setting.Setting.place_of.Goals as goal

pub returns-clause-lies : goal.returns-clause-lies
returns-clause-lies c = lies (laid c.args.self.now) (parts_pos c.args.self.now)
