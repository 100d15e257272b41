use Rattle.runs.proofs.Rides.{rides}
use Rattle.link.proofs.Settings.{settled}
use Rattle.link.proofs.limit.limit_of_pair.Goals as goal

pub returns : goal.returns
returns g c =
    rides (settled c.args.setting.now)
    record { sound = g.met.C.Coder.sound c.args.coder.now; frame = c.requires.0; word = c.requires.1; repairs = c.requires.2 }
    c.burst_limit.result c.burst_limit.ensures.limit
