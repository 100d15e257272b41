use Rattle.field.specs.Binary.{doubled, times_bits, reduced_times}
use Rattle.field.specs.Generators.{listed, index_of, power_table, log_table, power_of_log}
use Rattle.field.specs.Octets.{octets_generated}
use Rattle.field.proofs.table.logarithm.Goals as goal

-- the table is the computed one
pub returns : goal.returns
unfolding power_table log_table listed index_of doubled times_bits reduced_times
returns c =
    let log = power_of_log octets_generated c.args.a c.requires c.ranges.a.fits in
    record { below = log.0; undone = log.1 }
