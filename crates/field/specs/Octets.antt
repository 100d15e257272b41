-- The octets are a field: 02 generates. Assumes nothing.
use Rattle.std.specs.Prelude.{refl}
use Rattle.std.proofs.Common.{arith}
use Rattle.field.specs.Field.{Laws, raised}
use Rattle.field.specs.Binary.{octets, doubled, times_bits, reduced_times}
use Rattle.field.specs.Generators.{Generates, listed, index_of, power_table, log_table, logged, undone, laws}

pub octets_generated : Generates 8 29 2
unfolding power_table log_table listed index_of logged undone doubled times_bits reduced_times raised
octets_generated = record {
  least = omega arith;
  most = omega arith;
  fits = omega arith;
  alpha_fits = omega arith;
  around = refl;
  logs_right = refl;
  powers_right = refl;
}

pub octet_laws : Laws octets
octet_laws = laws octets_generated
