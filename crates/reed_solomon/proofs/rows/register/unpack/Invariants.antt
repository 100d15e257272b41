use Rattle.reed_solomon.proofs.RowRegisters.{Unpacked}
use Rattle.reed_solomon.proofs.rows.register.unpack.Given as goal

abbrev pub invariant-loop-octet : goal.invariant-loop-octet
invariant-loop-octet l = Unpacked l.register l.octet-index l.left l.out
