use Rattle.std.proofs.Common.{sym, ◌∙◌, arith}
use Rattle.reed_solomon.proofs.RowRegisters.{none_unpacked, one_unpacked, all_unpacked}
use Rattle.reed_solomon.proofs.rows.register.unpack.Goals as goal

pub loop-octet-init : goal.loop-octet-init
loop-octet-init c = none_unpacked c.args.register c.args.out.now

pub loop-octet-preserved : goal.loop-octet-preserved
loop-octet-preserved c =
    one_unpacked c.args.register c.loop-octet.octet-index c.loop-octet.left c.top.result c.loop-octet.out
    (omega arith) c.top.ensures c.loop-octet.invariant

pub returns : goal.returns
returns c xs o few long is =
    all_unpacked c.args.register c.loop-octet.octet-index c.loop-octet.left c.loop-octet.out
    (omega arith) c.loop-octet.invariant xs o few (long ∙ sym c.loop-octet.auto.out) is
