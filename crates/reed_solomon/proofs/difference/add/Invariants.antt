use Rattle.std.proofs.Common.{◌≡◌, ◌++◌, take, drop}
use Rattle.rs_algebra.specs.Polynomials.{plus}
use Rattle.reed_solomon.proofs.difference.add.Given as goal

abbrev pub invariant-loop-k : goal.invariant-loop-k
invariant-loop-k l = take l.k l.sum ++ plus (drop l.k l.sum) (drop l.k l.octets) ≡ plus l.initial.sum l.octets
