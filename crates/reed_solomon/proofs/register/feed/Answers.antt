use Rattle.std.proofs.Common.{◌≡◌, ℕ, ◌+◌, ◌-◌, length, get_or, ap, arith}
use lib.Bits.{bit_xor}
use Rattle.reed_solomon.proofs.Registers.{Fed, fed, more}
use Rattle.reed_solomon.proofs.register.feed.Goals as goal

pub loop-k-preserved : goal.loop-k-preserved
loop-k-preserved g c =
    let held = c.loop-k.register in
    let k : ℕ = c.loop-k.k in
    more g.F.Field.field c.args.polynomial.now c.args.register.now c.args.octet
    k (bit_xor c.times.result (get_or held (k + 1) 0)) held (omega (arith, c.loop-k-test.true, c.loop-k.auto.register)) c.loop-k.invariant
    (ap (λ x. bit_xor x (get_or held (k + 1) 0)) c.times.ensures)

pub returns : goal.returns
returns g c =
    let f = g.F.Field.field in
    let before = c.args.register.now in
    let end : c.loop-k.k ≡ length before - 1 = omega (arith, c.loop-k-test.false, c.loop-k.auto.k-end) in
    let now : Fed f c.args.polynomial.now before c.args.octet (length before - 1) c.loop-k.register = rw end at c.loop-k.invariant in
    fed f c.args.polynomial.now before c.args.octet g.met.F.Field.laws c.loop-k.register c.requires.0 c.loop-k.auto.register now
