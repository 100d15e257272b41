use Rattle.std.proofs.Common.{◌≡◌, ◌+◌, ◌-◌, length, take, drop, ap, ◌∙◌, rules, tests}
use Rattle.std.proofs.lemmas.List.{take_rest}
use Rattle.field.specs.Binary.{octets}
use Rattle.rs_algebra.specs.Polynomials.{scaled}
use Rattle.reed_solomon.specs.Rows.{packed}
use Rattle.reed_solomon.proofs.FromFn.{made}
use Rattle.reed_solomon.proofs.rows.filling.all_rows.Goals as goal

pub returns : goal.returns
returns c f h =
    let p = take (c.args.check + 1) c.generator_polynomial-room.result in
    made _ _ (λ k y. y ≡ packed 16 (scaled octets k (take (length p - 1) (drop 1 p)))) c.from_fn.result 0 256
    (λ k y q l called. (search (rules, tests), search (rules, tests))) c.from_fn.ensures.items f h
    ∙ ap (λ q. packed 16 (scaled octets f q)) (take_rest p 1 ∙ ap (drop 1) c.generator_polynomial-room.ensures)
