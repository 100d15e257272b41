use Rattle.std.proofs.Common.{◌≡◌, ap, rules}
use Rattle.reed_solomon.specs.ReedSolomon.{rs_code}
use Rattle.reed_solomon.specs.Codes.{checked_words}
use Rattle.reed_solomon.proofs.Samples.{word_samples, decoding_samples}
use Rattle.reed_solomon.proofs.reed_solomon.ReedSolomon.new.Goals as goal

pub returns-clause-words : goal.returns-clause-words
returns-clause-words g c =
    let f = g.F.Field.field in
    let same : c.in_ok-sizes.sizes.frame ≡ c.args.frame = search rules in (
      ap (λ K. rs_code f K c.args.check) same,
      checked_words f g.met.F.Field.laws c.args.frame c.args.check,
      word_samples,
      decoding_samples,
    )
