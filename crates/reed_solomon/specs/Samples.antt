-- Worked words and decodings of three octets and two check octets. Assumes nothing.
use Rattle.std.specs.Prelude.{◌≡◌, [], ◌∷◌}
use Rattle.coder.specs.Codes.{Near, NoneNear}
use Rattle.field.specs.Binary.{octets}
use Rattle.rs_algebra.specs.Words.{word_of}
use Rattle.reed_solomon.specs.ReedSolomon.{rs_code}

-- 00 00 01 has the check octets 03 02, and 00 01 00 has 07 06
abbrev pub WordSamples : Type 0
WordSamples =
    (word_of octets 2 (0 ∷ 0 ∷ 1 ∷ []) ≡ 0 ∷ 0 ∷ 1 ∷ 3 ∷ 2 ∷ []) × (word_of octets 2 (0 ∷ 1 ∷ 0 ∷ []) ≡ 0 ∷ 1 ∷ 0 ∷ 7 ∷ 6 ∷ [])

-- Received 00 00 01 00 02 gives 00 00 01 with 1 repair, 00 00 00 01 01 gives no message, and 00 00 00 00 02 gives 00 00 00.
abbrev pub DecodingSamples : Type 0
DecodingSamples =
    Near (rs_code octets 3 2) (0 ∷ 0 ∷ 1 ∷ 0 ∷ 2 ∷ []) (0 ∷ 0 ∷ 1 ∷ []) 1
    × NoneNear (rs_code octets 3 2) (0 ∷ 0 ∷ 0 ∷ 1 ∷ 1 ∷ [])
    × Near (rs_code octets 3 2) (0 ∷ 0 ∷ 0 ∷ 0 ∷ 2 ∷ []) (0 ∷ 0 ∷ 0 ∷ []) 1
