-- The words of frames in a row. Assumes nothing.
use Rattle.std.proofs.Common.{◌≡◌, ℕ, zero, suc, ◌<◌, ◌≤◌, Bool, ◌⊎◌, List, [], ◌∷◌, ◌++◌, length, get_or, sym, refl, ◌∙◌, ap₂, inl, inr, arith}
use Rattle.std.specs.List.{AllByRecursion}
use Rattle.std.proofs.ByRecursion.{All-get_or}
use Rattle.std.proofs.lemmas.List.{get_or_append_left, get_or_past, get_or_push}
use Rattle.std.proofs.lemmas.Bool.{cases_lt}
use Rattle.places.specs.Line.{Plan}
use Rattle.coder.specs.Codes.{Code, Octets}
use Rattle.scrambler.specs.Scrambler.{scrambled, after}
use Rattle.scrambler.proofs.Scrambling.{length-scrambled, scrambled-octets}
use Rattle.runs.specs.Theorem.{earlier_at, frame_at, word_at}
use Rattle.runs.proofs.Settled.{Fits}

pub octets_at : (xs : List ℕ) → AllByRecursion (λ m. m < 256) xs → Octets xs
octets_at xs h k = go (cases_lt k (length xs))
  where
    go : (k < length xs) ⊎ (length xs ≤ k) → get_or xs k 0 < 256
    go (inl l) = All-get_or (λ m. m < 256) xs k 0 l h
    go (inr l) = rw (get_or_past xs k 0 l) (omega arith)

-- the word of an accepted frame, whatever the earlier bits
pub length_word : {p : Plan} {c : Code} → Fits p c → (earlier : List Bool) (frame : List ℕ) → length frame ≡ p.frame
    → length (c.word_of (scrambled earlier frame)) ≡ p.word
length_word fits earlier frame whole =
    fits.sound.word_long (scrambled earlier frame) (record {
      long = length-scrambled earlier frame ∙ whole ∙ sym fits.frame;
      octets = octets_at (scrambled earlier frame) (scrambled-octets earlier frame);
    })
    ∙ fits.word

-- frames sent later change nothing of earlier ones
pub earlier_same : (frames more : List (List ℕ)) (n : ℕ) → n ≤ length frames → earlier_at (frames ++ more) n ≡ earlier_at frames n
unfolding earlier_at
earlier_same frames more zero h = refl
earlier_same frames more (suc n) h =
    ap₂ (λ e f. after e (scrambled e f)) (earlier_same frames more n (omega arith)) (get_or_append_left frames more [] n (omega arith))

pub word_same : (c : Code) (frames more : List (List ℕ)) (n : ℕ) → n < length frames → word_at c (frames ++ more) n ≡ word_at c frames n
word_same c frames more n h =
    ap₂ (λ e f. c.word_of (scrambled e f)) (earlier_same frames more n (omega arith)) (get_or_append_left frames more [] n h)

-- the frame sent last
pub last_frame : (frames : List (List ℕ)) (frame : List ℕ) → frame_at (frames ++ frame ∷ []) (length frames) ≡ frame
last_frame frames frame = get_or_push frames frame [] (length frames) refl

pub last_word : (c : Code) (frames : List (List ℕ)) (frame : List ℕ)
    → word_at c (frames ++ frame ∷ []) (length frames) ≡ c.word_of (scrambled (earlier_at frames (length frames)) frame)
last_word c frames frame =
    ap₂ (λ e f. c.word_of (scrambled e f)) (earlier_same frames (frame ∷ []) (length frames) (omega arith)) (last_frame frames frame)

pub last_earlier : (frames : List (List ℕ)) (frame : List ℕ) → let e = earlier_at frames (length frames) in
    earlier_at (frames ++ frame ∷ []) (suc (length frames)) ≡ after e (scrambled e frame)
unfolding earlier_at
last_earlier frames frame =
    ap₂ (λ e f. after e (scrambled e f)) (earlier_same frames (frame ∷ []) (length frames) (omega arith)) (last_frame frames frame)
