-- A word's blocks through a delay line, block by block. Assumes nothing.
use Rattle.std.proofs.Common.{◌≡◌, ℕ, zero, suc, ◌+◌, ◌*◌, ◌<◌, ◌≤◌, List, [], ◌∷◌, ◌++◌, length, take, drop, sym, ap, ◌∙◌, ap₂, append_assoc, append-nil, mul-le-mul_right, suc-mul, add-mul, suc-add, zero-mul, arith}
use Rattle.std.proofs.lemmas.List.{drop_at, drop-drop, take_at}
use Rattle.delay.specs.declared.triangle.Triangle.{Triangle}
use Rattle.delay.specs.Queues.{Alike, Bank}
use Rattle.delay.specs.Runs.{outs, rest}
use Rattle.delay.specs.Triangles.{queue}
use Rattle.delay.specs.Answers.{Through}
use Rattle.delay.proofs.Runs.{blocks_outs, length-outs}
use Rattle.runs.specs.Blocks.{cut, joined, left, through}
use Rattle.runs.proofs.Blocks.{blocks_cut, joined-++, length_cut, length-joined}

module _ {E : Type 0} where
  -- one block more
  pub cut_more : (I q : ℕ) (xs : List E) → cut I (q + 1) xs ≡ cut I q xs ++ take I (drop (q * I) xs) ∷ []
  unfolding cut
  cut_more I zero xs = ap (λ n. take I (drop n xs) ∷ []) (sym (zero-mul I))
  cut_more I (suc q) xs =
      let place : q * I + I ≡ suc q * I = omega (arith, suc-mul q I) in
      ap (λ n. cut I n xs) (suc-add q 1)
      ∙ ap (λ bs. take I xs ∷ bs)
      (cut_more I q (drop I xs) ∙ ap (λ ys. cut I q (drop I xs) ++ take I ys ∷ []) (drop-drop (q * I) I xs ∙ ap (λ n. drop n xs) (omega (arith, place))))

  pub length-through : (I q : ℕ) (bank : Bank E) (xs : List E) → q * I ≤ length xs → length (through I q bank xs) ≡ q * I
  length-through I q bank xs h =
      length-joined I (outs bank (cut I q xs)) (blocks_outs I bank (cut I q xs) (blocks_cut I q xs h))
      ∙ ap (λ n. n * I) (length-outs bank (cut I q xs) ∙ length_cut I q xs)

-- a block that has yet to pass ends within the word
pub inside : (I part parts long : ℕ) → part < parts → long ≡ parts * I → part * I + I ≤ long
inside I part parts long h whole = omega (arith, suc-mul part I, mul-le-mul_right I h)

-- so many blocks of the word have passed, and the others stand where they stood
pub record Underway (E : Type 0) (t : Triangle) (part clock : ℕ) (memory memory' word word' : List E) : Type 0 where
  pub leaves : word' ≡ through t.block part (queue t clock memory) word ++ drop (part * t.block) word
  pub waits : Alike t.block (queue t (clock + part) memory') (left t.block part (queue t clock memory) word)

module _ {E : Type 0} (t : Triangle) (clock : ℕ) (memory word : List E) where
  pub begin : Underway E t 0 clock memory memory word word
  unfolding cut joined outs rest
  begin = record {
    leaves = ap (λ n. drop n word) (sym (zero-mul t.block));
    waits = λ j h. ap (λ n. queue t n memory j) (omega arith);
  }

  -- one block more
  pub more : {part : ℕ} {memory' memory'' word' block' : List E} → Underway E t part clock memory memory' word word'
      → part * t.block + t.block ≤ length word
      → Through E t (clock + part) memory' memory'' (take t.block (drop (part * t.block) word')) block'
      → Underway E t (part + 1) clock memory memory'' word
      (take (part * t.block) word' ++ (block' ++ drop t.block (drop (part * t.block) word')))
  more {part} {memory'} {memory''} {word'} {block'} so_far within pushed = record {
    leaves =
        ap₂ (λ xs ys. xs ++ (block' ++ drop I ys)) front behind
        ∙ ap (λ ys. before ++ (block' ++ ys)) (drop-drop I s word ∙ ap (λ n. drop n word) (omega (arith, ends)))
        ∙ sym (append_assoc before block' (drop ((part + 1) * I) word))
        ∙ ap (λ xs. xs ++ drop ((part + 1) * I) word) (sym left_now);
    waits = λ j h. ap (λ n. queue t n memory'' j) (omega arith) ∙ gone.1 j h ∙ ap (λ bs. rest bank bs j) (sym blocks);
  }
    where
      I : ℕ
      I = t.block

      s : ℕ
      s = part * I

      ends : (part + 1) * I ≡ s + I
      ends = omega (arith, add-mul part 1 I)

      bank : Bank E
      bank = queue t clock memory

      before : List E
      before = through I part bank word

      long : length before ≡ s
      long = length-through I part bank word (omega (arith, within))

      front : take s word' ≡ before
      front = ap (take s) so_far.leaves ∙ take_at before (drop s word) s long

      behind : drop s word' ≡ drop s word
      behind = ap (drop s) so_far.leaves ∙ drop_at before (drop s word) s long

      blocks : cut I (part + 1) word ≡ cut I part word ++ take I (drop s word') ∷ []
      blocks = cut_more I part word ∙ ap (λ ys. cut I part word ++ take I ys ∷ []) (sym behind)

      gone : (outs bank (cut I part word ++ take I (drop s word') ∷ []) ≡ outs bank (cut I part word) ++ block' ∷ [])
          × Alike I (queue t (clock + part + 1) memory'') (rest bank (cut I part word ++ take I (drop s word') ∷ []))
      gone = pushed.run bank (cut I part word) so_far.waits

      left_now : through I (part + 1) bank word ≡ before ++ block'
      left_now =
          ap (λ bs. joined (outs bank bs)) blocks ∙ ap joined gone.0 ∙ joined-++ (outs bank (cut I part word)) (block' ∷ [])
          ∙ ap (λ xs. before ++ xs) (unfold joined in append-nil block')
