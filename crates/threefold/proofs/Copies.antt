-- A message written three times into a word. Assumes nothing.
use Rattle.std.proofs.Common.{◌≡◌, ℕ, ◌+◌, ◌-◌, ◌*◌, ◌≤◌, List, [], ◌++◌, length, drop, sym, refl, ap, ◌∙◌, ap₂, arith}
use borrow.Rule.Slice.PartMut.{put_mid}
use Rattle.std.proofs.lemmas.List.{take-append-drop, take_at, drop_at, drop-drop, length-append, length-drop, append-nil, nil_from_length}
use Rattle.std.proofs.lemmas.Slice.{take-put_mid, drop-put_mid}
use Rattle.threefold.specs.Threefold.{thrice}

-- a copy written behind a front
pub copy_behind : (front back m : List ℕ) (a n : ℕ) → length front ≡ a → length m ≡ n
    → put_mid a n (front ++ back) m ≡ front ++ m ++ drop (length m) back
copy_behind front back m a n fl ml =
    let whole = length-append front back in
    let reach : a ≤ length (front ++ back) = omega arith in
    let upto = take-put_mid a n (front ++ back) m (a + length m) refl reach ∙ ap (λ xs. xs ++ m) (take_at front back a fl) in
    let past : drop (a + length m) (put_mid a n (front ++ back) m) ≡ drop (length m) back
    = drop-put_mid a n (front ++ back) m (a + length m) (omega arith) reach ml ∙ sym (drop-drop (length m) a (front ++ back)) ∙ ap (drop (length m)) (drop_at front back a fl) in
    sym (take-append-drop (a + length m) (put_mid a n (front ++ back) m)) ∙ ap₂ ◌++◌ upto past

pub three_copies : (m word : List ℕ) → length word ≡ 3 * length m
    → put_mid (2 * length m) (3 * length m - 2 * length m)
    (put_mid (length m) (2 * length m - length m) (put_mid 0 (length m - 0) word m) m) m ≡ thrice m
three_copies m word long =
    let k : ℕ = length m in
    let one = copy_behind [] word m 0 (k - 0) refl (omega arith) in
    let rest = drop k word in
    let two = copy_behind m rest m k (2 * k - k) refl (omega arith) in
    let both : length (m ++ m) ≡ 2 * k = length-append m m ∙ omega arith in
    let three = copy_behind (m ++ m) (drop k rest) m (2 * k) (3 * k - 2 * k) both (omega arith) in
    let none : drop k (drop k rest) ≡ [] = nil_from_length (drop k (drop k rest)) (length-drop k (drop k rest) ∙ omega (arith, length-drop k rest, length-drop k word)) in
    ap (λ xs. put_mid (2 * k) (3 * k - 2 * k) (put_mid k (2 * k - k) xs m) m) one
    ∙ ap (λ xs. put_mid (2 * k) (3 * k - 2 * k) xs m) two
    ∙ three ∙ ap (λ xs. m ++ m ++ m ++ xs) none ∙ append-nil (thrice m)
