-- A sum of two lists, place by place. Assumes nothing.
use Rattle.std.proofs.Common.{◌≡◌, ℕ, ◌+◌, ◌<◌, ◌≤◌, List, [], ◌∷◌, ◌++◌, length, get_or, take, drop, set, sym, ◌∙◌, ap₂, arith}
use lib.Bits.{bit_xor}
use Rattle.std.proofs.lemmas.List.{append_assoc, append-nil, take_more_set, drop_more, drop-set-lt, take_all, drop_all}
use Rattle.rs_algebra.specs.Polynomials.{plus}

-- one place more, and none left
pub sum_more : (p q : List ℕ) (k : ℕ) → k < length p → k < length q
    → take (k + 1) (set p k (bit_xor (get_or p k 0) (get_or q k 0))) ++ plus (drop (k + 1) (set p k (bit_xor (get_or p k 0) (get_or q k 0)))) (drop (k + 1) q)
    ≡ take k p ++ plus (drop k p) (drop k q)
unfolding plus
sum_more p q k h l =
    let v = bit_xor (get_or p k 0) (get_or q k 0) in
    ap₂ {C = List ℕ} (λ x y. x ++ plus y (drop (k + 1) q)) (take_more_set p k v h) (drop-set-lt (k + 1) p k v (omega arith))
    ∙ append_assoc (take k p) (v ∷ []) (plus (drop (k + 1) p) (drop (k + 1) q))
    ∙ ap₂ {C = List ℕ} (λ x y. take k p ++ plus x y) (sym (drop_more p k 0 h)) (sym (drop_more q k 0 l))

pub sum_done : (p q : List ℕ) (k : ℕ) → length p ≤ k → length q ≤ k → take k p ++ plus (drop k p) (drop k q) ≡ p
unfolding plus
sum_done p q k h l =
    ap₂ {C = List ℕ} (λ x y. take k p ++ plus x y) (drop_all k p h) (drop_all k q l) ∙ append-nil (take k p) ∙ take_all k p h
