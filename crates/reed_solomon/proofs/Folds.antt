-- A fold over a list from its end. Assumes nothing.
use Rattle.std.proofs.Common.{◌≡◌, List, [], ◌∷◌, sym, ap, ◌∙◌, fold, reverse}
use Rattle.std.proofs.lemmas.List.{reverse-append}
use Rattle.std.proofs.lemmas.List.Sums.{fold_push}

-- G is a recursion over the list
pub fold-reverse : {A B : Type 0} (h : B → A → B) (a : B) (G : List A → B) → G [] ≡ a → ((x : A) (xs : List A) → G (x ∷ xs) ≡ h (G xs) x)
    → (xs : List A) → fold h a (reverse xs) ≡ G xs
fold-reverse h a G none more [] = sym none
fold-reverse h a G none more (x ∷ xs) =
    ap (fold h a) (reverse-append (x ∷ []) xs) ∙ fold_push h a (reverse xs) x ∙ ap (λ b. h b x) (fold-reverse h a G none more xs) ∙ sym (more x xs)
