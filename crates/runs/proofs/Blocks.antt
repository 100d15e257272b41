-- Lists cut into blocks, and blocks end to end. Assumes nothing.
use Rattle.std.proofs.Common.{◌≡◌, ℕ, zero, suc, ◌+◌, ◌*◌, ◌<◌, ◌≤◌, List, [], ◌∷◌, ◌++◌, length, get_or, drop, sym, refl, ap, ◌∙◌, ap₂, append_assoc, suc-mul, suc-add, zero-add, zero-mul, arith}
use Rattle.std.proofs.lemmas.List.{drop-append-le, get_or-append-add, get_or_append_left, get_or-drop, get_or-take, length-append, length-drop, length-take-le, nil_from_length, take-append-le}
use Rattle.delay.specs.Runs.{Blocks, element}
use Rattle.runs.specs.Blocks.{cut, joined}

module _ {E : Type 0} where
  pub length_cut : (I q : ℕ) (xs : List E) → length (cut I q xs) ≡ q
  unfolding cut
  length_cut I zero xs = refl
  length_cut I (suc q) xs = ap suc (length_cut I q (drop I xs))

  pub blocks_cut : (I q : ℕ) (xs : List E) → q * I ≤ length xs → Blocks I (cut I q xs)
  unfolding cut
  blocks_cut I zero xs h = tt
  blocks_cut I (suc q) xs h = (
    length-take-le I xs (omega (arith, suc-mul q I)),
    blocks_cut I q (drop I xs) (omega (arith, length-drop I xs, suc-mul q I)),
  )

  pub cut-++ : (I q more : ℕ) (xs ys : List E) → length xs ≡ q * I → cut I (q + more) (xs ++ ys) ≡ cut I q xs ++ cut I more ys
  unfolding cut
  cut-++ I zero more xs ys h =
      ap₂ (cut I) (zero-add more) (ap (λ r. r ++ ys) (nil_from_length xs (h ∙ zero-mul I)))
  cut-++ I (suc q) more xs ys h =
      let inside : I ≤ length xs = omega (arith, suc-mul q I) in
      ap (λ n. cut I n (xs ++ ys)) (suc-add q more)
      ∙ ap₂ (λ b bs. b ∷ bs) (take-append-le I xs ys inside)
      (ap (cut I (q + more)) (drop-append-le I xs ys inside) ∙ cut-++ I q more (drop I xs) ys (omega (arith, length-drop I xs, suc-mul q I)))

  -- element j of block u
  pub element-cut : (I q : ℕ) (xs : List E) (u j : ℕ) → u < q → j < I → (x : E) → element (cut I q xs) u j x ≡ get_or xs (u * I + j) x
  unfolding cut
  element-cut I zero xs u j h l x = absurd (omega arith)
  element-cut I (suc q) xs zero j h l x =
      get_or-take I xs j x l ∙ ap (λ i. get_or xs i x) (omega (arith, zero-mul I))
  element-cut I (suc q) xs (suc u) j h l x =
      element-cut I q (drop I xs) u j (omega arith) l x ∙ get_or-drop I xs (u * I + j) x
      ∙ ap (λ i. get_or xs i x) (omega (arith, suc-mul u I))

  pub joined-++ : (bs cs : List (List E)) → joined (bs ++ cs) ≡ joined bs ++ joined cs
  unfolding joined
  joined-++ [] cs = refl
  joined-++ (b ∷ bs) cs = ap (λ xs. b ++ xs) (joined-++ bs cs) ∙ sym (append_assoc b (joined bs) (joined cs))

  pub length-joined : (I : ℕ) (bs : List (List E)) → Blocks I bs → length (joined bs) ≡ length bs * I
  unfolding joined
  length-joined I [] h = sym (zero-mul I)
  length-joined I (b ∷ bs) h = omega (arith, length-append b (joined bs), length-joined I bs h.1, h.0, suc-mul (length bs) I)

  pub get_d_joined : (I : ℕ) (bs : List (List E)) → Blocks I bs → (u j : ℕ) → u < length bs → j < I → (x : E)
      → get_or (joined bs) (u * I + j) x ≡ element bs u j x
  unfolding joined
  get_d_joined I [] h u j k l x = absurd (omega arith)
  get_d_joined I (b ∷ bs) h zero j k l x =
      ap (λ i. get_or (b ++ joined bs) i x) (omega (arith, zero-mul I)) ∙ get_or_append_left b (joined bs) x j (omega (arith, h.0))
  get_d_joined I (b ∷ bs) h (suc u) j k l x =
      ap (λ i. get_or (b ++ joined bs) i x) (omega (arith, suc-mul u I, h.0))
      ∙ get_or-append-add b (joined bs) (u * I + j) x ∙ get_d_joined I bs h.1 u j (omega arith) l x
