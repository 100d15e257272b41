-- Whole runs. Assumes nothing.
use Rattle.std.proofs.Common.{◌≡◌, ℕ, suc, ◌<◌, List, [], ◌∷◌, ◌++◌, map, length, get_or, sym, refl, ap, ◌∙◌, ap₂, append_assoc, append-nil, arith}
use Rattle.std.proofs.lemmas.List.{get_or_append_left, get_or-map, length-map}
use Rattle.delay.specs.Queues.{Alike, Bank, leaving, staying}
use Rattle.delay.specs.Runs.{Blocks, element, outs, rest}
use Rattle.delay.proofs.Queues.{leaving_at, leaving_same, length-leaving, length-staying, one_push, staying_at, staying_same}

module _ {E : Type 0} where
  pub length-outs : (bank : Bank E) (bs : List (List E)) → length (outs bank bs) ≡ length bs
  unfolding outs
  length-outs bank [] = refl
  length-outs bank (b ∷ bs) = ap suc (length-outs (staying bank b) bs)

  pub blocks_outs : (I : ℕ) (bank : Bank E) (bs : List (List E)) → Blocks I bs → Blocks I (outs bank bs)
  unfolding outs
  blocks_outs I bank [] h = tt
  blocks_outs I bank (b ∷ bs) h = (length-leaving bank b ∙ h.0, blocks_outs I (staying bank b) bs h.1)

  -- two runs in a row
  pub outs-++ : (bank : Bank E) (cs bs : List (List E)) → outs bank (cs ++ bs) ≡ outs bank cs ++ outs (rest bank cs) bs
  unfolding outs rest
  outs-++ bank [] bs = refl
  outs-++ bank (c ∷ cs) bs = ap (λ l. leaving bank c ∷ l) (outs-++ (staying bank c) cs bs)

  pub rest-++ : (bank : Bank E) (cs bs : List (List E)) → rest bank (cs ++ bs) ≡ rest (rest bank cs) bs
  unfolding rest
  rest-++ bank [] bs = refl
  rest-++ bank (c ∷ cs) bs = rest-++ (staying bank c) cs bs

  -- runs from banks that hold the same in each of I branches
  pub outs_same : (I : ℕ) (a bank : Bank E) (bs : List (List E)) → Blocks I bs → Alike I a bank → outs a bs ≡ outs bank bs
  unfolding outs
  outs_same I a bank [] h same = refl
  outs_same I a bank (b ∷ bs) h same =
      ap₂ (λ y ys. y ∷ ys) (leaving_same a bank b (λ j l. same j (omega (arith, h.0))))
      (outs_same I (staying a b) (staying bank b) bs h.1 (λ j l. staying_same a bank b j (same j l)))

  pub rest_same : (a bank : Bank E) (bs : List (List E)) (j : ℕ) → a j ≡ bank j → rest a bs j ≡ rest bank bs j
  unfolding rest
  rest_same a bank [] j same = same
  rest_same a bank (b ∷ bs) j same = rest_same (staying a b) (staying bank b) bs j (staying_same a bank b j same)

  pub length_rest : (bank : Bank E) (bs : List (List E)) (j : ℕ) → length (rest bank bs j) ≡ length (bank j)
  unfolding rest
  length_rest bank [] j = refl
  length_rest bank (b ∷ bs) j = length_rest (staying bank b) bs j ∙ length-staying bank b j

  -- one block more, from a bank that holds what the run has left
  pub run_on : (I : ℕ) (bank now next : Bank E) (bs : List (List E)) (b c : List E) → length b ≡ I → Alike I now (rest bank bs)
      → c ≡ leaving now b → Alike I next (staying now b)
      → (outs bank (bs ++ b ∷ []) ≡ outs bank bs ++ c ∷ []) × Alike I next (rest bank (bs ++ b ∷ []))
  unfolding outs rest
  run_on I bank now next bs b c whole alike left waits = (
    outs-++ bank bs (b ∷ []) ∙ ap (λ d. outs bank bs ++ d ∷ []) (sym (left ∙ leaving_same now (rest bank bs) b (λ j h. alike j (omega (arith, whole))))),
    λ j l. waits j l ∙ staying_same now (rest bank bs) b j (alike j l) ∙ sym (ap (λ after. after j) (rest-++ bank bs (b ∷ []))),
  )

  -- element j of each block; x where a block has none
  abbrev pub column : (x : E) (j : ℕ) → List (List E) → List E
  column x j bs = map (λ b. get_or b j x) bs

  -- One branch over a run: what leaves and then what waits is what waited and then what entered.
  pub one_branch : (I : ℕ) (bank : Bank E) (bs : List (List E)) → Blocks I bs → (j : ℕ) → j < I → (x : E)
      → column x j (outs bank bs) ++ rest bank bs j ≡ bank j ++ column x j bs
  unfolding outs rest
  one_branch I bank [] h j l x = sym (append-nil (bank j))
  one_branch I bank (b ∷ bs) h j l x =
      let in_block : j < length b = omega (arith, h.0) in
      let y = get_or b j x in
      let later = one_branch I (staying bank b) bs h.1 j l x in
      let first = leaving_at bank b j in_block x in
      let kept = staying_at bank b j in_block x in
      ap₂ (λ z zs. z ∷ zs) first (later ∙ ap (λ q. q ++ column x j bs) kept)
      ∙ ap (λ q. q ++ column x j bs) (one_push (bank j) y)
      ∙ append_assoc (bank j) (y ∷ []) (column x j bs)

  -- an element that leaves
  pub element-outs : (I : ℕ) (bank : Bank E) (bs : List (List E)) → Blocks I bs → (u j : ℕ) → u < length bs → j < I → (x : E)
      → element (outs bank bs) u j x ≡ get_or (bank j ++ column x j bs) u x
  element-outs I bank bs h u j k l x =
      let outcome = outs bank bs in
      let within : u < length outcome = omega (arith, length-outs bank bs) in
      let in-column : u < length (column x j outcome) = omega (arith, length-map outcome (λ b. get_or b j x), within) in
      sym (get_or-map (λ b. get_or b j x) outcome u [] x within)
      ∙ sym (get_or_append_left (column x j outcome) (rest bank bs j) x u in-column)
      ∙ ap (λ c. get_or c u x) (one_branch I bank bs h j l x)
