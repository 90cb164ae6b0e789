-- Lists of which one value is put in among the first ones, or taken out, by a rotation.
use Rattle.olr_map.proofs.Common.{◌≡◌, ℕ, ◌+◌, ◌-◌, ◌<◌, ◌≤◌, List, [], ◌∷◌, ◌++◌, length, take, set, suc, sym, ap, ◌∙◌, arith}
use Rattle.std.proofs.Common.{drop, append_assoc, length-append, length-drop, length-take-le}
use Rattle.std.proofs.lemmas.List.{take_at, drop_at, take-take, drop-drop, drop-take, drop-append-le, take_more_set, take-set-le}
use Rattle.std.proofs.lemmas.List.{length-set}

module _ {X : Type 0} where
  -- the values from i to n
  abbrev part : List X → ℕ → ℕ → List X
  part xs i n = take (n - i) (drop i xs)

  part_is : (xs : List X) (i n : ℕ) → i ≤ n → part xs i n ≡ drop i (take n xs)
  part_is xs i n le =
      let whole : i + (n - i) ≡ n = omega arith in
      sym (drop-take i (n - i) xs) ∙ ap (λ m. drop i (take m xs)) whole

  -- the first n of these lists
  first_of : (us vs ws : List X) (n : ℕ) → length us + length vs ≡ n → take n (us ++ (vs ++ ws)) ≡ us ++ vs
  first_of us vs ws n long =
      ap (take n) (sym (append_assoc us vs ws)) ∙ take_at (us ++ vs) ws n (length-append us vs ∙ long)

  -- the value at i was turned behind the others up to n
  pub turned_out : (xs : List X) (i n : ℕ) (ys zs : List X) → i < n → n ≤ length xs →
      ys ≡ drop 1 (part xs i n) ++ take 1 (part xs i n) →
      take (n - 1) (take i xs ++ (ys ++ zs)) ≡ take i (take n xs) ++ drop (suc i) (take n xs)
  turned_out xs i n ys zs lt fits is =
      let rest : List X = drop 1 (part xs i n) in
      let size : length (take n xs) ≡ n = length-take-le n xs fits in
      let here : part xs i n ≡ drop i (take n xs) = part_is xs i n (omega arith) in
      let next : i + 1 ≡ suc i = omega arith in
      let others : rest ≡ drop (suc i) (take n xs) =
      ap (drop 1) here ∙ drop-drop 1 i (take n xs) ∙ ap (λ k. drop k (take n xs)) next in
      let long : length rest ≡ n - suc i =
      ap (λ l. length l) others ∙ length-drop (suc i) (take n xs) ∙ ap (λ k. k - suc i) size in
      let first : length (take i xs) ≡ i = length-take-le i xs (omega arith) in
      ap (λ l. take (n - 1) (take i xs ++ l)) (ap (λ l. l ++ zs) is ∙ append_assoc rest _ zs)
      ∙ first_of (take i xs) rest _ (n - 1) (omega arith)
      ∙ (λ j. sym (take-take i n xs (omega arith)) j ++ others j)

  -- the value at n was turned in front of those from i on
  pub turned_in : (xs : List X) (i n : ℕ) (x : X) (ys zs : List X) → i ≤ n → n < length xs →
      ys ≡ drop (length (part (set xs n x) i (n + 1)) - 1) (part (set xs n x) i (n + 1))
      ++ take (length (part (set xs n x) i (n + 1)) - 1) (part (set xs n x) i (n + 1)) →
      take (n + 1) (take i (set xs n x) ++ (ys ++ zs)) ≡ take i (take n xs) ++ x ∷ drop i (take n xs)
  turned_in xs i n x ys zs le fits is =
      let rest : List X = drop i (take n xs) in
      let size : length (take n xs) ≡ n = length-take-le n xs (omega arith) in
      let long : length rest ≡ n - i = length-drop i (take n xs) ∙ ap (λ k. k - i) size in
      let here : part (set xs n x) i (n + 1) ≡ rest ++ x ∷ [] =
      part_is (set xs n x) i (n + 1) (omega arith) ∙ ap (drop i) (take_more_set xs n x fits)
      ∙ drop-append-le i (take n xs) (x ∷ []) (omega arith) in
      let less : length (part (set xs n x) i (n + 1)) - 1 ≡ length rest =
      let all = ap (λ l. length l) here ∙ length-append rest (x ∷ []) in omega arith in
      let turned : ys ≡ x ∷ rest =
      is ∙ (λ j. drop (less j) (here j) ++ take (less j) (here j))
      ∙ (λ j. drop_at rest (x ∷ []) (length rest) (λ i. length rest) j ++ take_at rest (x ∷ []) (length rest) (λ i. length rest) j) in
      let wide = length-set xs n x in
      let first : length (take i (set xs n x)) ≡ i = length-take-le i (set xs n x) (omega arith) in
      first_of (take i (set xs n x)) ys zs (n + 1) (let count = ap (λ l. length l) turned in omega arith)
      ∙ (λ j. (take-set-le i xs n x le ∙ sym (take-take i n xs le)) j ++ turned j)
