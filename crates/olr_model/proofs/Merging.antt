-- Two ascending lists are merged from the front.
use Rattle.std.specs.List.{list_any}
use Rattle.std.specs.List.Sorted.{IsStrictlyIncreasing}
use Rattle.std.specs.FinMap.{nat_cmp-IsAntisymmetric}
use Rattle.std.proofs.lemmas.Bool.{or_cases, or_left, or_right}
use Rattle.std.proofs.lemmas.Map.Keys.{IsStrictlyIncreasing-from_sorted, sorted_from_strictly_increasing}
use Rattle.std.proofs.lemmas.Map.Views.{Contains-from_any, list_any-from_Contains}
use Rattle.std.proofs.Common.{◌≡◌, ℕ, ◌+◌, ◌<◌, ◌≤◌, ◌⊎◌, List, [], ◌∷◌, ◌++◌, Contains, length, get_or, drop, true, refl, ap, ◌∙◌, inl, inr, arith, Less, sym, nat_cmp, ◌↔◌, ⊎_elim, Equal, Greater, Ordering}
use Rattle.std.specs.Set.{sorted_merge}
use Rattle.std.specs.Ordering.{eq_by_cmp, match_ordering}
use Rattle.std.specs.Cmp.{nat_cmp_total, Equal-is}
use Rattle.std.proofs.lemmas.Cmp.{ranked, eq_by_cmp_equiv}
use Rattle.std.proofs.lemmas.List.{append_assoc, append-nil, drop_all, drop_more}
use Rattle.std_collections.proofs.SortedSets.{sorted_merged, merge_is_union, length_union}

abbrev pub merged : List ℕ → List ℕ → List ℕ
merged xs ys = sorted_merge nat_cmp true xs ys

-- the lesser of the next numbers is the next of the merged list
pub next_merged : (both xs ys : List ℕ) (i j x y n a b : ℕ) → i < length xs → j < length ys → get_or xs i 0 ≡ x →
    get_or ys j 0 ≡ y → (x ≤ y → (n ≡ x) × (a ≡ i + 1)) → (y ≤ x → (n ≡ y) × (b ≡ j + 1)) → (x < y → b ≡ j) →
    (y < x → a ≡ i) → (both ++ n ∷ []) ++ merged (drop a xs) (drop b ys) ≡ both ++ merged (drop i xs) (drop j ys)
next_merged both xs ys i j x y n a b in_xs in_ys is_x is_y first second not_second not_first =
    append_assoc both (n ∷ []) (merged (drop a xs) (drop b ys))
    ∙ ap (λ (zs : List ℕ). both ++ zs) (step (nat_cmp x y) refl ∙ (λ k. merged (sym front k) (sym back k))) where
      front : drop i xs ≡ x ∷ drop (i + 1) xs
      front = drop_more xs i 0 in_xs ∙ ap (λ (k : ℕ). k ∷ drop (i + 1) xs) is_x

      back : drop j ys ≡ y ∷ drop (j + 1) ys
      back = drop_more ys j 0 in_ys ∙ ap (λ (k : ℕ). k ∷ drop (j + 1) ys) is_y

      step : (r : Ordering) → r ≡ nat_cmp x y → n ∷ merged (drop a xs) (drop b ys)
          ≡ match_ordering r (x ∷ merged (drop (i + 1) xs) (y ∷ drop (j + 1) ys))
          (x ∷ merged (drop (i + 1) xs) (drop (j + 1) ys)) (y ∷ merged (x ∷ drop (i + 1) xs) (drop (j + 1) ys))
      step Less e =
          let lt = ranked x y Less e in
          let f = first (omega arith) in rw (f.0, f.1, not_second lt, back) refl
      step Equal e =
          let is = ranked x y Equal e in
          let f = first (omega arith) in let s = second (omega arith) in rw (f.0, f.1, s.1) refl
      step Greater e =
          let gt = ranked x y Greater e in
          let s = second (omega arith) in rw (s.0, not_first gt, s.1, front) refl

merged_end : (xs : List ℕ) → merged xs [] ≡ xs
merged_end [] = refl
merged_end (x ∷ xs) = refl

-- where one list is used up, the rest of the other follows
pub ended : (both xs ys : List ℕ) (i j : ℕ) → (length xs ≤ i) ⊎ (length ys ≤ j)
    → (both ++ drop i xs) ++ drop j ys ≡ both ++ merged (drop i xs) (drop j ys)
ended both xs ys i j (inl end) = rw (drop_all i xs end, append-nil) refl
ended both xs ys i j (inr end) = rw (drop_all j ys end, append-nil, merged_end) refl

-- ---- the merged list as a set

pub merged_ascends : (xs ys : List ℕ) → IsStrictlyIncreasing xs → IsStrictlyIncreasing ys → IsStrictlyIncreasing (merged xs ys)
merged_ascends xs ys a b = IsStrictlyIncreasing-from_sorted (merged xs ys)
    (sorted_merged nat_cmp_total true xs ys (sorted_from_strictly_increasing xs a) (sorted_from_strictly_increasing ys b))

pub merged_has : (xs ys : List ℕ) (n : ℕ) → Contains (merged xs ys) n ↔ (Contains xs n ⊎ Contains ys n)
merged_has xs ys n =
    let union = merge_is_union nat_cmp_total xs ys n in (
      λ c. ⊎_elim (λ h. inl (there xs h)) (λ h. inr (there ys h)) (or_cases _ _ (sym union ∙ any (merged xs ys) c)),
      λ c. there (merged xs ys) (union ∙ ⊎_elim (λ h. or_left _ _ (any xs h)) (λ h. or_right _ _ (any ys h)) c),
    ) where
      any : (zs : List ℕ) → Contains zs n → list_any (eq_by_cmp nat_cmp n) zs ≡ true
      any = list_any-from_Contains (eq_by_cmp_equiv nat_cmp_total) n

      there : (zs : List ℕ) → list_any (eq_by_cmp nat_cmp n) zs ≡ true → Contains zs n
      there = Contains-from_any (λ x y e. nat_cmp-IsAntisymmetric x y ((Equal-is (nat_cmp x y)).0 e)) n

pub merged_more : (xs ys : List ℕ) → length xs ≤ length (merged xs ys)
merged_more xs ys = (length_union nat_cmp xs ys).0
