-- Ascending lists of numbers, by the numbers that they contain.
use Rattle.olr_spec.proofs.Common.{IsStrictlyIncreasing, nat_cmp, eqb-true, ne_eqb, arith, subst, Less, AllByRecursion, List}
use Rattle.olr_spec.proofs.Common.{refl, true, ◌==◌, has, sym, ◌<◌, ◌∙◌, ◌∷◌, ◌≡◌, [], ℕ, Contains, get_or_default, eq-eqb}
use Rattle.olr_spec.proofs.Common.{list_any_at, ranked, IsDistinct}
use Rattle.std.proofs.lemmas.Grind.{common_steps}
use Rattle.std.proofs.lemmas.Map.Keys.{IsDistinct-from_apart, sorted_from_strictly_increasing, below_from_sorted}
use Rattle.std.specs.List.Sorted.{IsStrictlySortedBy}
use Rattle.olr_spec.proofs.Facts.{has_here, has_cases, at_index}

pub distinct_from_ascending : (xs : List ℕ) → IsStrictlyIncreasing xs → IsDistinct ◌==◌ xs
distinct_from_ascending xs up = grind (arith, common_steps, IsDistinct-from_apart, ne_eqb, below_from_sorted, sorted_from_strictly_increasing)

-- ---- ascending lists with the same numbers are equal

pub above : (x n : ℕ) (xs : List ℕ) → AllByRecursion (λ (y : ℕ). nat_cmp x y ≡ Less) xs → has xs n ≡ true → x < n
above x n [] h e = absurd cc
above x n (y ∷ ys) h e = let rest = above x n ys in grind (arith, common_steps, ranked, eqb-true, rest)

same_sorted : (xs ys : List ℕ) → IsStrictlySortedBy nat_cmp xs → IsStrictlySortedBy nat_cmp ys →
    ((n : ℕ) → has xs n ≡ has ys n) → xs ≡ ys
unfolding IsStrictlySortedBy
same_sorted [] [] a b h = refl
same_sorted [] (y ∷ ys) a b h = let e = h y in let f = has_here y ys in absurd cc
same_sorted (x ∷ xs) [] a b h = let e = h x in let f = has_here x xs in absurd cc
same_sorted (x ∷ xs) (y ∷ ys) a b h =
    let is : x ≡ y = grind (arith, common_steps, h x, h y, has_here, has_cases, above y x ys b.0, above x y xs a.0) in
    let above_y : AllByRecursion (λ (z : ℕ). nat_cmp x z ≡ Less) ys =
    subst (λ (k : ℕ). AllByRecursion (λ (z : ℕ). nat_cmp k z ≡ Less) ys) (sym is) b.0 in
    let tails = same_sorted xs ys a.1 b.1 (λ n. grind (arith, common_steps, h n, is, above x n xs a.0, above x n ys above_y, eqb-true)) in
    λ i. is i ∷ tails i

pub same_ascending : (xs ys : List ℕ) → IsStrictlyIncreasing xs → IsStrictlyIncreasing ys →
    ((n : ℕ) → has xs n ≡ has ys n) → xs ≡ ys
same_ascending xs ys a b h =
    same_sorted xs ys (sorted_from_strictly_increasing xs a) (sorted_from_strictly_increasing ys b) h

-- ---- membership, by a test and by a position

pub has_from : (xs : List ℕ) (x : ℕ) → Contains xs x → has xs x ≡ true
has_from xs x h = list_any_at (λ y. y == x) xs h.0 x h.1 (eq-eqb _ x h.2)

pub in_from : (xs : List ℕ) (x : ℕ) → has xs x ≡ true → Contains xs x
in_from xs x h = let k = at_index xs x h in (k.0, k.1, get_or_default xs k.0 x 0 k.1 ∙ k.2)
