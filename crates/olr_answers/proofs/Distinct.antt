-- A list has no duplicates exactly if its numbers, sorted, are strictly increasing.
use Rattle.std.proofs.Common.{IsPermutation, length, get_or, false, arith, true, List, refl, ◌≡◌, ◌+◌, ◌<◌, ◌∷◌, eqb, ◌∙◌, [], ℕ}
use Rattle.std.specs.List.{IsDistinct, AllByRecursion}
use Rattle.std.specs.List.Sorted.{IsSorted}
use Rattle.std.specs.Cmp.{nat_eq_equiv}
use Rattle.std.specs.Ordering.{nat_cmp}
use Rattle.std.proofs.lemmas.Bool.{both_ways, and_parts, and_from, or_parts, or_from, not-true, not_from_false, ne_eqb, eq-eqb}
use Rattle.std.proofs.lemmas.Bool.{cases_Bool, cases_order}
use Rattle.std.proofs.lemmas.List.Kept.{AllPairs-from_increasing}
use Rattle.std.proofs.lemmas.List.Sorted.{IsPermutation-sym, IsNonDecreasingBy-from_sort}
use Rattle.std.proofs.lemmas.Map.Keys.{IsDistinct-head, IsDistinct-tail, IsDistinct-cons, IsDistinct-IsPermutation}
use Rattle.std.proofs.lemmas.Map.Keys.{IsDistinct-from_apart, apart_from_distinct}
use Rattle.olr_spec.specs.Map.{has}
use Rattle.olr_spec.specs.Extension.{none_twice}

-- ---- two ways to state it

differs_from_all : (x : ℕ) (xs : List ℕ) → has xs x ≡ false → AllByRecursion (λ y. eqb x y ≡ false) xs
differs_from_all x [] h = tt
differs_from_all x (y ∷ xs) h = grind (arith, or_parts, nat_eq_equiv.symm y x, differs_from_all x xs)

is_none_of : (x : ℕ) (xs : List ℕ) → AllByRecursion (λ y. eqb x y ≡ false) xs → has xs x ≡ false
is_none_of x [] h = refl
is_none_of x (y ∷ xs) h = or_from (eqb y x) (has xs x) (nat_eq_equiv.symm y x ∙ h.0) (is_none_of x xs h.1)

distinct : (xs : List ℕ) → none_twice xs ≡ true → IsDistinct eqb xs
distinct [] h = IsDistinct-from_apart eqb [] (λ i j d lt in_list. absurd (omega arith))
distinct (x ∷ xs) h = grind (arith, and_parts, not-true, differs_from_all x xs, IsDistinct-cons, distinct xs)

named_once : (xs : List ℕ) → IsDistinct eqb xs → none_twice xs ≡ true
named_once [] h = refl
named_once (x ∷ xs) h =
    grind (arith, and_from, not_from_false, is_none_of x xs, IsDistinct-head eqb x xs h, IsDistinct-tail eqb x xs h, named_once xs)

-- ---- after a sort

-- the first n numbers are strictly increasing
abbrev pub AscendsBelow : List ℕ → ℕ → Type 0
AscendsBelow xs n = (k : ℕ) → k + 1 < n → get_or xs k 0 < get_or xs (k + 1) 0

module _ (xs sorted : List ℕ) (moved : IsPermutation xs sorted) where
  pub ascending_once : AscendsBelow sorted (length sorted) → none_twice xs ≡ true
  ascending_once up =
      let apart = AllPairs-from_increasing sorted up in
      named_once xs (IsDistinct-IsPermutation eqb nat_eq_equiv.symm sorted xs (IsPermutation-sym xs sorted moved)
      (IsDistinct-from_apart eqb sorted
      (λ i j d lt in_list. ne_eqb (get_or sorted i d) (get_or sorted j d)
      (λ is. let below = apart i j d lt in_list in absurd (omega arith)))))

  pub equal_twice : (i j : ℕ) → i + 1 ≡ j → j < length sorted → get_or sorted i 0 ≡ get_or sorted j 0 →
      none_twice xs ≡ false
  equal_twice i j next h is =
      let apart = λ (once : none_twice xs ≡ true). apart_from_distinct eqb sorted i j 0
      (IsDistinct-IsPermutation eqb nat_eq_equiv.symm xs sorted moved (distinct xs once)) (omega arith) h in
      grind (arith, cases_Bool (none_twice xs), apart, eq-eqb)

-- one more neighbour in a sorted list, which is another number
pub ascends_more : (sorted : List ℕ) → IsSorted nat_cmp sorted → (i j : ℕ) → i + 1 ≡ j → j < length sorted →
    eqb (get_or sorted i 0) (get_or sorted j 0) ≡ false → AscendsBelow sorted j → AscendsBelow sorted (j + 1)
ascends_more sorted up i j next h ne below k lt =
    grind (arith, cases_order, IsNonDecreasingBy-from_sort, both_ways, eqb, eq-eqb)
