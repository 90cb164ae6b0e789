-- A sorted list as a set.
use Rattle.olr_refs.proofs.Common.{◌≡◌, ℕ, ◌==◌, List, Result, IsPermutation, sym, IsBinarySearchResult, nat_cmp}
use Rattle.olr_refs.proofs.Common.{list_any-IsPermutation, has, is_ok, IsNonDecreasing, searched}
use Rattle.olr_spec.proofs.AscendingLists.{place_has}

pub found : (xs : List ℕ) (x : ℕ) (r : Result ℕ ℕ) → IsNonDecreasing xs → IsBinarySearchResult (λ y. nat_cmp y x) xs r →
    is_ok r ≡ has xs x
found xs x r up h = place_has xs x r (searched xs x r h (λ i j le lt. up i j 0 le lt))

pub same_members : (xs ys : List ℕ) → IsPermutation xs ys → (x : ℕ) → has ys x ≡ has xs x
same_members xs ys moved x = sym (list_any-IsPermutation (λ y. y == x) xs ys moved)
