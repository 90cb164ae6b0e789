-- Lists of numbers in strictly ascending order: searching for a number, inserting one and removing one.
use Rattle.olr_spec.proofs.Common.{◌≡◌, ◌≢◌, ◌==◌, ℕ, suc, ◌+◌, ◌<◌, ◌≤◌, Bool, true, false, not, ◌&&◌, ◌||◌, ◌⊎◌, inl, inr}
use Rattle.olr_spec.proofs.Common.{List, ◌∷◌, ◌++◌, Contains, Ok, Result, length, get_or, refl, sym, ap, ◌∙◌, arith, [], eq-eqb}
use Rattle.olr_spec.proofs.Common.{ne_eqb, eqb-true, cases_Bool, cases_lt, cases_order, cases_eq, ◌-◌, IsStrictlyIncreasing}
use Rattle.olr_spec.proofs.Common.{list_any_at, has, Err, is_ok, ⊎_elim, MatchResult, IsPermutation, IsBinarySearchResult}
use Rattle.olr_spec.proofs.Common.{or_comm, and_comm, get_or_default}
use Rattle.std.proofs.Common.{insert, remove}
use Rattle.std.proofs.lemmas.List.Kept.{AllPairs-from_increasing}
use Rattle.std.proofs.lemmas.List.Sorted.{searched, list_any-IsPermutation, IsPermutation-insert, IsPermutation-remove}
use Rattle.std.proofs.lemmas.List.Sorted.{IsPermutation-sym, Contains-permutation}
use Rattle.std.proofs.lemmas.Map.Keys.{non_decreasing_from_sorted, sorted_from_strictly_increasing}
use Rattle.std.specs.Ordering.{nat_cmp}
use Rattle.std.proofs.lemmas.List.Edits.{length-insert, get_or-insert_at, get_or-insert_below, get_or-insert_above, insert_end}
use Rattle.std.proofs.lemmas.List.Edits.{length-remove, get_or-remove_below, get_or-remove_above}
use Rattle.olr_spec.proofs.Facts.{Contains-cases, Contains-later}

-- ---- where a search finds a number

-- the index of a number, or the index at which it would be inserted
abbrev pub IsSearchResult : List ℕ → ℕ → Result ℕ ℕ → Type 0
IsSearchResult xs x r =
    MatchResult r (λ i. (i < length xs) × (get_or xs i 0 ≡ x))
    (λ i. (i ≤ length xs) × ((k : ℕ) → k < i → get_or xs k 0 < x)
    × ((k : ℕ) → i ≤ k → k < length xs → x < get_or xs k 0))

pub ascends : (xs : List ℕ) → IsStrictlyIncreasing xs → (i j : ℕ) → i ≤ j → j < length xs → get_or xs i 0 ≤ get_or xs j 0
ascends xs up i j = non_decreasing_from_sorted xs (sorted_from_strictly_increasing xs up) i j 0

pub place_of : (xs : List ℕ) (x : ℕ) (r : Result ℕ ℕ) → IsStrictlyIncreasing xs →
    IsBinarySearchResult (λ y. nat_cmp y x) xs r → IsSearchResult xs x r
place_of xs x r up h = searched xs x r h (ascends xs up)

pub has_at : (xs : List ℕ) (i x : ℕ) → i < length xs → get_or xs i 0 ≡ x → has xs x ≡ true
has_at xs i x lt e = list_any_at (λ y. y == x) xs i 0 lt (eq-eqb (get_or xs i 0) x e)

pub has_not : (xs : List ℕ) (x : ℕ) → ((i : ℕ) → i < length xs → get_or xs i 0 ≢ x) → has xs x ≡ false
has_not [] x h = refl
has_not (y ∷ ys) x h =
    ap (λ (b : Bool). b || has ys x) (ne_eqb y x (h 0 (omega arith))) ∙ has_not ys x (λ i lt. h (suc i) (omega arith))

-- a number that could be inserted isn't in the list
pub place_not : (xs : List ℕ) (x i : ℕ) → IsSearchResult xs x (Err i) → has xs x ≡ false
place_not xs x i p = grind (arith, has_not, cases_lt)

-- a search finds a number exactly if the list has it
pub place_has : (xs : List ℕ) (x : ℕ) (r : Result ℕ ℕ) → IsSearchResult xs x r → is_ok r ≡ has xs x
place_has xs x (Ok i) h = sym (has_at xs i x h.0 h.1)
place_has xs x (Err i) h = sym (place_not xs x i h)

pub found_has : (xs : List ℕ) (x : ℕ) (r : Result ℕ ℕ) → IsStrictlyIncreasing xs →
    IsBinarySearchResult (λ y. nat_cmp y x) xs r → is_ok r ≡ has xs x
found_has xs x r up h = place_has xs x r (place_of xs x r up h)

pub found_there : (xs : List ℕ) (x : ℕ) (r : Result ℕ ℕ) → IsSearchResult xs x r → is_ok r ≡ true → Contains xs x
found_there xs x (Ok i) h e = (i, h.0, get_or_default xs i x 0 h.0 ∙ h.1)
found_there xs x (Err i) h e = cc

not_among : (xs : List ℕ) (x i : ℕ) → IsSearchResult xs x (Err i) → Contains xs x → ⊥
not_among xs x i h c = grind (arith, get_or_default, ⊎_elim, cases_lt)

pub there_found : (xs : List ℕ) (x : ℕ) (r : Result ℕ ℕ) → IsSearchResult xs x r → Contains xs x → is_ok r ≡ true
there_found xs x (Ok i) h c = refl
there_found xs x (Err i) h c = absurd (not_among xs x i h c)

-- ---- one number more

pub insert_ascends : (xs : List ℕ) (x i : ℕ) → IsStrictlyIncreasing xs → IsSearchResult xs x (Err i) →
    IsStrictlyIncreasing (insert xs i x)
insert_ascends xs x i up h k lt =
    let below = get_or-insert_below xs i x 0 in
    let over = get_or-insert_above xs i x 0 in
    grind (arith, below k, below (k + 1), over k, over (k - 1), length-insert xs i x h.0, get_or-insert_at xs i x 0 h.0, cases_order, cases_eq)

-- a number above all of them, at the end
pub ascends_push : (xs : List ℕ) (x : ℕ) → IsStrictlyIncreasing xs → ((k : ℕ) → k < length xs → get_or xs k 0 < x) →
    IsStrictlyIncreasing (xs ++ x ∷ [])
ascends_push xs x up below = grind (arith, insert_end xs x, insert_ascends xs x (length xs) up)

pub has-insert : (xs : List ℕ) (i x n : ℕ) → has (insert xs i x) n ≡ ((x == n) || has xs n)
has-insert xs i x n = sym (list_any-IsPermutation (λ y. y == n) (x ∷ xs) (insert xs i x) (IsPermutation-insert xs i x))

pub insert_adds : (xs : List ℕ) (x i n : ℕ) → Contains (insert xs i x) n → Contains xs n ⊎ (n ≡ x)
insert_adds xs x i n c = elim (Contains-cases x n xs (Contains-permutation (insert xs i x) (x ∷ xs) n
    (IsPermutation-sym (x ∷ xs) (insert xs i x) (IsPermutation-insert xs i x)) c)) [ inl e ↦ inr (sym e) | inr h ↦ inl h ]

pub insert_keeps : (xs : List ℕ) (x i n : ℕ) → Contains xs n ⊎ (n ≡ x) → Contains (insert xs i x) n
insert_keeps xs x i n h = Contains-permutation (x ∷ xs) (insert xs i x) n (IsPermutation-insert xs i x)
    (elim h [ inl c ↦ Contains-later x n xs c | inr e ↦ (0, omega arith, sym e) ])

-- ---- one number less

pub ascends-remove : (xs : List ℕ) (i : ℕ) → IsStrictlyIncreasing xs → i < length xs → IsStrictlyIncreasing (remove xs i)
ascends-remove xs i up at k lt =
    grind (arith, length-remove, ⊎_elim, get_or-remove_below, get_or-remove_above, cases_lt)

-- a number that is removed is no longer in the list
gone : (xs : List ℕ) (i x : ℕ) → IsStrictlyIncreasing xs → i < length xs → get_or xs i 0 ≡ x → has (remove xs i) x ≡ false
gone xs i x up at is = has_not (remove xs i) x (λ k lt e.
    let near = length-remove xs i at in
    let next = AllPairs-from_increasing xs up k i 0 in
    let later = AllPairs-from_increasing xs up i (k + 1) 0 in
    grind (arith, cases_lt k i, get_or-remove_below xs i 0 k, get_or-remove_above xs i 0 k))

pub has-remove : (xs : List ℕ) (i x n : ℕ) → IsStrictlyIncreasing xs → i < length xs → get_or xs i 0 ≡ x →
    has (remove xs i) n ≡ (not (x == n) && has xs n)
has-remove xs i x n up at is =
    let parted : IsPermutation xs (x ∷ remove xs i) =
    IsPermutation-remove xs i x at (sym (get_or_default xs i x 0 at ∙ is)) in
    let same = list_any-IsPermutation (λ y. y == n) xs (x ∷ remove xs i) parted in
    grind (arith, cases_Bool (x == n), cases_Bool (has xs n), eqb-true x n, gone xs i x up at is)

-- ---- as sets: by the result of a search

-- a number that isn't in the list, inserted at its index
pub put_ascends : (xs : List ℕ) (x i : ℕ) → IsStrictlyIncreasing xs → IsBinarySearchResult (λ y. nat_cmp y x) xs (Err i) →
    IsStrictlyIncreasing (insert xs i x)
put_ascends xs x i up h = insert_ascends xs x i up (place_of xs x (Err i) up h)

pub put_has : (xs : List ℕ) (x i v : ℕ) → has (insert xs i x) v ≡ (has xs v || (x == v))
put_has xs x i v = has-insert xs i x v ∙ or_comm (x == v) (has xs v)

-- a number that is in the list already
pub stays_has : (xs : List ℕ) (x i v : ℕ) → IsStrictlyIncreasing xs →
    IsBinarySearchResult (λ y. nat_cmp y x) xs (Ok i) → has xs v ≡ (has xs v || (x == v))
stays_has xs x i v up h =
    grind (arith, cases_Bool (x == v), cases_Bool (has xs v), eqb-true x v, found_has xs x (Ok i) up h)

pub taken_has : (xs : List ℕ) (x i v : ℕ) → IsStrictlyIncreasing xs →
    IsBinarySearchResult (λ y. nat_cmp y x) xs (Ok i) → has (remove xs i) v ≡ (has xs v && not (x == v))
taken_has xs x i v up h = let p =
    place_of xs x (Ok i) up h in has-remove xs i x v up p.0 p.1 ∙ and_comm (not (x == v)) (has xs v)

-- a number that isn't in the list
pub lacks_has : (xs : List ℕ) (x i v : ℕ) → IsStrictlyIncreasing xs →
    IsBinarySearchResult (λ y. nat_cmp y x) xs (Err i) → has xs v ≡ (has xs v && not (x == v))
lacks_has xs x i v up h =
    grind (arith, cases_Bool (x == v), cases_Bool (has xs v), eqb-true x v, found_has xs x (Err i) up h)
