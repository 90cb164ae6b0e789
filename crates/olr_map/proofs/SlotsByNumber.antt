-- Slots by number, in an array or in a table: after one is set, and as a list.
use Rattle.olr_map.proofs.Common.{common_steps, get_or_past, option_or, pairs_of, slot_by, held, NumberTable, from, eqb-true}
use Rattle.olr_map.proofs.Common.{SlotIndex, Option, eq-eqb, length, lookup, ne_eqb, arith, zero, suc, slice_index, slice_set}
use Rattle.olr_map.proofs.Common.{Bool, List, None, Some, cond, refl, ◌++◌, ◌==◌, ◌+◌, ◌≡◌, ◌<◌, ◌≤◌, ◌∷◌, [], ℕ}
use Rattle.olr_map.proofs.Common.{number_before, dense_slot}
use Rattle.olr_map.specs.SlotIndexes.{slot_in_either}
use Rattle.std.proofs.lemmas.List.{get_or-set_same, get_or-set_other}

pub lookup-append : {X : Type 0} (test : ℕ → Bool) (xs ys : List (ℕ × X)) →
    lookup test (xs ++ ys) ≡ option_or (lookup test xs) (lookup test ys)
lookup-append test [] ys = refl
lookup-append test (e ∷ xs) ys = let rest = lookup-append test xs ys in grind (arith, common_steps, rest)

pub or_none : {X : Type 0} (o p : Option X) → p ≡ None → option_or o p ≡ o
or_none None p e = e
or_none (Some x) p e = refl

-- a number below the first has no slot there
below : (n : ℕ) (xs : List ℕ) (k : ℕ) → k < n → lookup (λ q. k == q) (from n xs) ≡ None
below n [] k lt = refl
below n (zero ∷ xs) k lt = below (suc n) xs k (omega arith)
below n (suc p ∷ xs) k lt = grind (arith, common_steps, ne_eqb, below (suc n) xs k)

within : (n : ℕ) (xs : List ℕ) (i k : ℕ) → k ≡ n + i →
    lookup (λ q. k == q) (from n xs) ≡ number_before (slice_index xs i)
within n [] i k e = refl
within n (zero ∷ xs) zero k e = below (suc n) xs k (omega arith)
within n (suc p ∷ xs) zero k e = grind (arith, common_steps, eq-eqb)
within n (zero ∷ xs) (suc i) k e = within (suc n) xs i k (omega arith)
within n (suc p ∷ xs) (suc i) k e = grind (arith, common_steps, ne_eqb, within (suc n) xs i k)

-- ---- in an array or in a table

pub slot_of_either : (xs : List ℕ) (b : NumberTable ℕ) (k : ℕ) →
    slot_in_either xs b k ≡ option_or (dense_slot xs k) (held b k)
unfolding slot_in_either
slot_of_either xs b k = refl

longer : (xs : List ℕ) (k : ℕ) → slice_index (xs ++ 0 ∷ []) k ≡ slice_index xs k
longer [] zero = refl
longer [] (suc k) = refl
longer (x ∷ xs) zero = refl
longer (x ∷ xs) (suc k) = longer xs k

-- a number more in the array, without a slot
pub lengthened : (xs : List ℕ) (b : NumberTable ℕ) (k : ℕ) → slot_in_either (xs ++ 0 ∷ []) b k ≡ slot_in_either xs b k
lengthened xs b k = grind (arith, slot_of_either, longer xs k)

-- a number that isn't in the array
pub beyond : (xs : List ℕ) (b : NumberTable ℕ) (k : ℕ) → length xs ≤ k → slot_in_either xs b k ≡ held b k
beyond xs b k past = grind (arith, slot_of_either, get_or_past xs k 0)

-- a number has another slot, or none, in the array or in the table
pub changed_there : (xs : List ℕ) (b : NumberTable ℕ) (n v : ℕ) (w : Option ℕ) → n < length xs →
    option_or (number_before v) (held b n) ≡ w → (k : ℕ) →
    slot_in_either (slice_set xs n v) b k ≡ cond (n == k) w (slot_in_either xs b k)
changed_there xs b n v w lt is k =
    let here = get_or-set_same xs n v 0 lt in
    grind (arith, common_steps, slot_of_either, here, get_or-set_other xs n k v 0, eqb-true)

pub changed_beyond : (xs : List ℕ) (b b' : NumberTable ℕ) (n : ℕ) (w : Option ℕ) → length xs ≤ n →
    ((k : ℕ) → held b' k ≡ cond (n == k) w (held b k)) → (k : ℕ) →
    slot_in_either xs b' k ≡ cond (n == k) w (slot_in_either xs b k)
changed_beyond xs b b' n w past now k =
    grind (arith, common_steps, slot_of_either, now k, eqb-true, beyond xs b n past, beyond xs b' n past)

pub listed_found : (i : SlotIndex) (k : ℕ) → lookup (λ q. k == q) (pairs_of i) ≡ slot_by i k
listed_found i k = grind (arith, lookup-append, within 0 i.dense.items k k, slot_of_either)
