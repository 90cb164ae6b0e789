-- From one candidate to the next in a list: each position between is passed by a step of its own.
use Rattle.olr_renewal.proofs.Common.{zero, false, length, get_or, slice_get, subst, arith, cases_Bool, cases_lt, at_index, ◌≡◌}
use Rattle.olr_renewal.proofs.Common.{ℕ, suc, ◌+◌, ◌-◌, ◌<◌, ◌≤◌, List, [], ◌∷◌, Some, None, refl, has, min, Item}
use Rattle.olr_renewal.proofs.Common.{slice_get_within, IsStrictlyIncreasing, ascends, get_or_default, AllPairs-from_increasing}
use Rattle.std.proofs.lemmas.List.{get_or_past}

pub past_end : (js : List Item) (q : ℕ) → slice_get js q ≡ None → length js ≤ q
past_end [] q at = omega arith
past_end (j ∷ js) zero at = let never : ⊥ = cc (at) in absurd never
past_end (j ∷ js) (suc q) at = let le = past_end js q at in omega arith

-- the position of candidate k, or the end of the list
abbrev pub candidate : List Item → List ℕ → ℕ → ℕ
candidate is found k = min (length is) (get_or found k (length is))

-- Q holds of the position of candidate k: it says that all before are done with
pub record Walked (is : List Item) (found : List ℕ) (Q : ℕ → Type 0) (k : ℕ) : Type 0 where
  pub done : Q (candidate is found k)

module _ (is : List Item) (found : List ℕ) (up : IsStrictlyIncreasing found) where
  behind : (k : ℕ) → k < length found → min (length is) (get_or found k 0 + 1) ≤ candidate is found (k + 1)
  behind k lt =
      let later = AllPairs-from_increasing found up k (k + 1) 0 in
      let here = get_or_default found (k + 1) (length is) 0 in
      grind (arith, cases_lt (k + 1) (length found), later, here, get_or_past found (k + 1) (length is))

  module _ (Q : ℕ → Type 0)
      (step : (p : ℕ) (i : Item) → slice_get is p ≡ Some i → has found p ≡ false → Q p → Q (p + 1)) where
    gap : (d p q : ℕ) → p + d ≡ q → q ≤ length is → ((j : ℕ) → p ≤ j → j < q → has found j ≡ false) → Q p → Q q
    gap zero p q e le free h = let same : p ≡ q = omega arith in subst Q same h
    gap (suc d) p q e le free h =
        elim (slice_get is p) as (λ o. slice_get is p ≡ o → Q q) [
          | None ↦ λ at. absurd (omega (arith, past_end is p at))
          | Some i ↦ λ at. gap d (p + 1) q (omega arith) le (λ j a b. free j (omega arith) b)
              (step p i at (free p (omega arith) (omega arith)) h)
        ] refl

    -- from p on, which is behind the candidates before k
    on_to : (k p : ℕ) → p ≤ candidate is found k → ((j : ℕ) → j < k → j < length found → get_or found j 0 < p) → Q p →
        Walked is found Q k
    on_to k p le before done = record {
      done = gap (candidate is found k - p) p (candidate is found k) (omega arith) (omega arith) (λ j a b.
          let read = get_or_default found k (length is) 0 in
          grind (arith, cases_Bool (has found j), at_index found j, before, ascends found up k, read)) done;
    }

module _ {is : List Item} {found : List ℕ} {Q : ℕ → Type 0} where
  pub walked_all : {k : ℕ} → length found ≤ k → Walked is found Q k → Q (length is)
  walked_all {k} end h =
      let last = get_or_past found k (length is) end in
      let same : candidate is found k ≡ length is = omega arith in subst Q same h.done

  module _ (up : IsStrictlyIncreasing found) where
    module _ {k : ℕ} (lt : k < length found) (h : Walked is found Q k) where
      pub walked_to : {i : Item} → slice_get is (get_or found k 0) ≡ Some i → Q (get_or found k 0)
      walked_to {i} at =
          let within = slice_get_within is (get_or found k 0) i at in
          let read = get_or_default found k (length is) 0 lt in
          let same : candidate is found k ≡ get_or found k 0 = omega arith in subst Q same h.done

      -- past the last path
      pub walked_past : slice_get is (get_or found k 0) ≡ None → Walked is found Q (k + 1)
      walked_past none =
          let end = past_end is (get_or found k 0) none in
          let read = get_or_default found k (length is) 0 lt in
          let same : candidate is found k ≡ candidate is found (k + 1) = omega (arith, behind is found up k lt) in
          record { done = subst Q same h.done }

    module _ (step : (p : ℕ) (i : Item) → slice_get is p ≡ Some i → has found p ≡ false → Q p → Q (p + 1)) where
      pub walked_none : Q 0 → Walked is found Q 0
      walked_none = on_to is found up Q step 0 0 (omega arith) (λ j lt. absurd (omega arith))

      pub walked_one : {i : Item} {k : ℕ} → k < length found → slice_get is (get_or found k 0) ≡ Some i →
          Q (get_or found k 0 + 1) → Walked is found Q (k + 1)
      walked_one {i} {k} lt at =
          let within = slice_get_within is (get_or found k 0) i at in
          on_to is found up Q step (k + 1) (get_or found k 0 + 1) (omega (arith, behind is found up k lt))
          (λ j low there. omega (arith, ascends found up j k (omega arith) lt))
