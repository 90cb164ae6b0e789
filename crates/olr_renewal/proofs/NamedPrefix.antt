-- The names of the affected paths, as far as a list was passed.
use Rattle.olr_renewal.proofs.Common.{inr, arith, ◌≡◌, ℕ, ◌+◌, List, [], ◌∷◌, ◌++◌, take, slice_get, Some, sym, ap, ◌∙◌}
use Rattle.olr_renewal.proofs.Common.{map-append, Map, Margin, IsMap, ChangedLine, Item, IsAffected, IsBefore, Picks, ToSkip}
use Rattle.olr_renewal.proofs.Common.{ToName, AffectedNames, take_more_at, Covers, has, false}
use Rattle.olr_renewal.proofs.RetainedLemmas.{touched_by, named_affected}

module _ {A : Type 0} (P : A → Type 0) where
  picks_taken : (xs ys : List A) (x : A) → Picks P xs ys → P x → Picks P (xs ++ x ∷ []) (ys ++ x ∷ [])
  picks_taken [] ys x h p = grind arith
  picks_taken (y ∷ xs) ys x h p = grind (arith, picks_taken xs)

  picks_left : (xs ys : List A) (x : A) → Picks P xs ys → (¬ P x) → Picks P (xs ++ x ∷ []) ys
  picks_left [] ys x h n = inr (n, h)
  picks_left (y ∷ xs) ys x h n = grind (arith, picks_left xs)

module _ {g : Margin} {N : Map} (n : IsMap N) {T X : List ℕ} {C : List ChangedLine} {is : List Item}
    (q : IsBefore g N N T X C is)
    (p : ℕ) (i : Item) (at : slice_get is p ≡ Some i) (names : List (List ℕ)) where
  pub names_left : ToSkip N T X i.results i.path → AffectedNames g N T X (take p is) names →
      AffectedNames g N T X (take (p + 1) is) names
  names_left f h = rw (take_more_at is p i at) (
    h.0,
    picks_left (IsAffected g N T X) (take p is) h.0 i h.1 (λ o. f.2 (touched_by n q p i at f.1 o)),
    h.2,
  )

  pub names_taken : ToName N T X i.results i.path → AffectedNames g N T X (take p is) names →
      AffectedNames g N T X (take (p + 1) is) (names ++ i.name ∷ [])
  names_taken f h = rw (take_more_at is p i at) (
    h.0 ++ i ∷ [],
    picks_taken (IsAffected g N T X) (take p is) h.0 i h.1 (named_affected n q p i at f),
    ap (λ (ns : List (List ℕ)). ns ++ i.name ∷ []) h.2 ∙ sym (map-append (λ (j : Item). j.name) h.0 (i ∷ [])),
  )

-- a path that is no candidate is not named
pub unnamed : {g : Margin} {N : Map} → IsMap N → {T X : List ℕ} {C : List ChangedLine} {is : List Item} →
    IsBefore g N N T X C is → (found : List ℕ) → Covers N T X is found → (names : List (List ℕ)) (p : ℕ) (i : Item) →
    slice_get is p ≡ Some i → has found p ≡ false → AffectedNames g N T X (take p is) names →
    AffectedNames g N T X (take (p + 1) is) names
unnamed n q found covers names p i at free = names_left n q p i at names (covers p i at free)
