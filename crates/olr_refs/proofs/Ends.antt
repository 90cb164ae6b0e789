-- The ends of the lines of a list, appended to other nodes.
use Rattle.olr_refs.proofs.Common.{◌⊎◌, inl, inr, ◌≡◌, ℕ, ◌+◌, ◌<◌, [], ◌∷◌, ◌++◌, take, eqb, Map, end, has, ◌||◌, ◌↔◌}
use Rattle.olr_refs.proofs.Common.{◌==◌, List, length, get_or, subst, arith, eq-eqb, start, NodeOf, dedup, or_cases, or_right}
use Rattle.olr_refs.proofs.Common.{Contains, IsPermutation, eqb-true, Contains-push, list_any_more, IsPermutation-sym}
use Rattle.olr_refs.proofs.Common.{Contains-append_left, or_left, Contains-dedup_nat, Contains-from_dedup, Contains-permutation}
use Rattle.std.proofs.lemmas.List.Elements.{Contains-push_cases}

-- one of the ends of line x
abbrev pub EndOf : Map → ℕ → ℕ → Type 0
EndOf M x v = (start M x ≡ v) ⊎ (end M x ≡ v)

-- ns has the nodes of F and the ends of the lines ls
abbrev pub HasEnds : Map → List ℕ → List ℕ → List ℕ → Type 0
HasEnds M F ls ns = (v : ℕ) → Contains ns v ↔ (Contains F v ⊎ NodeOf M ls v)

pushed : (xs : List ℕ) (y v : ℕ) → Contains (xs ++ y ∷ []) v ↔ (Contains xs v ⊎ (y ≡ v))
pushed xs y v = (
  Contains-push_cases xs y v,
  λ c. elim c [
    | inl k ↦ Contains-append_left xs (y ∷ []) v k
    | inr e ↦ subst (Contains (xs ++ y ∷ [])) e (Contains-push xs y)
  ],
)

both_pushed : (A B C F N O S E : Type 0) → A ↔ (F ⊎ N) → B ↔ (A ⊎ S) → C ↔ (B ⊎ E) → O ↔ (N ⊎ (S ⊎ E)) → C ↔ (F ⊎ O)
both_pushed A B C F N O S E a b c o = grind arith

module _ (M : Map) (ls : List ℕ) (i x : ℕ) (inside : i < length ls) (is : x ≡ get_or ls i 0) where
  more : (y : ℕ) → has (take (i + 1) ls) y ≡ (has (take i ls) y || (get_or ls i 0 == y))
  more y = list_any_more (λ z. z == y) ls i 0 inside

  nodes_more : (v : ℕ) → NodeOf M (take (i + 1) ls) v ↔ (NodeOf M (take i ls) v ⊎ EndOf M x v)
  nodes_more v = grind (arith, or_cases, more, eqb-true, or_left, or_right, eq-eqb)

  pub ends_more : (F ns : List ℕ) → HasEnds M F (take i ls) ns →
      HasEnds M F (take (i + 1) ls) ((ns ++ start M x ∷ []) ++ end M x ∷ [])
  ends_more F ns h v =
      both_pushed _ _ _ _ _ _ _ _ (h v) (pushed ns (start M x) v) (pushed (ns ++ start M x ∷ []) (end M x) v)
      (nodes_more v)

-- ---- sorted, without duplicates

-- where neighbours that are the same were left out
pub same_deduped : (ns once : List ℕ) → once ≡ dedup eqb ns → (v : ℕ) → Contains once v ↔ Contains ns v
same_deduped ns once is v = rw is (λ h. Contains-from_dedup eqb ns v h, λ h. Contains-dedup_nat ns v h)

pub same_once : (ns sorted once : List ℕ) → IsPermutation ns sorted → once ≡ dedup eqb sorted → (v : ℕ) →
    Contains once v ↔ Contains ns v
same_once ns sorted once moved is v = rw is (
  (λ h. Contains-permutation sorted ns v (IsPermutation-sym ns sorted moved) (Contains-from_dedup eqb sorted v h)),
  (λ h. Contains-dedup_nat sorted v (Contains-permutation ns sorted v moved h)),
)

-- what three lists append, one after the other
pub three_lists : (M : Map) (ls b a xs ys zs : List ℕ) → HasEnds M [] ls xs → HasEnds M xs b ys → HasEnds M ys a zs →
    (v : ℕ) → Contains zs v ↔ (NodeOf M ls v ⊎ (NodeOf M b v ⊎ NodeOf M a v))
three_lists M ls b a xs ys zs f g h v =
    let none : Contains [] v → ⊥ = λ c. let never = c.1 in omega arith in grind (arith, f v, g v, h v)

-- the members of a set to which numbers were added, by what these are
pub grown_by : (F G once : List ℕ) (Is : ℕ → Type 0) → ((v : ℕ) → Contains once v ↔ Is v) →
    ((v : ℕ) → Contains G v ↔ (Contains F v ⊎ Contains once v)) → (v : ℕ) → Contains G v ↔ (Contains F v ⊎ Is v)
grown_by F G once Is is grew v = let x = is v in let y = grew v in grind arith
