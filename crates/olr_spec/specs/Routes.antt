-- Routes on a map, their order, the shortest path, and the unique shortest path; and when the labels of a search describe
-- the shortest paths within a limit (profile).
--     IsRoute M s t xs      the lines xs are a route from s to t: each starts where the one before ends
--     dm_of M xs      their length
--     Reaches M s limit v      a route of at most the limit leads from s to v
--     PrecedesInTieOrder M xs ys      xs precedes ys: it is shorter, or equally long with the smaller line number at
--         the first difference, counted from the end
--     Least M s t xs      the shortest path: a route from s to t that no other precedes
--     UniqueShortest M s t xs      the unique shortest path: a route such that every other is longer
--     Settled M s limit dist trace      in a search from s, each label describes a route, and no line improves a label
use Rattle.std.specs.Prelude.{◌≡◌, ◌≢◌, ℕ, ◌+◌, ◌<◌, ◌≤◌, List, [], ◌∷◌, ◌++◌, reverse, Option, Some, ◌⊎◌, IsTrue}
use Rattle.olr_spec.specs.Map.{Map, has_line, start, end, dm}

-- a line may occur more than once, and a U-turn is allowed
abbrev pub IsRoute : Map → ℕ → ℕ → List ℕ → Type 0
IsRoute M s t [] = s ≡ t
IsRoute M s t (x ∷ xs) = IsTrue (has_line M x) × (start M x ≡ s) × IsRoute M (end M x) t xs

-- in decimetres
abbrev pub dm_of : Map → List ℕ → ℕ
dm_of M [] = 0
dm_of M (x ∷ xs) = dm M x + dm_of M xs

abbrev pub Reaches : Map → ℕ → ℕ → ℕ → Type 0
Reaches M s limit v = (xs : List ℕ) × IsRoute M s v xs × (dm_of M xs ≤ limit)

-- xs has the smaller number at the first difference
abbrev pub FirstSmaller : List ℕ → List ℕ → Type 0
FirstSmaller [] ys = ⊥
FirstSmaller (x ∷ xs) [] = ⊥
FirstSmaller (x ∷ xs) (y ∷ ys) = (x < y) ⊎ ((x ≡ y) × FirstSmaller xs ys)

-- for routes with the same ends (profile)
abbrev pub PrecedesInTieOrder : Map → List ℕ → List ℕ → Type 0
PrecedesInTieOrder M xs ys = (dm_of M xs < dm_of M ys) ⊎ ((dm_of M xs ≡ dm_of M ys)
    × FirstSmaller (reverse xs) (reverse ys))

-- the route that the labels of a search describe
pub record Least (M : Map) (s t : ℕ) (xs : List ℕ) : Type 0 where
  pub route : IsRoute M s t xs
  pub first : (ys : List ℕ) → IsRoute M s t ys → ¬ PrecedesInTieOrder M ys xs

-- the route between two location reference points (LRPs; White Paper, encoding steps). If two shortest routes are equally
-- long none is unique, since a decoder may take either (profile)
pub record UniqueShortest (M : Map) (s t : ℕ) (xs : List ℕ) : Type 0 where
  pub route : IsRoute M s t xs
  pub others : (ys : List ℕ) → IsRoute M s t ys → ys ≢ xs → dm_of M xs < dm_of M ys

-- ---- labels of a search

-- dist is the distance at each labelled node, and trace the route to it by the last lines, of this length and within
-- the limit. Each line from a labelled node that stays within the limit ends at a labelled node, whose label it does
-- not improve: the distance there is less, or it is equal and the last line has no greater number
pub record Settled (M : Map) (s limit : ℕ) (dist : ℕ → Option ℕ) (trace : ℕ → List ℕ) : Type 0 where
  pub source : dist s ≡ Some 0
  pub at_source : trace s ≡ []
  pub routes : (v d : ℕ) → dist v ≡ Some d → IsRoute M s v (trace v) × (dm_of M (trace v) ≡ d) × (d ≤ limit)
  pub steps : (v d : ℕ) → dist v ≡ Some d → v ≢ s → (x : ℕ) × (trace v ≡ trace (start M x) ++ x ∷ [])
  pub closed : (u d x : ℕ) → dist u ≡ Some d → IsTrue (has_line M x) → start M x ≡ u → d + dm M x ≤ limit
      → (e : ℕ) × (dist (end M x) ≡ Some e)
      × ((e < d + dm M x) ⊎ ((e ≡ d + dm M x) × ((y : ℕ) (ys : List ℕ) → trace (end M x) ≡ ys ++ y ∷ [] → y ≤ x)))
