-- The routes between the remaining LRPs join to the extended path, so a decoder that follows them follows the path
-- (White Paper, encoding steps).
--     JoinsTo M ls p q, JoinsLast M ls p q      the leg between two neighbouring LRPs is a line and a unique shortest
--         path; the last leg is one line, or a line, a unique shortest path and a line
--     Joins M ls ks      this holds for each two neighbours of ks
--     JoinedWith g M P r      r is the reference of at least two LRPs, and the routes between them join to the extended
--         path
use Rattle.std.specs.Prelude.{◌≡◌, ◌≤◌, ℕ, ◌-◌, List, [], ◌∷◌, ◌++◌, length, slice_index, ◌⊎◌, ⊤}
use Rattle.olr_spec.specs.Margins.{Margin}
use Rattle.olr_spec.specs.Map.{Map, start, end}
use Rattle.olr_spec.specs.Routes.{UniqueShortest}
use Rattle.olr_spec.specs.Extension.{Path}
use Rattle.olr_spec.specs.Points.{stretch, last_position, OfPathWith}
use Rattle.olr_spec.specs.Reference.{Reference, legs, kept_points, reference_with}

-- the leg from p to q is line p, and the unique shortest path from its end to the start of line q
abbrev pub JoinsTo : Map → List ℕ → ℕ → ℕ → Type 0
JoinsTo M ls p q =
    (r : List ℕ) × (stretch ls p q ≡ slice_index ls p ∷ r)
    × UniqueShortest M (end M (slice_index ls p)) (start M (slice_index ls q)) r

-- the last leg: line p alone, or line p, the unique shortest path from its end to the start of the last line, and that
-- line
abbrev pub JoinsLast : Map → List ℕ → ℕ → ℕ → Type 0
JoinsLast M ls p q =
    (stretch ls p q ≡ slice_index ls p ∷ [])
    ⊎ ((r : List ℕ) × (stretch ls p q ≡ slice_index ls p ∷ (r ++ slice_index ls (q - 1) ∷ []))
    × UniqueShortest M (end M (slice_index ls p)) (start M (slice_index ls (q - 1))) r)

-- for each two neighbours of the remaining LRPs
abbrev pub Joins : Map → List ℕ → List ℕ → Type 0
Joins M ls (p ∷ q ∷ []) = JoinsLast M ls p q
Joins M ls (p ∷ q ∷ r ∷ ks) = JoinsTo M ls p q × Joins M ls (q ∷ r ∷ ks)
Joins M ls _ = ⊤

-- the LRPs lead to the end of the extended path
abbrev pub JoinedWith : Margin → Map → Path → Reference → Type 0
JoinedWith g M P r =
    OfPathWith g M P (λ E _ _ js. (r ≡ reference_with g (legs M E.lines) E.pos E.neg js) × (last_position 0 js ≡ length E.lines)
    × (2 ≤ length (kept_points (legs M E.lines) E.pos E.neg js))
    × Joins M E.lines (kept_points (legs M E.lines) E.pos E.neg js))
