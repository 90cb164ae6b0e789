-- What a choice of LRPs says, and what it searches.
--     ForPoints g M ls P      P of the points after position 0, of which there is exactly one list
--     IsChoice ls js c      the choice is 0 and js where they lead to the end, and else the position that has no next
--         point
--     searches_of ls is      how many of the points is are searched from: those that two lines or more follow
--     SeenBy M queries v      one of the queries reaches node v
--     begun_at g      the start value of a search that finds how far lines are covered
--     MayMark g M slot xs from line s      the line may count longer from now on, where the lines xs do so already
--     TestedTo g M ls i last_near to within      the positions after i are covered and within the limit up to last_near, and
--         tested up to the position `to`; the lines between count `within`
use Rattle.std.specs.Prelude.{if◌then◌else◌, ◌==◌, ◌≡◌, ◌≢◌, ℕ, ◌+◌, List, ◌∷◌, [], length, count_by, nat_lt}
use Rattle.std.specs.Prelude.{Contains, ◌⊎◌, slice_index}
use Rattle.olr_spec.specs.Margins.{Margin, counted, counted_dm_of}
use Rattle.olr_spec.specs.Map.{Map, end}
use Rattle.olr_spec.specs.Points.{FollowWith, last_position, stretch}
use Rattle.olr_spec.specs.Footprint.{Sees}
use Rattle.olr_spec.specs.Queries.{CoverageQuery, IsLastTestedWith}
use Rattle.olr_search.specs.declared.distances.Dijkstra.{Dijkstra}
use Rattle.olr_search.specs.declared.distances.Direction.TheVariants.{Along}
use Rattle.olr_search.specs.Lengths.{MayCount}
use Rattle.olr_search.specs.ResolvedLines.{ResolvedLine}
use Rattle.olr_search.specs.Searches.{IsSearch, limit_of}
use Rattle.olr_refs.specs.Along.{IsReach}
use Rattle.olr_refs.specs.declared.chosen.Choice.{Choice}
use Rattle.olr_refs.specs.declared.chosen.Choice.TheVariants.{Positions, NoNext}

abbrev pub ForPoints : Margin → Map → List ℕ → (List ℕ → Type 0) → Type 0
ForPoints g M ls P = (js : List ℕ) × FollowWith g M ls 0 js × P js

abbrev pub IsChoice : List ℕ → List ℕ → Choice → Type 0
IsChoice ls js (Positions ps) = (last_position 0 js ≡ length ls) × (ps.items ≡ 0 ∷ js)
IsChoice ls js (NoNext k) = (last_position 0 js ≢ length ls) × (k ≡ last_position 0 js)

abbrev pub searches_of : List ℕ → List ℕ → ℕ
searches_of ls is = count_by (λ i. nat_lt (i + 2) (length ls)) is

abbrev pub SeenBy : Map → List CoverageQuery → ℕ → Type 0
SeenBy M queries v = (l : CoverageQuery) × Contains queries l × Sees M l v

-- with a margin it begins one step later, so that it isn't settled where the first line begins before that line counts
abbrev pub begun_at : Margin → ℕ
begun_at g = if g.routes == 0 then 0 else 1

abbrev pub MayMark : Margin → Map → (ℕ → ℕ) → List ℕ → List (ℕ × ℕ) → ResolvedLine → Dijkstra → Type 0
MayMark g M slot xs from line s =
    ((g.routes ≡ 0) ⊎ MayCount M slot g xs line s) × IsSearch (counted g M xs) slot Along from s

pub record TestedTo (g : Margin) (M : Map) (ls : List ℕ) (i last_near to within : ℕ) : Type 0 where
  pub reach : IsReach g M ls i last_near
  pub last : IsLastTestedWith g M ls i to
  pub long : within ≡ counted_dm_of g M (stretch ls (i + 1) to)
