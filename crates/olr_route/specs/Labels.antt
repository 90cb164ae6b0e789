-- Shortest paths within a limit, and labels: what a search says of them at each node that it reaches.
--     LeastWithin M s limit t xs      xs is the shortest path from s to t, and within the limit
--     IsFound M slot s q v d      the search q from s has found the distance d of v
--     EndsRoute M s v d x      line x leads to v; the distance of its start from s and its length add up to d
--     IsLast M s v d o      o is the least such line, if there is one
--     IsLabel M s limit v k      the label k has the distance of v from s, within the limit, and the least line that ends
--         a shortest route there
--     limit_of x      the limit of the labels x, in decimetres
--     AreLabels M slot s x      x has the labels of the nodes to which a route from s within the limit leads, on the map M
--         with its nodes' slots
--     Counts M direction from limit n      n nodes have a distance of at most the limit
--     after_search w n      the work after one more search, which settled n nodes
use Rattle.std.specs.Prelude.{◌≡◌, ◌==◌, ◌↔◌, ℕ, ◌+◌, ◌<◌, ◌≤◌, List, [], ◌∷◌, Option, Some, None, IsTrue, Contains, length}
use Rattle.std.specs.Prelude.{slice_index, slice_index_or}
use Rattle.std.specs.List.{IsDistinct}
use Rattle.std.specs.List.Sorted.{IsStrictlyIncreasing}
use Rattle.olr_spec.specs.Map.{Map, IsMap, has_line, start, end, dm}
use Rattle.olr_spec.specs.Routes.{dm_of, Least}
use Rattle.olr_search.specs.Counts.{saturated_count}
use Rattle.olr_search.specs.Distances.{IsDistance}
use Rattle.olr_search.specs.Searches.{IsSearch, LiesWithin}
use Rattle.olr_search.specs.declared.distances.Dijkstra.{Dijkstra}
use Rattle.olr_search.specs.declared.distances.Direction.{Direction}
use Rattle.olr_search.specs.declared.distances.Direction.TheVariants.{Along}
use Rattle.olr_search.specs.declared.work.Work.{Work}
use Rattle.olr_route.specs.declared.labels.Labels.{Labels}

pub record LeastWithin (M : Map) (s limit t : ℕ) (xs : List ℕ) : Type 0 where
  pub least : Least M s t xs
  pub within : dm_of M xs ≤ limit

pub record IsFound (M : Map) (slot : ℕ → ℕ) (s : ℕ) (q : Dijkstra) (v d : ℕ) : Type 0 where
  pub search : IsSearch M slot Along ((s, 0) ∷ []) q
  pub dist : IsDistance M Along ((s, 0) ∷ []) v d
  pub within : d ≤ q.limit

pub record EndsRoute (M : Map) (s v d x : ℕ) : Type 0 where
  pub known : IsTrue (has_line M x)
  pub to : end M x ≡ v
  pub before : ℕ
  pub near : IsDistance M Along ((s, 0) ∷ []) (start M x) before
  pub long : before + dm M x ≡ d

pub record IsLast (M : Map) (s v d : ℕ) (o : Option ℕ) : Type 0 where
  pub ends : (x : ℕ) → o ≡ Some x → EndsRoute M s v d x
  pub least : (x : ℕ) → EndsRoute M s v d x → (y : ℕ) × (o ≡ Some y) × (y ≤ x)

pub record IsLabel (M : Map) (s limit v : ℕ) (k : ℕ × Option ℕ) : Type 0 where
  pub dist : IsDistance M Along ((s, 0) ∷ []) v k.0
  pub within : k.0 ≤ limit
  pub last : IsLast M s v k.0 k.1

abbrev pub limit_of : Labels → ℕ
limit_of x = x.search.limit

pub record AreLabels (M : Map) (slot : ℕ → ℕ) (s : ℕ) (x : Labels) : Type 0 where
  pub sound : IsMap M
  pub search : IsSearch M slot Along ((s, 0) ∷ []) x.search
  pub ascending : IsStrictlyIncreasing x.nodes.items
  pub near : (v : ℕ) → Contains x.nodes.items v ↔ LiesWithin M Along ((s, 0) ∷ []) (limit_of x) v
  pub each : (i : ℕ) → i < length x.nodes.items →
      IsLabel M s (limit_of x) (slice_index x.nodes.items i) (slice_index_or x.labels.items i (0, None))

pub record Counts (M : Map) (direction : Direction) (from : List (ℕ × ℕ)) (limit n : ℕ) : Type 0 where
  pub nodes : List ℕ
  pub apart : IsDistinct ◌==◌ nodes
  pub exactly : (v : ℕ) → Contains nodes v ↔ LiesWithin M direction from limit v
  pub many : length nodes ≡ n

abbrev pub after_search : Work → ℕ → Work
after_search w n = record w { searches = saturated_count (w.searches + 1); settled = saturated_count (w.settled + n) }
