-- What the parts of a renewal promise after a map update u, whose map means what `map` and `slot` say: the map and the slots
-- of its nodes.
--     CanSearch map slot u f is      the bounds f let the touched nodes be searched from, for the list is
--     Searched map slot u near Q      the search near shows of the queries Q whether they reach a touched node
--     AreReady map slot u d      the searches for detours over the changed lines; AreReadyIfFew, if not too many lines changed
--     FindsCandidates map slot u near is found      the positions of the paths that edits may affect, in ascending order; if there
--         are any, it was searched for the queries of the list
--     Skips map u i, Names map u i, IsAction map u i a      the path is not affected;  it is, or wasn't encoded yet;  the
--         action for it
use Rattle.std.specs.Prelude.{ℕ, ◌≤◌, ◌<◌, List, length}
use Rattle.std.specs.List.Sorted.{IsStrictlyIncreasing}
use Rattle.olr_spec.specs.Map.{Map}
use Rattle.olr_spec.specs.Queries.{CoverageQuery}
use Rattle.olr_search.specs.declared.distances.Dijkstra.{Dijkstra}
use Rattle.olr_paths.specs.Items.{Item}
use Rattle.olr_paths.specs.Origins.{AreShort, Begins}
use Rattle.olr_renewal.specs.Actions.{ToSkip, ToName, IsActionFor}
use Rattle.olr_renewal.specs.AffectedSearches.{AreBoundsOf, AreDetours, IsSearchedFor}
use Rattle.olr_renewal.specs.Candidates.{Covers}
use Rattle.olr_renewal.specs.ChangeSets.{nodes_of, lines_of, changed_of}
use Rattle.olr_renewal.specs.declared.actions.Action.{Action}
use Rattle.olr_renewal.specs.declared.detours.Detours.{Detours}
use Rattle.olr_renewal.specs.declared.detours.TheConstants.{MOST_CHANGED}
use Rattle.olr_renewal.specs.declared.distance_bounds.DistanceBounds.{DistanceBounds}
use Rattle.olr_renewal.specs.declared.update.MapUpdate.{MapUpdate}

module _ {M : Type 0} (map : M → Map) (slot : M → ℕ → ℕ) (u : MapUpdate M) where
  pub record CanSearch (f : DistanceBounds) (is : List Item) : Type 0 where
    pub bounds : AreBoundsOf (map u.map.now) (slot u.map.now) f is
    pub short : AreShort u.margin is

  abbrev pub Searched : Dijkstra → (CoverageQuery → Type 0) → Type 0
  Searched near Q = IsSearchedFor (map u.map.now) (slot u.map.now) u.touched.now near Q

  abbrev pub AreReady : Detours → Type 0
  AreReady d = AreDetours (map u.map.now) (slot u.map.now) u.touched.now d

  abbrev pub AreReadyIfFew : Detours → Type 0
  AreReadyIfFew d = length (changed_of u.touched.now) ≤ MOST_CHANGED → AreReady d

  pub record FindsCandidates (near : Dijkstra) (is : List Item) (found : List ℕ) : Type 0 where
    pub searched : 0 < length found → Searched near (Begins is)
    pub ascending : IsStrictlyIncreasing found
    pub covers : Covers (map u.map.now) (nodes_of u.touched.now) (lines_of u.touched.now) is found

module _ {M : Type 0} (map : M → Map) (u : MapUpdate M) where
  abbrev pub Skips : Item → Type 0
  Skips i = ToSkip (map u.map.now) (nodes_of u.touched.now) (lines_of u.touched.now) i.results i.path

  abbrev pub Names : Item → Type 0
  Names i = ToName (map u.map.now) (nodes_of u.touched.now) (lines_of u.touched.now) i.results i.path

  abbrev pub IsAction : Item → Action → Type 0
  IsAction i a =
      IsActionFor (map u.map.now) (nodes_of u.touched.now) (lines_of u.touched.now) (changed_of u.touched.now) i.results i.path a
