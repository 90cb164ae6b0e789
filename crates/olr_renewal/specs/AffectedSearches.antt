-- The searches of a renewal.
--     IsSearchedFor N slot t near Q      the search near, against the lines from touched nodes, shows of each of the queries
--         Q whether it reaches a touched node
--     source_in, sources_in direction      where the search in a direction begins at changed lines, and its start values
--     AreDetours N slot t d      the searches for the distances to where changed lines begin, and from where they end
--     AreBoundsOf N slot f is      the bounds are right, and they are those of all queries
use Rattle.std.specs.Prelude.{ℕ, ◌≤◌, min, List, map, IsTrue}
use Rattle.olr_spec.specs.Map.{Map, has_node}
use Rattle.olr_spec.specs.Queries.{CoverageQuery}
use Rattle.olr_spec.specs.Detours.{ChangedLine, Near}
use Rattle.olr_search.specs.Bounds.{AreLengths, label_at}
use Rattle.olr_search.specs.Searches.{IsSearch}
use Rattle.olr_search.specs.declared.distances.Dijkstra.{Dijkstra}
use Rattle.olr_search.specs.declared.distances.Direction.TheVariants.{Along, Against}
use Rattle.olr_search.specs.declared.distances.Direction.{Direction}
use Rattle.olr_search.specs.declared.frontier.TheConstants.{GREATEST_LIMIT}
use Rattle.olr_paths.specs.Items.{Item}
use Rattle.olr_renewal.specs.ChangeSets.{nodes_of, changed_of}
use Rattle.olr_paths.specs.Origins.{Begins}
use Rattle.olr_renewal.specs.declared.change_set.ChangeSet.{ChangeSet}
use Rattle.olr_renewal.specs.declared.detours.Detours.{Detours}
use Rattle.olr_renewal.specs.Bounds.{IsRight, IsSource}
use Rattle.olr_renewal.specs.declared.distance_bounds.DistanceBounds.{DistanceBounds}

abbrev pub sources : ChangeSet → List (ℕ × ℕ)
sources t = map (λ v. (v, 0)) (nodes_of t)

pub record IsSearchedFor (N : Map) (slot : ℕ → ℕ) (t : ChangeSet) (near : Dijkstra) (Q : CoverageQuery → Type 0) : Type 0
  where
    pub from : List (ℕ × ℕ)
    pub lengths : AreLengths N slot Against from near
    pub reaches : (v w : ℕ) → IsTrue (has_node N v) → w ≤ GREATEST_LIMIT → label_at near (slot v) ≤ w → Near N (nodes_of t) v w
    pub found : (l : CoverageQuery) → Q l → IsTrue (has_node N l.from) →
        Near N (nodes_of t) l.from (min l.within GREATEST_LIMIT) → label_at near (slot l.from) ≤ min l.within GREATEST_LIMIT

abbrev pub source_in : Direction → ChangedLine → ℕ × ℕ
source_in Against c = (c.from, c.len)
source_in Along c = (c.to, 0)

abbrev pub sources_in : Direction → List ChangedLine → List (ℕ × ℕ)
sources_in direction C = map (source_in direction) C

pub record AreDetours (N : Map) (slot : ℕ → ℕ) (t : ChangeSet) (d : Detours) : Type 0 where
  pub before : IsSearch N slot Against (sources_in Against (changed_of t)) d.before
  pub after : IsSearch N slot Along (sources_in Along (changed_of t)) d.after

pub record AreBoundsOf (N : Map) (slot : ℕ → ℕ) (f : DistanceBounds) (is : List Item) : Type 0 where
  pub right : IsRight N slot f
  pub sources : (l : CoverageQuery) → Begins is l → IsSource f l.from l.within
