-- A search that can be continued.
--     limit_of s      the limit in decimetres to which it is settled
--     IsSearch M slot direction from s      its labels within this limit are the distances within it, on the map M
--         with its nodes' slots, nothing is queued within it, and the other labels are lengths of lines from nodes within it
--     HasEnds M      each line's ends are on the map, and its length is positive
--     IsBegunAt M slot from labels p      the label at p is no less than one with which the search begins there
--     LiesWithin M direction from limit v      v has a distance of at most the limit
--     IsOnlyPredecessor M slot f x v length      no line but x leads to v within the length
--     CutAt M slot direction P f v d      each line from v, at the distance d, leads to a label of at most d plus its
--         length, if P lets the slot of its end be labelled with that
--     IsLabelled M slot direction from f      each label is the length of a route, and the list has the slots with
--         labels
--     IsCut M slot direction from P f      and the lines from each label are followed as far as P lets them, or it is
--         queued; those where the search begins have labels
--     IsUnderWay M slot direction from f      so where P lets all
--     LabelsNear M slot direction from limit labels      each label is one with which the search begins, or that of a line
--         from a node within the limit
--     FromWithin M slot direction limit labels p      the label at p is no less than a label within the limit and the
--         length of a line from there
--     StaysWithin M slot direction limit old new      each of the new labels is the old one, or it is such a label
use Rattle.std.specs.Prelude.{◌≡◌, ℕ, ◌+◌, ◌<◌, ◌≤◌, ◌⊎◌, List, Contains, IsTrue, ⊤}
use Rattle.olr_spec.specs.Map.{Map, has_node, has_line, start, end, dm}
use Rattle.olr_search.specs.Distances.{Leads, IsDistance, near_end, far_end}
use Rattle.olr_search.specs.Notes.{AreApart}
use Rattle.olr_search.specs.Frontiers.{label_of, frontier_len, IsQueued, IsAhead}
use Rattle.olr_search.specs.declared.frontier.TheConstants.{GREATEST_LIMIT, UNREACHED}
use Rattle.olr_search.specs.declared.frontier.Frontier.{Frontier}
use Rattle.olr_search.specs.declared.distances.Direction.{Direction}
use Rattle.olr_search.specs.declared.distances.Dijkstra.{Dijkstra}

abbrev pub limit_of : Dijkstra → ℕ
limit_of s = s.limit

abbrev pub CutAt : Map → (ℕ → ℕ) → Direction → (ℕ → ℕ → Type 0) → Frontier → ℕ → ℕ → Type 0
CutAt M slot direction P f v d =
    (x : ℕ) → IsTrue (has_line M x) → near_end M direction x ≡ v → P (slot (far_end M direction x)) (d + dm M x) →
    label_of f (slot (far_end M direction x)) ≤ d + dm M x

-- the table has the slot of each node
abbrev pub CoversSlots : Map → (ℕ → ℕ) → Frontier → Type 0
CoversSlots M slot f = (v : ℕ) → IsTrue (has_node M v) → slot v < frontier_len f

pub record HasEnds (M : Map) : Type 0 where
  pub starts : (x : ℕ) → IsTrue (has_line M x) → IsTrue (has_node M (start M x))
  pub ends : (x : ℕ) → IsTrue (has_line M x) → IsTrue (has_node M (end M x))
  pub long : (x : ℕ) → IsTrue (has_line M x) → 0 < dm M x

pub record IsLabelled (M : Map) (slot : ℕ → ℕ) (direction : Direction) (from : List (ℕ × ℕ)) (f : Frontier) : Type 0
  where
    pub sound : HasEnds M
    pub own : (v w : ℕ) → IsTrue (has_node M v) → IsTrue (has_node M w) → slot v ≡ slot w → v ≡ w
    pub room : CoversSlots M slot f
    pub low : (p : ℕ) → label_of f p ≤ UNREACHED
    pub leads : (v : ℕ) → IsTrue (has_node M v) → label_of f (slot v) ≤ GREATEST_LIMIT →
        Leads M direction from v (label_of f (slot v))
    pub nodes : (p : ℕ) → label_of f p ≤ GREATEST_LIMIT → (v : ℕ) × IsTrue (has_node M v) × (slot v ≡ p)
    pub listed : (p : ℕ) → Contains f.reached.items p → label_of f p ≤ GREATEST_LIMIT
    pub apart : AreApart f.reached.items

pub record IsCut (M : Map) (slot : ℕ → ℕ) (direction : Direction) (from : List (ℕ × ℕ)) (P : ℕ → ℕ → Type 0)
    (f : Frontier) : Type 0
  where
    pub labelled : IsLabelled M slot direction from f
    pub begun : (s b : ℕ) → Contains from (s, b) → IsTrue (has_node M s) → label_of f (slot s) ≤ b
    pub front : (v : ℕ) → IsTrue (has_node M v) → label_of f (slot v) ≤ GREATEST_LIMIT →
        CutAt M slot direction P f v (label_of f (slot v)) ⊎ IsQueued f (label_of f (slot v)) (slot v)

abbrev pub IsUnderWay : Map → (ℕ → ℕ) → Direction → List (ℕ × ℕ) → Frontier → Type 0
IsUnderWay M slot direction from f = IsCut M slot direction from (λ _ _. ⊤) f

pub record FromWithin (M : Map) (slot : ℕ → ℕ) (direction : Direction) (limit : ℕ) (labels : ℕ → ℕ) (p : ℕ) : Type 0
  where
    pub line : ℕ
    pub known : IsTrue (has_line M line)
    pub to : slot (far_end M direction line) ≡ p
    pub near : labels (slot (near_end M direction line)) ≤ limit
    pub sum : labels (slot (near_end M direction line)) + dm M line ≤ labels p

abbrev pub StaysWithin : Map → (ℕ → ℕ) → Direction → ℕ → (ℕ → ℕ) → (ℕ → ℕ) → Type 0
StaysWithin M slot direction limit old new = (p : ℕ) → (new p ≡ old p) ⊎ FromWithin M slot direction limit new p

pub record IsBegunAt (M : Map) (slot : ℕ → ℕ) (from : List (ℕ × ℕ)) (labels : ℕ → ℕ) (p : ℕ) : Type 0 where
  pub source : ℕ
  pub begun : ℕ
  pub listed : Contains from (source, begun)
  pub there : IsTrue (has_node M source)
  pub at : slot source ≡ p
  pub least : begun ≤ labels p

abbrev pub LabelsNear : Map → (ℕ → ℕ) → Direction → List (ℕ × ℕ) → ℕ → (ℕ → ℕ) → Type 0
LabelsNear M slot direction from limit labels =
    (p : ℕ) → labels p ≤ GREATEST_LIMIT → IsBegunAt M slot from labels p ⊎ FromWithin M slot direction limit labels p

pub record IsSearch (M : Map) (slot : ℕ → ℕ) (direction : Direction) (from : List (ℕ × ℕ)) (s : Dijkstra) : Type 0 where
  pub way : s.direction ≡ direction
  pub under_way : IsUnderWay M slot direction from s.frontier
  pub small : s.limit ≤ GREATEST_LIMIT
  pub settled : (v d : ℕ) → IsTrue (has_node M v) → d ≤ s.limit → Leads M direction from v d →
      label_of s.frontier (slot v) ≤ d
  pub near : LabelsNear M slot direction from s.limit (label_of s.frontier)
  pub ahead : IsAhead s.frontier (s.limit + 1)

abbrev pub IsOnlyPredecessor : Map → (ℕ → ℕ) → Frontier → ℕ → ℕ → ℕ → Type 0
IsOnlyPredecessor M slot f x v length =
    (y : ℕ) → IsTrue (has_line M y) → end M y ≡ v → label_of f (slot (start M y)) + dm M y ≤ length → y ≡ x

abbrev pub LiesWithin : Map → Direction → List (ℕ × ℕ) → ℕ → ℕ → Type 0
LiesWithin M direction from limit v = (d : ℕ) × IsDistance M direction from v d × (d ≤ limit)
