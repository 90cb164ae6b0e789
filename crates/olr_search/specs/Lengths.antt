-- Searches in which some lines are longer than on the map.
--     IsOver M N      N has the nodes and lines of M, with the same ends
--     AreFit counts      lengths that may be added up
--     IsSeenAs M N slot direction counts p      the lines from slot p are as long on N as they count
--     IsSearchedAs M N slot direction counts f next      so are those from each slot that may still be settled, from the
--         length next on
--     MayCount M slot g xs own s      the line own may count longer from now on, where the lines xs do so already
use Rattle.std.specs.Prelude.{◌≡◌, ℕ, List, ◌<◌, ◌≤◌, IsTrue}
use Rattle.olr_spec.specs.Map.{Map, has_node, has_line, has, start, end, dm}
use Rattle.olr_spec.specs.Margins.{Margin, is_margin, counted_dm}
use Rattle.olr_search.specs.ResolvedLines.{ResolvedLine}
use Rattle.olr_search.specs.Distances.{near_end}
use Rattle.olr_search.specs.Frontiers.{label_of}
use Rattle.olr_search.specs.declared.frontier.Frontier.{Frontier}
use Rattle.olr_search.specs.Searches.{limit_of}
use Rattle.olr_search.specs.declared.distances.Direction.{Direction}
use Rattle.olr_search.specs.declared.distances.Dijkstra.{Dijkstra}

pub record IsOver (M N : Map) : Type 0 where
  pub nodes : (v : ℕ) → has_node N v ≡ has_node M v
  pub lines : (x : ℕ) → has_line N x ≡ has_line M x
  pub starts : (x : ℕ) → start N x ≡ start M x
  pub ends : (x : ℕ) → end N x ≡ end M x

-- by the line's number and its length on the map, which is at most 10^6 dm
abbrev pub AreFit : (ℕ → ℕ → ℕ) → Type 0
AreFit counts = (x d : ℕ) → 0 < d → d ≤ 1000000 → (0 < counts x d) × (counts x d ≤ 2000000)

pub record IsSeenAs (M N : Map) (slot : ℕ → ℕ) (direction : Direction) (counts : ℕ → ℕ → ℕ) (p : ℕ) : Type 0 where
  pub over : IsOver M N
  pub long : (x : ℕ) → IsTrue (has_line M x) → slot (near_end M direction x) ≡ p → dm N x ≡ counts x (dm M x)

pub record IsSearchedAs (M N : Map) (slot : ℕ → ℕ) (direction : Direction) (counts : ℕ → ℕ → ℕ) (f : Frontier) (next : ℕ) : Type 0
  where
    pub over : IsOver M N
    pub long : (x : ℕ) → IsTrue (has_line M x) → next ≤ label_of f (slot (near_end M direction x)) →
        dm N x ≡ counts x (dm M x)

pub record MayCount (M : Map) (slot : ℕ → ℕ) (g : Margin) (xs : List ℕ) (own : ResolvedLine) (s : Dijkstra) : Type 0 where
  pub margin : IsTrue (is_margin g)
  pub known : IsTrue (has_line M own.id)
  pub at : own.from_slot ≡ slot (start M own.id)
  pub len : own.len ≡ counted_dm g (dm M own.id)
  pub ahead : limit_of s < label_of s.frontier own.from_slot
  pub settled : (x : ℕ) → IsTrue (has xs x) → label_of s.frontier (slot (start M x)) ≤ limit_of s
