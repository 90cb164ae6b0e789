-- Bounds by slot, and searches that go no farther than these let them. The bounds are labels.
--     IsUnder f p d      slot p has a bound that is with d at most the greatest limit
--     AreBounds M slot direction f      a line that leads under the greatest limit to a bound begins at one that is no
--         greater than the length there
--     AreLengths M slot direction from s      each label is the length of a way
--     label_at s p      the label at place p
use Rattle.std.specs.Prelude.{ℕ, ◌+◌, ◌≤◌, List, IsTrue}
use Rattle.olr_spec.specs.Map.{Map, has_line, dm}
use Rattle.olr_search.specs.Distances.{near_end, far_end}
use Rattle.olr_search.specs.Frontiers.{label_of}
use Rattle.olr_search.specs.Searches.{IsLabelled}
use Rattle.olr_search.specs.declared.frontier.TheConstants.{GREATEST_LIMIT}
use Rattle.olr_search.specs.declared.frontier.Frontier.{Frontier}
use Rattle.olr_search.specs.declared.distances.Direction.{Direction}
use Rattle.olr_search.specs.declared.distances.Dijkstra.{Dijkstra}

-- no slot without a bound is under it: its label is greater than the greatest limit
abbrev pub IsUnder : Frontier → ℕ → ℕ → Type 0
IsUnder f p d = label_of f p + d ≤ GREATEST_LIMIT

abbrev pub AreBounds : Map → (ℕ → ℕ) → Direction → Frontier → Type 0
AreBounds M slot direction f =
    (x : ℕ) → IsTrue (has_line M x) → label_of f (slot (far_end M direction x)) + dm M x ≤ GREATEST_LIMIT →
    label_of f (slot (near_end M direction x)) ≤ label_of f (slot (far_end M direction x)) + dm M x

abbrev pub AreLengths : Map → (ℕ → ℕ) → Direction → List (ℕ × ℕ) → Dijkstra → Type 0
AreLengths M slot direction from s = IsLabelled M slot direction from s.frontier

abbrev pub label_at : Dijkstra → ℕ → ℕ
label_at s p = label_of s.frontier p
