-- What edits touched and changed, as lists.
--     nodes_of t, lines_of t, changed_of t      the nodes, the lines and the changed lines
--     changed_between ends len      the line between two nodes that was changed, if one was
--     HasRoom t      capacity for what one more edit touches
--     IsLineAround M vs x      a line of M that begins or ends at one of the nodes vs
--     IsAround M vs t      the nodes are vs, and the lines are those of M that begin or end at them; no line is changed
use Rattle.std.specs.Option.{option_to_list}
use Rattle.std.specs.Prelude.{◌≡◌, ℕ, ◌+◌, ◌≤◌, ◌||◌, List, [], map, Option, vec_len, vec_capacity, IsTrue, ◌↔◌}
use Rattle.olr_spec.specs.Map.{Map, has, has_line, start, end}
use Rattle.olr_spec.specs.Detours.{ChangedLine}
use Rattle.olr_renewal.specs.declared.change_set.ChangedLine.{ChangedLine as Changed}
use Rattle.olr_renewal.specs.declared.change_set.ChangeSet.{ChangeSet}

abbrev pub nodes_of : ChangeSet → List ℕ
nodes_of t = t.nodes.items

abbrev pub lines_of : ChangeSet → List ℕ
lines_of t = t.lines.items

abbrev pub change_of : Changed → ChangedLine
change_of c = record { from = c.from; to = c.to; len = c.len }

abbrev pub changed_of : ChangeSet → List ChangedLine
changed_of t = map change_of t.changed.items

abbrev pub changed_between : ℕ × ℕ → Option ℕ → List ChangedLine
changed_between ends changed = map (λ len. record { from = ends.0; to = ends.1; len = len }) (option_to_list changed)

pub record HasRoom (t : ChangeSet) : Type 0 where
  pub nodes : vec_len t.nodes + 2 ≤ vec_capacity t.nodes
  pub lines : vec_len t.lines + 1 ≤ vec_capacity t.lines
  pub changed : vec_len t.changed + 1 ≤ vec_capacity t.changed

abbrev pub IsLineAround : Map → List ℕ → ℕ → Type 0
IsLineAround M vs x = IsTrue (has_line M x) × IsTrue (has vs (start M x) || has vs (end M x))

pub record IsAround (M : Map) (vs : List ℕ) (t : ChangeSet) : Type 0 where
  pub nodes : (v : ℕ) → IsTrue (has (nodes_of t) v) ↔ IsTrue (has vs v)
  pub lines : (x : ℕ) → IsTrue (has (lines_of t) x) ↔ IsLineAround M vs x
  pub changed : changed_of t ≡ []
