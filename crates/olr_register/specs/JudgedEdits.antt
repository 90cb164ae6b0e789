-- What an edit that was judged touches.
--     IsTouchedBy M e t      what the edit touches and changes, and nothing else
use Rattle.std.specs.Prelude.{◌≡◌, ℕ}
use Rattle.olr_spec.specs.Map.{Map, Edit, touched_nodes, touched_lines, has}
use Rattle.olr_spec.specs.Detours.{changes_of}
use Rattle.olr_renewal.specs.ChangeSets.{nodes_of, lines_of, changed_of}
use Rattle.olr_renewal.specs.declared.change_set.ChangeSet.{ChangeSet}

pub record IsTouchedBy (M : Map) (e : Edit) (t : ChangeSet) : Type 0 where
  pub nodes : (v : ℕ) → has (nodes_of t) v ≡ has (touched_nodes M e) v
  pub lines : (y : ℕ) → has (lines_of t) y ≡ has (touched_lines e) y
  pub changed : changed_of t ≡ changes_of M e
