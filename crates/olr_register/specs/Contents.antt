-- What a register stores, and what is true of it.
--     content_on g M is, under_batch is b, content_under roads is b      the content of a margin, a map and a list;  the
--         list and the content after an open batch
--     AreTouched M N T X C      what edits that lead from M to N touch and change
--     IsHeld, IsRegister      what is true of an open batch, and of margin, map, list and batch
--     KeepsMargin g b      the batch has the margin g, unless one of its changes sets another
--     HasBounds roads T is bounds      each coverage query of the list is a source of the bounds, and once they are settled
--         they are right on the map, if the nodes T are reopened before
--     IsStateRight      what is true of the whole
--     CanRenew g M N is ls t      the list ls, to which the changes of a batch lead from the list is, can be renewed after
--         edits t that led from M to N
--     CanRenewTo g roads t bounds is ls      the same, where the bounds are still those before the edits
--     CanUpdate u bounds is ls      the same after the update u
use Rattle.std.specs.Prelude.{◌≡◌, ℕ, List, [], map, Contains, Option, Some, None, is_none, IfSome, IsTrue, IsFalse}
use Rattle.std.specs.Prelude.{option_map, unwrap_or}
use Rattle.olr_spec.specs.Map.{Map, has}
use Rattle.olr_spec.specs.Margins.{Margin}
use Rattle.olr_spec.specs.Detours.{ChangedLine, Difference}
use Rattle.olr_spec.specs.Queries.{CoverageQuery}
use Rattle.olr_map.specs.RoadMaps.{map_of, slot_of, CanUndoAll, map_before}
use Rattle.olr_map.specs.declared.road_map.RoadMap.{RoadMap}
use Rattle.olr_map.specs.declared.undo.UndoLog.{UndoLog}
use Rattle.olr_renewal.specs.Bounds.{IsSource, IsUnderWay}
use Rattle.olr_renewal.specs.declared.distance_bounds.DistanceBounds.{DistanceBounds}
use Rattle.olr_commands.specs.State.{Content, IsContent, NamesDiffer}
use Rattle.olr_paths.specs.Items.{Item, AreEncodings, AreEncodingsIfAny, all_named}
use Rattle.olr_renewal.specs.Changes.{Follows, IsBefore}
use Rattle.olr_renewal.specs.Reencoded.{to_renew_by}
use Rattle.olr_renewal.specs.declared.update.MapUpdate.{MapUpdate}
use Rattle.olr_paths.specs.Changes.{to_renew}
use Rattle.olr_paths.specs.Origins.{Begins}
use Rattle.olr_paths.specs.Overlaid.{under_overlay}
use Rattle.olr_renewal.specs.ChangeSets.{nodes_of, lines_of, changed_of}
use Rattle.olr_renewal.specs.declared.change_set.ChangeSet.{ChangeSet}
use Rattle.olr_register.specs.RegisterState as states
use Rattle.olr_register.specs.declared.batch.Batch.{Batch}

-- ---- in terms of the definitions of commands, over the register's list

abbrev pub held_of : Item → states.Held
held_of i = record { name = i.name; path = i.path; given = is_none i.results }

abbrev pub content_on : Margin → Map → List Item → Content
content_on g M is = record { map = M; paths = all_named is; margin = g }

-- if it set the margin, no path is encoded yet
abbrev pub under_batch : List Item → Batch → List Item
under_batch is b = to_renew b.all (under_overlay is b.overlay)

abbrev pub content_under : RoadMap → List Item → Batch → Content
content_under roads is b = content_on b.margin (map_of roads) (under_batch is b)

abbrev pub batch_of : RoadMap → List Item → Batch → states.Batch
batch_of roads is b =
    record {
      map = map_of roads;
      paths = map held_of (under_batch is b);
      margin = b.margin;
      count = b.count;
      nodes = nodes_of b.touched;
      lines = lines_of b.touched;
    }

-- while a batch is open, this is the map to which its log leads back
abbrev pub accepted_map : RoadMap → Option Batch → Map
accepted_map roads None = map_of roads
accepted_map roads (Some b) = map_before roads b.log

abbrev pub state_of : Margin → RoadMap → List Item → Option Batch → states.RegisterState
state_of g roads is batch =
    record {
      content = content_on g (accepted_map roads batch) is;
      batch = option_map (batch_of roads is) batch;
    }

-- ---- invariants

-- what edits that lead from M to N touch and change: there is no other difference, and each changed line begins at a
-- touched node
pub record AreTouched (M N : Map) (T X : List ℕ) (C : List ChangedLine) : Type 0 where
  pub difference : Difference T X C M N
  pub starts : (c : ChangedLine) → Contains C c → IsTrue (has T c.from)

-- with the list ls under its changes
pub record IsHeldAs (g : Margin) (roads : RoadMap) (before ls : List Item) (log : UndoLog) (touched : ChangeSet) : Type 0
  where
    pub undo : CanUndoAll roads log
    pub sound : IsContent (content_on g (map_of roads) ls)
    pub edits : AreTouched (map_before roads log) (map_of roads) (nodes_of touched) (lines_of touched)
        (changed_of touched)
    pub encoded : AreEncodingsIfAny g (map_before roads log) ls
    pub follows : Follows before ls
    pub begins : (l : CoverageQuery) → Begins ls l → Begins before l

abbrev pub IsHeld : RoadMap → List Item → Batch → Type 0
IsHeld roads before b = IsHeldAs b.margin roads before (under_batch before b) b.log b.touched

abbrev pub KeepsMargin : Margin → Batch → Type 0
KeepsMargin g b = IsFalse b.all → b.margin ≡ g

pub record IsRegister (g : Margin) (roads : RoadMap) (is : List Item) (batch : Option Batch) : Type 0 where
  pub content : IsContent (content_on g (accepted_map roads batch) is)
  pub encoded : AreEncodings g (accepted_map roads batch) is
  pub held : IfSome batch (IsHeld roads is)
  pub margin : IfSome batch (KeepsMargin g)

pub record HasBounds (roads : RoadMap) (T : List ℕ) (is : List Item) (bounds : DistanceBounds) : Type 0 where
  pub under_way : IsUnderWay (map_of roads) (slot_of roads) T bounds
  pub sources : (l : CoverageQuery) → Begins is l → IsSource bounds l.from l.within

pub record IsStateRight (g : Margin) (roads : RoadMap) (is : List Item) (batch : Option Batch) (bounds : DistanceBounds) : Type 0
  where
    pub register : IsRegister g roads is batch
    pub bounded : HasBounds roads (unwrap_or (option_map (λ b. nodes_of b.touched) batch) []) is bounds

pub record CanRenew (g : Margin) (M N : Map) (is ls : List Item) (t : ChangeSet) : Type 0 where
  pub names : NamesDiffer (all_named ls)
  pub follows : Follows is ls
  pub before : IsBefore g M N (nodes_of t) (lines_of t) (changed_of t) ls

pub record CanRenewTo (g : Margin) (roads : RoadMap) (t : ChangeSet) (bounds : DistanceBounds) (is ls : List Item) : Type 0
  where
    pub renewable : (M : Map) × CanRenew g M (map_of roads) is ls t
    pub bounded : HasBounds roads (nodes_of t) ls bounds

abbrev pub CanUpdate : MapUpdate RoadMap → DistanceBounds → List Item → List Item → Type 0
CanUpdate u bounds is ls = CanRenewTo u.margin u.map.now u.touched.now bounds is (to_renew_by u ls)
