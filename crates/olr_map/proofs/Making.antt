-- An accepted change has a map as its result, and the change that undoes it can be made there.
use Rattle.olr_map.proofs.Common.{◌≡◌, ℕ, ◌+◌, ◌≤◌, Result, Ok, IsOk, sym, ap, ◌∙◌, subst, arith, eqb-true, Map, IsMap, edited}
use Rattle.olr_map.proofs.Common.{back_of, spare_of, spare_numbers, tables_map, room_of, HasRoomFor, IsRoomWithin, TableChange}
use Rattle.olr_map.proofs.Common.{RoadMap, common_steps, HasCoord, takes_back, is_ok_of, SlotIndex, NodeSlots, NumberTable, Room}
use Rattle.olr_map.proofs.Common.{AreTables, Line, node_slots, all_held, node_room, has_node, links_room, links_in, map_from}
use Rattle.olr_map.proofs.Common.{node_slot, option_map_or, true, change_edit, changed_at, map_after, room_after, CanMake}
use Rattle.olr_map.proofs.Common.{IsWhole, IsChangeMade, node_puts, line_puts, Made, made_by, edits_keep}
use Rattle.std.specs.Result.{result_unwrap_or}
use Rattle.olr_spec.specs.Map as map

-- an accepted edit has a map as its result
ok_is : {A F : Type 0} (r : Result A F) (d : A) → IsOk r → r ≡ Ok (result_unwrap_or r d)
ok_is r d h = grind (arith, common_steps)

pub made_ok : (M : Map) (c : TableChange) → IsOk (edited M (change_edit c)) →
    edited M (change_edit c) ≡ Ok (map_after M c)
made_ok M c h = ok_is (edited M (change_edit c)) M h

-- once more capacity was reserved, and the change for an accepted edit was made
pub edit_made : (M M' N : Map) (e : map.Edit) (c : TableChange) → IsOk (edited M e) → M' ≡ M → change_edit c ≡ e →
    N ≡ map_after M' c → edited M e ≡ Ok N
edit_made M M' N e c h same is made = grind (arith, common_steps, made_ok M c)

-- what an accepted edit, or the edit of an accepted change, says of the map
pub made_from : (M : Map) (e : map.Edit) → IsOk (edited M e) → Made M e (result_unwrap_or (edited M e) M)
made_from M e h = made_by M (result_unwrap_or (edited M e) M) e (ok_is (edited M e) M h)

pub made_as : (M : Map) (c : TableChange) → IsOk (edited M (change_edit c)) → Made M (change_edit c) (map_after M c)
made_as M c h = made_from M (change_edit c) h

-- the edit that undoes an edit adds coordinates of the map
back_placed : (M N : Map) (e : map.Edit) → IsMap M → edited M e ≡ Ok N → HasCoord (back_of M e)
back_placed M N (map.Add_node v c) sound is = tt
back_placed M N (map.Add_line x l) sound is = tt
back_placed M N e sound is = grind (arith, common_steps, made_by M N e is, sound.places, sound.shapes)

-- the capacity of tables
abbrev pub room_in : SlotIndex → NodeSlots → Room
room_in b s =
    record { nodes = node_room s; lines = λ side v. option_map_or (λ l. links_room l) (links_in side b (node_slots s) v) 0 }

-- the tables after a change are tables, and the change was made
pub record TablesMade (t : RoadMap) (b' : SlotIndex) (nodes' : NodeSlots) (lines' : NumberTable Line)
    (c back : TableChange) : Type 0 where
  pub kept : AreTables b' (node_slots nodes') (all_held lines')
  pub made : (kept' : AreTables b' (node_slots nodes') (all_held lines'))
      → IsChangeMade t (record { index = b'; nodes = nodes'; lines = lines'; kept = kept' }) c back

module _ (t : RoadMap) (b' : SlotIndex) (nodes' : NodeSlots) (lines' : NumberTable Line) (c : TableChange) where
  abbrev M : Map
  M = tables_map t

  abbrev N : Map
  N = map_from b' (node_slots nodes') (all_held lines')

  pub sound_after : CanMake M (room_of t) c → N ≡ map_after M c → IsMap N
  sound_after can is =
      edits_keep M N (change_edit c) t.kept.sound can.placed (made_ok M c can.accepted ∙ ap (λ (m : Map). Ok m) (sym is))

  -- a change that was made, with the one that undoes it
  pub tables_made : (back : TableChange) → CanMake M (room_of t) c → N ≡ map_after M c →
      (IsMap N → AreTables b' (node_slots nodes') (all_held lines')) → change_edit back ≡ back_of M (change_edit c) →
      HasRoomFor N (room_in b' nodes') (change_edit back) → IsWhole N back →
      IsRoomWithin (room_after (room_of t) c) (room_in b' nodes') →
      IsRoomWithin (room_of t) (room_after (room_in b' nodes') back) → spare_of t.index ≤ spare_of b' + node_puts c →
      spare_numbers t.lines ≤ spare_numbers lines' + line_puts c →
      ((v : ℕ) → has_node M v ≡ true → has_node N v ≡ true → node_slot b' v ≡ node_slot t.index v) →
      TablesMade t b' nodes' lines' c back
  tables_made back can is keeps inverse fits whole room room_before nodes lines slots =
      let ok = made_ok M c can.accepted in
      let undone : edited N (change_edit back) ≡ Ok M =
      ap (λ (m : Map). edited m (change_edit back)) is ∙ ap (edited (map_after M c)) inverse
      ∙ takes_back M t.kept.sound (map_after M c) (change_edit c) ok in
      record {
        kept = keeps (sound_after can is);
        made = λ kept'. record {
          changed = record { map = is; room = room; slots = slots; node_numbers = nodes; line_numbers = lines };
          can_back = record {
            accepted = is_ok_of (edited N (change_edit back)) M undone;
            placed = subst HasCoord (sym inverse) (back_placed M (map_after M c) (change_edit c) t.kept.sound ok);
            fits = fits;
            whole = whole;
          };
          before = ap (λ r. result_unwrap_or r N) undone;
          room_before = room_before;
        };
      }

-- ---- functions that differ at one number

-- a value that was changed, and changed back to no less
pub changed_back : (f h : ℕ → ℕ) (k n m : ℕ) → ((v : ℕ) → h v ≡ changed_at k n f v) → f k ≤ m → (v : ℕ) →
    f v ≤ changed_at k m h v
changed_back f h k n m is le v = grind (arith, common_steps, eqb-true)
