-- The names that most proofs of olr_map cite, passed on from one place. Declares nothing.
pub use Rattle.olr_map.specs.Changes.{IsRoomWithin, room_at, room_of, tables_map, AddsNoNode, all_node_puts, node_numbers}
pub use Rattle.olr_map.specs.Changes.{KeepsSlots, change_edit, changed_at, line_puts, map_after, node_puts, room_after}
pub use Rattle.olr_map.specs.Changes.{line_numbers, all_line_puts, HasRoomFor, IsReserved, Room, CanMake, IsChangeMade, IsWhole}
pub use Rattle.olr_map.specs.Columns.{node_room, node_slots, rows, entry_of}
pub use Rattle.olr_map.specs.NumberTables.{all_held, held, spare_numbers}
pub use Rattle.olr_map.specs.Linked.{IsPut, lines_on, links_room, IsRoomier, ends_on}
pub use Rattle.olr_map.specs.NodeLinks.{IsRelinked, links_at, with_links, CanPutEnd}
pub use Rattle.olr_map.specs.Slabs.{slots_of, Fills}
pub use Rattle.olr_map.specs.SlotIndexes.{pairs_of, slot_by, spare_of, number_before, from, dense_slot}
pub use Rattle.olr_map.specs.Slotted.{IsInserted, IsRemoved, IsReplaced, IsSlotted, IsWritten, at, in_slot, present}
pub use Rattle.olr_map.specs.Tables.{AreTables, IsIndexed, IsListed, end_at, far, lines_at, links_in, map_from, near, node_in}
pub use Rattle.olr_map.specs.Tables.{node_slot, sides, coord_in}
pub use Rattle.olr_map.specs.RoadMaps.{CanMakeAll, made_all, log_changes}
pub use Rattle.olr_map.specs.declared.change.TableChange.TheVariants.{PutLine, SetLine, TakeLine, MoveNode, PutNode, TakeNode}
pub use Rattle.olr_map.specs.declared.change.TableChange.{TableChange}
pub use Rattle.olr_map.specs.declared.number_table.NumberTable.{NumberTable}
pub use Rattle.olr_map.specs.declared.links.Links.{Links}
pub use Rattle.olr_map.specs.declared.road_map.RoadMap.{RoadMap}
pub use Rattle.olr_map.specs.declared.slot_index.SlotIndex.{SlotIndex}
pub use Rattle.olr_map.specs.declared.slots.NodeEntry.{NodeEntry}
pub use Rattle.olr_map.specs.declared.slots.NodeSlots.{NodeSlots}
pub use Rattle.olr_map.specs.declared.slots.Side.TheVariants.{In, Out}
pub use Rattle.olr_map.specs.declared.slots.Side.{Side}
pub use Rattle.olr_model.specs.Edits.{edit_of, edit_fault_of}
pub use Rattle.olr_model.specs.declared.read.LineEnd.{LineEnd}
pub use Rattle.olr_spec.proofs.AscendingLists.{place_not, place_of}
pub use Rattle.olr_spec.proofs.EditLemmas.{Made, edits_keep, got_other, left_other, left_same, made_by}
pub use Rattle.olr_spec.proofs.ListLemmas.{has_here, has_there, has_cases, Each-from, Each-to, map_same}
pub use Rattle.olr_spec.proofs.MapLemmas.{has-lines_where, passes_at, keys_sorted}
pub use Rattle.olr_spec.proofs.OptionLemmas.{is_some_of, none_of, some_of, is_ok_of}
pub use Rattle.olr_spec.proofs.OrderLemmas.{ascend_out, exactly_out, ascend_in}
pub use Rattle.olr_spec.proofs.UndoLemmas.{back_of, passed_line, empty_sound, any_has, takes_back, unless_false}
pub use Rattle.olr_spec.specs.Coordinates.{Coord}
pub use Rattle.olr_spec.specs.Map.{HasCoord, no_coord, coord_at, Node_in_use, lines_in, Drop_node, empty_map}
pub use Rattle.olr_spec.specs.Map.{IsMap, Line, Map, edited, has, has_line, has_node, in_use, line_at, lines_out, no_line}
pub use Rattle.std.proofs.Common.{Bool, List, None, Some, arith, cond, false, refl, subst, take, Equal, is_lt, nat_eq, nat_lt}
pub use Rattle.std.proofs.Common.{Err, map, sym, true, ◌%◌, ◌&&◌, ◌+◌, ◌-◌, ◌/◌, ◌<◌, ◌==◌, ◌++◌, IsOk, ◌||◌, Less, OnOk, zero}
pub use Rattle.std.proofs.Common.{Ok, [], ap, ◌∙◌, ◌∷◌, ◌≡◌, ◌≤◌, inl, inr, not, set, suc, ◌*◌, ◌^◌, ◌↔◌, ◌≢◌, ◌⊎◌}
pub use Rattle.std.proofs.Common.{Option, get_or, is_some, length, nat_cmp, reverse, vec_len, Result, Greater, IsNone, Ordering}
pub use Rattle.std.proofs.Common.{unwrap_or, ℕ, length-take-le, MatchResult, true≢false, slice_index, slice_index_or, slice_set}
pub use Rattle.std.proofs.lemmas.Bool.{cases_eq, cases_order, cond-false, cond-true, eq-eqb, eqb-true, false_from_ne_true}
pub use Rattle.std.proofs.lemmas.Bool.{ne_eqb, or_cases, or_left, or_right, and_from, and_parts, cases_lt, lt-ltb, le-ltb}
pub use Rattle.std.proofs.lemmas.Bool.{or_from, not_from_true}
pub use Rattle.std.proofs.lemmas.Grind.{common_steps}
pub use Rattle.std.proofs.lemmas.List.{get_or_past, length-set, length_push, nil_from_length, take_more, get_or_read_under}
pub use Rattle.std.proofs.lemmas.Map.Keys.{IsDistinct-from_apart, sorted_from_strictly_increasing}
pub use Rattle.std.proofs.lemmas.Option.{same_Some}
pub use Rattle.std.specs.Cmp.{nat_cmp_total, unsigned_tied, both_ways}
pub use Rattle.std.specs.FinMap.Entries.{find, is_some-find}
pub use Rattle.std.specs.FinMap.{FinMap, entries, get, get-entries, from_entries}
pub use Rattle.std.specs.List.{flat_map, list_any, AllByRecursion, IsDistinct}
pub use Rattle.std.specs.Map.{keys_of, lookup}
pub use Rattle.std.specs.Option.{option_map, option_map_or, option_or}
