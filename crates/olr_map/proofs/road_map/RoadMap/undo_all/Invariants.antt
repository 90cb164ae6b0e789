use Rattle.olr_map.proofs.Common.{◌≡◌, ◌≤◌, reverse, vec_len, spare_of, tables_map, room_of, CanMakeAll, made_all}
use Rattle.olr_map.proofs.Common.{spare_numbers, all_node_puts, all_line_puts, AddsNoNode}
use Rattle.olr_map.proofs.road_map.RoadMap.undo_all.Given as goal

-- the rest of the log can be undone, and leads to the same map; if no node is put back, those of the map were there
abbrev pub invariant-loop-change : goal.invariant-loop-change
invariant-loop-change l =
    record {
      can : CanMakeAll (tables_map l.self) (room_of l.self) (reverse l.changes.items);
      nodes : all_node_puts (reverse l.changes.items) ≤ spare_of l.self.index;
      lines : all_line_puts (reverse l.changes.items) ≤ spare_numbers l.self.lines;
      before : made_all (tables_map l.self) (reverse l.changes.items)
          ≡ made_all (tables_map l.initial.self) (reverse l.initial.changes.items);
      slots : all_node_puts (reverse l.initial.changes.items) ≡ 0 →
          (all_node_puts (reverse l.changes.items) ≡ 0) × AddsNoNode l.initial.self l.self;
    }

abbrev pub decreases-loop-change : goal.decreases-loop-change
decreases-loop-change l = vec_len l.changes
