-- Empty tables, and tables with more capacity.
use Rattle.olr_map.proofs.Common.{option_map_or, spare_numbers, IsRoomWithin, common_steps, from_entries, NumberTable, option_map}
use Rattle.olr_map.proofs.Common.{empty_sound, IsRelinked, node_slots, links_room, HasRoomFor, tables_map, IsReserved, unwrap_or}
use Rattle.olr_map.proofs.Common.{SlotIndex, node_room, node_slot, IsIndexed, AreTables, NodeSlots, empty_map, and_parts, slot_by}
use Rattle.olr_map.proofs.Common.{IsRoomier, pairs_of, spare_of, all_held, links_at, lines_on, lines_at, links_in, map_from, ◌==◌}
use Rattle.olr_map.proofs.Common.{IsListed, eqb-true, coord_in, in_slot, room_of, room_at, RoadMap, length, FinMap, lookup, subst}
use Rattle.olr_map.proofs.Common.{eq-eqb, arith, Coord, IsMap, Links, ◌&&◌, true, cond, Some, None, refl, Line, held, Room, Side}
use Rattle.olr_map.proofs.Common.{map, ◌≡◌, ◌<◌, ◌≤◌, sym, ◌∙◌, Map, Out, [], ap, In, ℕ}
use Rattle.std.specs.Ordering.{nat_cmp}
use Rattle.olr_map.proofs.ColumnLemmas.{few_nodes}
use Rattle.olr_map.proofs.Lookups.{all_get, same_answers}
use Rattle.olr_map.proofs.SlotsByNumber.{listed_found}
use Rattle.olr_map.proofs.Indexing.{one_node, same_side, Relisted, relisted}
use Rattle.olr_map.proofs.Reading.{got_node, got_line, kept_from}
use Rattle.olr_spec.specs.Map as maps

-- ---- empty tables

pub kept_none : (b : SlotIndex) (s : NodeSlots) (ls : NumberTable Line) → pairs_of b ≡ [] → node_slots s ≡ [] →
    ls.by_number.entries ≡ [] → AreTables b (node_slots s) (all_held ls)
kept_none b s ls no_nodes no_slots no_lines =
    let none : (v : ℕ) → slot_by b v ≡ None = λ v. sym (listed_found b v) ∙ ap (lookup (λ q. v == q)) no_nodes in
    let empty : map_from b (node_slots s) (all_held ls) ≡ empty_map =
    λ i. record {
      nodes = from_entries (map (λ (e : ℕ × ℕ). (e.0, coord_in (node_slots s) e.1)) (no_nodes i));
      lines = from_entries (no_lines i);
    } in
    kept_from b (node_slots s) (all_held ls) (grind (arith, common_steps, none)) (few_nodes s)
    (subst IsMap (sym empty) empty_sound)
    (λ side v l h. let free = ap (λ o. option_map (links_at side) (in_slot (node_slots s) o)) (none v) in absurd cc)

-- ---- at least as much capacity

pub within_trans : (R S T : Room) → IsRoomWithin R S → IsRoomWithin S T → IsRoomWithin R T
within_trans R S T a b = grind (arith, a.lines, b.lines)

pub reserved_trans : (s t u : RoadMap) → IsReserved s t → IsReserved t u → IsReserved s u
reserved_trans s t u a b =
    record {
      map = b.map ∙ a.map;
      more = within_trans (room_of s) (room_of t) (room_of u) a.more b.more;
      nodes = omega (arith, a.nodes, b.nodes);
      lines = omega (arith, a.lines, b.lines);
      slots = λ v. b.slots v ∙ a.slots v;
    }

-- there is capacity for a line, first in the list of its start and then in that of its end
pub both_fit : (s mid new : RoadMap) (x : ℕ) (l : Line) (p q : ℕ) → (slot_by s.index l.from ≡ Some p)
    × (slot_by s.index l.to ≡ Some q) → IsReserved s mid → IsReserved mid new →
    ((v : ℕ) → slot_by s.index v ≡ Some p → length (lines_at Out (tables_map mid) v) < room_at Out mid v) →
    ((v : ℕ) → slot_by mid.index v ≡ Some q → length (lines_at In (tables_map new) v) < room_at In new v) →
    HasRoomFor (tables_map new) (room_of new) (maps.Add_line x l)
both_fit s mid new x l p q slots first second out into Out =
    let fits = out l.from slots.0 in
    let more = second.more.lines Out l.from in
    let same = ap (λ M. length (lines_at Out M l.from)) second.map in
    omega arith
both_fit s mid new x l p q slots first second out into In = into l.to (first.slots l.to ∙ slots.1)

-- ---- more capacity for numbers

module _ (t : RoadMap) (b' : SlotIndex) (ls' : NumberTable Line) (slots : (k : ℕ) → slot_by b' k ≡ slot_by t.index k)
    (same : (k : ℕ) → held ls' k ≡ held t.lines k) where
  same_indexed : IsIndexed b' (node_slots t.nodes)
  same_indexed = grind (arith, common_steps, t.kept.indexed.filled, t.kept.indexed.named, slots)

  same_map : map_from b' (node_slots t.nodes) (all_held ls') ≡ tables_map t
  same_map =
      let nodes : (map_from b' (node_slots t.nodes) (all_held ls')).nodes ≡ (tables_map t).nodes =
      same_answers _ _ (λ k.
      let now = got_node b' (node_slots t.nodes) same_indexed (all_held ls') k in
      grind (arith, common_steps, now, slots k, got_node t.index (node_slots t.nodes) t.kept.indexed (all_held t.lines) k)) in
      let lines : all_held ls' ≡ all_held t.lines =
      same_answers _ _ (λ k. grind (arith, common_steps, all_get, same k, got_line t k)) in
      λ j. record { nodes = nodes j; lines = lines j }

  pub same_kept : AreTables b' (node_slots t.nodes) (all_held ls')
  same_kept =
      kept_from b' (node_slots t.nodes) (all_held ls') same_indexed (few_nodes t.nodes)
      (subst IsMap (sym same_map) t.kept.sound)
      (λ side v l h. subst (λ (K : Map). IsListed side K (node_slot b') v l) (sym same_map)
      (subst (λ (P : ℕ → ℕ). IsListed side (tables_map t) P v l) (λ i u. unwrap_or (sym (slots u) i) 0)
      (t.kept.listed side v l (ap (λ o. option_map (links_at side) (in_slot (node_slots t.nodes) o)) (sym (slots v)) ∙ h))))

  pub same_reserved : (kept' : AreTables b' (node_slots t.nodes) (all_held ls')) → spare_of t.index ≤ spare_of b' →
      spare_numbers t.lines ≤ spare_numbers ls' →
      IsReserved t (record { index = b'; nodes = t.nodes; lines = ls'; kept = kept' })
  same_reserved kept' numbers lines =
      record {
        map = same_map;
        more = record { nodes = omega arith; lines = λ side v. grind (arith, common_steps, slots v) };
        nodes = numbers;
        lines = lines;
        slots = slots;
      }

-- ---- more capacity for a node's lines

side_is : (s side : Side) → same_side s side ≡ true → s ≡ side
side_is s side h = grind (arith, common_steps)

itself : (side : Side) → same_side side side ≡ true
itself side = grind (arith, common_steps)

module _ (t : RoadMap) (nodes' : NodeSlots) (side : Side) (p v : ℕ) {R : Links → Links → Type 0}
    (w : IsRelinked (node_slots t.nodes) (node_slots nodes') side p R) (here : slot_by t.index v ≡ Some p)
    (more : IsRoomier (links_at side w.entry) w.links) where
  r : Relisted t.index (node_slots t.nodes) (node_slots nodes') side v (links_at side w.entry) w.links
  r = relisted t.index (node_slots t.nodes) t.kept.indexed (node_slots nodes') side p v w here

  roomier_map : map_from t.index (node_slots nodes') (all_held t.lines) ≡ tables_map t
  roomier_map = ap (λ (ns : FinMap nat_cmp Coord). record (tables_map t) { nodes = ns }) (same_answers _ _ (λ k.
      got_node t.index (node_slots nodes') r.indexed (all_held t.lines) k ∙ r.places k
      ∙ sym (got_node t.index (node_slots t.nodes) t.kept.indexed (all_held t.lines) k)))

  -- each list of lines was one with the same lines, and at most the capacity
  roomier_links : (s : Side) (k : ℕ) (h : Links) → links_in s t.index (node_slots nodes') k ≡ Some h → (m : Links)
      × (links_in s t.index (node_slots t.nodes) k ≡ Some m) × IsRoomier m h
  roomier_links s k h is =
      let now = r.now s k in (
        cond (same_side s side && (v == k)) (links_at side w.entry) h,
        grind (arith, common_steps, now, r.was, side_is, eqb-true, and_parts),
        grind (arith, common_steps, now, more),
      )

  pub roomier_kept : AreTables t.index (node_slots nodes') (all_held t.lines)
  roomier_kept =
      kept_from t.index (node_slots nodes') (all_held t.lines) r.indexed (few_nodes nodes')
      (subst IsMap (sym roomier_map) t.kept.sound)
      (λ s k h is.
      let m = roomier_links s k h is in
      let before = t.kept.listed s k m.0 m.1 in
      grind (arith, roomier_map, m.2, before))

  pub roomier_reserved : (kept' : AreTables t.index (node_slots nodes') (all_held t.lines)) →
      node_room nodes' ≡ node_room t.nodes →
      IsReserved t (record { index = t.index; nodes = nodes'; lines = t.lines; kept = kept' })
  roomier_reserved kept' room =
      record {
        map = roomier_map;
        more = record { nodes = omega arith; lines = stays };
        nodes = omega arith;
        lines = omega arith;
        slots = λ u. refl;
      } where
        stays : (s : Side) (k : ℕ) → option_map_or (λ l. links_room l) (links_in s t.index (node_slots t.nodes) k) 0
            ≤ option_map_or (λ l. links_room l) (links_in s t.index (node_slots nodes') k) 0
        stays s k = grind (arith, common_steps, r.now s k, r.was, more.room, side_is, eqb-true, and_parts)

  -- the node in this slot has capacity
  pub roomier_here : length (lines_on w.links) < links_room w.links → (u : ℕ) → slot_by t.index u ≡ Some p
      → length (lines_at side (map_from t.index (node_slots nodes') (all_held t.lines)) u)
      < option_map_or (λ l. links_room l) (links_in side t.index (node_slots nodes') u) 0
  roomier_here lt u there =
      let one = one_node t.index (node_slots t.nodes) t.kept.indexed v u p here there in
      let is : links_in side t.index (node_slots nodes') u ≡ Some w.links =
      grind (arith, common_steps, r.now side u, itself side, eq-eqb) in
      let long = ap (λ zs. length zs) (roomier_kept.listed side u w.links is).numbers in
      let room = ap (λ o. option_map_or (λ l. links_room l) o 0) is in
      omega arith
