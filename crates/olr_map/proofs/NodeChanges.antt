-- A node is added, removed and moved.
use Rattle.olr_map.proofs.Common.{nil_from_length, has-lines_where, length-take-le, option_map_or, IsRoomWithin, Option}
use Rattle.olr_map.proofs.Common.{common_steps, passed_line, option_map, IsInserted, IsReplaced, node_slots, links_room, in_use}
use Rattle.olr_map.proofs.Common.{tables_map, unwrap_or, IsWritten, node_room, node_slot, slot_by, IsIndexed}
use Rattle.olr_map.proofs.Common.{AreTables, SlotIndex, NodeEntry, NodeSlots, eqb-true, has_node, no_coord, spare_of, all_held}
use Rattle.olr_map.proofs.Common.{links_at, lines_on, links_in, map_from, IsListed, false, coord_at, ends_on, node_in}
use Rattle.olr_map.proofs.Common.{room_of, room_at, RoadMap, length, FinMap, subst, arith, Coord, IsMap, sides, Links}
use Rattle.olr_map.proofs.Common.{◌==◌, true, cond, Some, None, refl, Line, near, [], Side, ◌≡◌, ◌+◌, ◌<◌, ◌≤◌, sym, ◌∙◌}
use Rattle.olr_map.proofs.Common.{get, Map, far, ap, ℕ, changed_at, CanMake, map_after, PutNode, MoveNode, TakeNode}
use Rattle.olr_map.specs.Linked.{room_kept, IsBare, EmptyLinks, lines_kept}
use Rattle.std.specs.Ordering.{nat_cmp}
use Rattle.olr_map.specs.declared.links.Links.TheVariants.{Inline, Spilled}
use Rattle.olr_map.proofs.ColumnLemmas.{few_nodes}
use Rattle.olr_map.proofs.Lookups.{eqb_flip, over_cond, unchanged_at, got_insert, got_remove, same_answers}
use Rattle.olr_map.proofs.Indexing.{id_of, place_of, slot_if, value_if, id_is, node_was, written_node, written_indexed}
use Rattle.olr_map.proofs.Listing.{absent_lines, unused_lines, far_there, far_unused, replaced}
use Rattle.olr_map.proofs.LineRecords.{record_of, other_node}
use Rattle.olr_map.proofs.Reading.{got_node, kept_from, not_found, slot_of, node_read, listed_at}
use Rattle.olr_map.proofs.Making.{made_as, room_in, sound_after, TablesMade, tables_made, changed_back}
use Rattle.std.specs.FinMap as finmap
use Rattle.olr_spec.specs.Map as maps

-- ---- a node has another entry

-- node v has the entry w in place of o
pub record NodeWritten (t : RoadMap) (b' : SlotIndex) (nodes' : NodeSlots) (v : ℕ) (o w : Option NodeEntry) : Type 0 where
  pub slot : ℕ
  pub is : IsWritten (node_slots t.nodes) (node_slots nodes') slot o w
  pub was : slot_by t.index v ≡ slot_if slot o
  pub now : (k : ℕ) → slot_by b' k ≡ cond (v == k) (slot_if slot w) (slot_by t.index k)
  pub id : option_map id_of w ≡ slot_if v w

pub node_written : {t : RoadMap} {b' : SlotIndex} {nodes' : NodeSlots} {v : ℕ} {o w : Option NodeEntry} (p n : ℕ) →
    IsWritten (node_slots t.nodes) (node_slots nodes') p o w → n ≡ v → slot_by t.index v ≡ slot_if p o →
    ((k : ℕ) → slot_by b' k ≡ cond (n == k) (slot_if p w) (slot_by t.index k)) → option_map id_of w ≡ slot_if v w →
    NodeWritten t b' nodes' v o w
node_written {t} {b'} {nodes'} {v} {o} {w} p n is number was now id =
    let here = subst (λ (m : ℕ). (k : ℕ) → slot_by b' k ≡ cond (m == k) (slot_if p w) (slot_by t.index k)) number now in
    record { slot = p; is = is; was = was; now = here; id = id }

abbrev entry_room : Side → Option NodeEntry → ℕ
entry_room side e = option_map_or (λ l. links_room l) (option_map (links_at side) e) 0

module _ {t : RoadMap} {b' : SlotIndex} {nodes' : NodeSlots} {v : ℕ} {o w : Option NodeEntry}
    (r : NodeWritten t b' nodes' v o w) where
  abbrev M : Map
  M = tables_map t

  abbrev N : Map
  N = map_from b' (node_slots nodes') (all_held t.lines)

  indexed' : IsIndexed b' (node_slots nodes')
  indexed' =
      written_indexed t.index (node_slots t.nodes) t.kept.indexed b' (node_slots nodes') r.slot v o w r.is r.was r.now r.id

  node' : (k : ℕ) → node_in b' (node_slots nodes') k ≡ cond (v == k) w (node_in t.index (node_slots t.nodes) k)
  node' = written_node t.index (node_slots t.nodes) t.kept.indexed b' (node_slots nodes') r.slot v o w r.is r.was r.now

  links' : (side : Side) (k : ℕ) → links_in side b' (node_slots nodes') k
      ≡ cond (v == k) (option_map (links_at side) w) (links_in side t.index (node_slots t.nodes) k)
  links' side k = grind (arith, common_steps, node', over_cond)

  -- the map has the coordinate of w
  pub written_map : (ns : FinMap nat_cmp Coord) → ((k : ℕ) → get ns k ≡ cond (v == k) (option_map place_of w) (get M.nodes k))
      → N ≡ record M { nodes = ns }
  written_map ns got = ap (λ (ms : FinMap nat_cmp Coord). record M { nodes = ms }) (same_answers _ _ (λ k.
      let was = got_node t.index (node_slots t.nodes) t.kept.indexed (all_held t.lines) k in
      let is = got_node b' (node_slots nodes') indexed' (all_held t.lines) k in
      grind (arith, common_steps, was, is, node' k, over_cond, got k)))

  -- w has the node's lines, and no far end of a line has another slot
  pub written_kept : IsMap N →
      ((side : Side) (h : Links) → option_map (links_at side) w ≡ Some h → IsListed side M (node_slot t.index) v h) →
      ((side : Side) (y : ℕ) (l : Line) → get M.lines y ≡ Some l →
      node_slot t.index (far side l) ≡ node_slot b' (far side l)) → AreTables b' (node_slots nodes') (all_held t.lines)
  written_kept sound here stays =
      kept_from b' (node_slots nodes') (all_held t.lines) indexed' (few_nodes nodes') sound (λ side k h is.
      replaced side M N.nodes (node_slot t.index) (node_slot b') k h (λ y there.
      let listed = has-lines_where M (λ m. near side m == k) y in
      let l = passed_line (λ m. near side m == k) (get M.lines y) (sym listed ∙ there) in
      grind (arith, record_of M y l.0, l.1, stays side y l.0))
      (grind (arith, common_steps, here side h, t.kept.listed side k h, links' side k, eqb-true)))

  -- slots of other nodes stay
  pub other_slot : (u : ℕ) → (v == u) ≡ false → node_slot t.index u ≡ node_slot b' u
  other_slot u ne = grind (arith, common_steps)

  -- a node that is on both maps has the same slot on both
  pub slots_stay : (u : ℕ) → has_node M u ≡ true → has_node N u ≡ true → node_slot b' u ≡ node_slot t.index u
  slots_stay u was now =
      let p = slot_of t.index (node_slots t.nodes) t.kept.indexed (all_held t.lines) u was in
      let q = slot_of b' (node_slots nodes') indexed' (all_held t.lines) u now in
      grind (arith, common_steps, r.was, r.now u, p.1, q.1, value_if, eqb-true)

  -- the capacity of the node's lists was that of o, and is that of w
  room_was : (side : Side) → room_at side t v ≡ entry_room side o
  room_was side =
      ap (entry_room side)
      (node_was t.index (node_slots t.nodes) t.kept.indexed b' (node_slots nodes') r.slot v o w r.is r.was r.now)

  room_now : (side : Side) (k : ℕ) → (room_in b' nodes').lines side k ≡ changed_at v (entry_room side w) (room_at side t) k
  room_now side k = grind (arith, common_steps, links', over_cond)

  -- as much as was expected, and as much as there was once that is changed back
  pub room_forth : (side : Side) (n : ℕ) → entry_room side w ≡ n → (k : ℕ) →
      changed_at v n (room_at side t) k ≤ (room_in b' nodes').lines side k
  room_forth side n is k = grind (arith, common_steps, room_now)

  pub room_back : (side : Side) (n : ℕ) → entry_room side o ≡ n → (k : ℕ) →
      room_at side t k ≤ changed_at v n ((room_in b' nodes').lines side) k
  room_back side n is = grind (arith, changed_back, room_now, room_was)

  pub room_same : (side : Side) → entry_room side o ≡ entry_room side w → (k : ℕ) →
      room_at side t k ≤ (room_in b' nodes').lines side k
  room_same side is k = grind (arith, common_steps, room_now, room_was, unchanged_at)

-- ---- a node is added

beside : (l : Links) → length (ends_on l) ≡ length (lines_on l)
beside (Inline f) = length-take-le f.count f.ends (omega arith) ∙ sym (length-take-le f.count f.lines (omega arith))
beside (Spilled m) = m.value.beside

module _ (t : RoadMap) (b' : SlotIndex) (nodes' : NodeSlots) (p n v : ℕ) (q : Coord) (o i : EmptyLinks) (outs ins : Links)
    (bare_outs : IsBare outs o) (bare_ins : IsBare ins i)
    (is : IsInserted (node_slots t.nodes) (node_slots nodes') p (record { id = v; place = q; outs = outs; ins = ins }))
    (number : n ≡ v) (put : (k : ℕ) → slot_by b' k ≡ cond (n == k) (Some p) (slot_by t.index k))
    (can : CanMake (tables_map t) (room_of t) (PutNode v q o i)) where
  abbrev entry : NodeEntry
  entry = record { id = v; place = q; outs = outs; ins = ins }

  put_says : (has_node (tables_map t) v ≡ false)
      × (record (tables_map t) { nodes = finmap.insert (tables_map t).nodes v q }
      ≡ map_after (tables_map t) (PutNode v q o i))
  put_says = made_as (tables_map t) (PutNode v q o i) can.accepted

  put_written : NodeWritten t b' nodes' v None (Some entry)
  put_written =
      node_written p n is number
      (not_found t.index (node_slots t.nodes) t.kept.indexed (all_held t.lines) v put_says.0) put refl

  put_map : map_from b' (node_slots nodes') (all_held t.lines) ≡ map_after (tables_map t) (PutNode v q o i)
  put_map =
      written_map put_written (finmap.insert (tables_map t).nodes v q)
      (got_insert (tables_map t).nodes v q) ∙ put_says.1

  pub put_made : node_room t.nodes ≤ node_room nodes' + 1 → spare_of t.index ≤ spare_of b' + 1 →
      TablesMade t b' nodes' t.lines (PutNode v q o i) (TakeNode v)
  put_made room spare =
      let fits : 0 < node_room t.nodes = can.fits in
      tables_made t b' nodes' t.lines (PutNode v q o i) (TakeNode v) can put_map
      (λ sound. written_kept put_written sound (λ side h is_h. grind (arith, bare side))
      (λ side y l there. other_slot put_written (far side l)
      (eqb_flip v (far side l)
      ∙ other_node (tables_map t) (far side l) v (far_there side (tables_map t) y l t.kept.sound there) put_says.0)))
      refl tt tt (record { nodes = omega arith; lines = λ side. room_forth put_written side _ (same_room side) })
      (record { nodes = omega arith; lines = λ side. room_back put_written side 0 refl }) spare (omega arith)
      (slots_stay put_written) where
        none : (side : Side) → lines_on (links_at side entry) ≡ []
        none side = grind (arith, bare_outs.lines, bare_ins.lines, can.whole)

        bare : (side : Side) → IsListed side (tables_map t) (node_slot t.index) v (links_at side entry)
        bare side =
            let absent = absent_lines side (tables_map t) v t.kept.sound put_says.0 in
            let ends = nil_from_length (ends_on (links_at side entry)) in
            grind (arith, common_steps, absent, none side, beside (links_at side entry), ends)

        same_room : (side : Side) → links_room (links_at side entry) ≡ room_kept (sides o i side)
        same_room side = grind (arith, bare_outs.room, bare_ins.room)

-- ---- a node is removed

pub slot_taken : (t : RoadMap) (v : ℕ) → CanMake (tables_map t) (room_of t) (TakeNode v) → (p : ℕ)
    × (slot_by t.index v ≡ Some p)
slot_taken t v can =
    slot_of t.index (node_slots t.nodes) t.kept.indexed (all_held t.lines) v
    (made_as (tables_map t) (TakeNode v) can.accepted).0

module _ {t : RoadMap} {b' : SlotIndex} {nodes' : NodeSlots} {v : ℕ} {e : NodeEntry}
    (r : NodeWritten t b' nodes' v (Some e) None) (can : CanMake (tables_map t) (room_of t) (TakeNode v)) where
  -- the node is on the map, no line uses it, and it is on the map no more
  take_says : (has_node (tables_map t) v ≡ true) × (in_use (tables_map t) v ≡ false)
      × (record (tables_map t) { nodes = finmap.remove (tables_map t).nodes v } ≡ map_after (tables_map t) (TakeNode v))
  take_says = made_as (tables_map t) (TakeNode v) can.accepted

  take_map : map_from b' (node_slots nodes') (all_held t.lines) ≡ map_after (tables_map t) (TakeNode v)
  take_map = written_map r (finmap.remove (tables_map t).nodes v) (got_remove (tables_map t).nodes v) ∙ take_says.2

  pub take_kept : AreTables b' (node_slots nodes') (all_held t.lines)
  take_kept =
      written_kept r (sound_after t b' nodes' t.lines (TakeNode v) can take_map) (λ side h none. absurd cc)
      (λ side y l there. other_slot r (far side l)
      (eqb_flip v (far side l) ∙ far_unused side (tables_map t) v y l take_says.1 there))

  pub taken_empty : (side : Side) → lines_on (links_at side e) ≡ []
  taken_empty side =
      (listed_at t side v r.slot e r.was r.is.was).numbers ∙ sym (unused_lines side (tables_map t) v take_says.1)

  pub take_made : node_room t.nodes + 1 ≤ node_room nodes' → spare_of t.index ≤ spare_of b' → (o i : EmptyLinks) →
      lines_kept o ≡ [] → lines_kept i ≡ [] → room_kept o ≡ links_room e.outs → room_kept i ≡ links_room e.ins →
      TablesMade t b' nodes' t.lines (TakeNode v) (PutNode v e.place o i)
  take_made room spare o i no_outs no_ins same_outs same_ins =
      let place : e.place ≡ coord_at (tables_map t) v =
      sym (ap (λ c. unwrap_or c no_coord) (node_read t v r.slot e r.was r.is.was)) in
      tables_made t b' nodes' t.lines (TakeNode v) (PutNode v e.place o i) can take_map (λ _. take_kept)
      (ap (maps.Add_node v) place) (omega arith) (no_outs, no_ins)
      (record { nodes = omega arith; lines = λ side. room_forth r side 0 refl })
      (record { nodes = omega arith; lines = λ side. room_back r side _ (same_room side) }) (omega arith) (omega arith)
      (slots_stay r) where
        same_room : (side : Side) → links_room (links_at side e) ≡ room_kept (sides o i side)
        same_room side = grind (arith, same_outs, same_ins)

-- ---- a node is moved

module _ (t : RoadMap) (nodes' : NodeSlots) (p v : ℕ) (e : NodeEntry) (q : Coord)
    (is : IsReplaced (node_slots t.nodes) (node_slots nodes') p e
    (record { id = e.id; place = q; outs = e.outs; ins = e.ins }))
    (here : slot_by t.index v ≡ Some p) (can : CanMake (tables_map t) (room_of t) (MoveNode v q)) where
  abbrev moved : NodeEntry
  moved = record { id = e.id; place = q; outs = e.outs; ins = e.ins }

  move_written : NodeWritten t t.index nodes' v (Some e) (Some moved)
  move_written =
      node_written p v is refl here (unchanged_at (slot_by t.index) v (Some p) here)
      (id_is t.index (node_slots t.nodes) t.kept.indexed v p e here is.was)

  move_map : map_from t.index (node_slots nodes') (all_held t.lines) ≡ map_after (tables_map t) (MoveNode v q)
  move_map =
      written_map move_written (finmap.insert (tables_map t).nodes v q)
      (got_insert (tables_map t).nodes v q) ∙ (made_as (tables_map t) (MoveNode v q) can.accepted).1

  pub move_made : node_room nodes' ≡ node_room t.nodes →
      TablesMade t t.index nodes' t.lines (MoveNode v q) (MoveNode v e.place)
  move_made room =
      let same : IsRoomWithin (room_of t) (room_in t.index nodes') =
      record { nodes = omega arith; lines = λ side. room_same move_written side (same_room side) } in
      let place : e.place ≡ coord_at (tables_map t) v =
      sym (ap (λ c. unwrap_or c no_coord) (node_read t v p e here is.was)) in
      tables_made t t.index nodes' t.lines (MoveNode v q) (MoveNode v e.place) can move_map
      (λ sound. written_kept move_written sound
      (λ side h is_h. grind (arith, common_steps, listed_at t side v p e here is.was)) (λ side y l there. refl))
      (ap (maps.Move_node v) place) tt tt same same (omega arith) (omega arith) (λ u _ _. refl) where
        same_room : (side : Side) → links_room (links_at side e) ≡ links_room (links_at side moved)
        same_room side = grind (arith, common_steps)
