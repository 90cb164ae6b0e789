-- The map that the tables represent.
use Rattle.olr_map.proofs.Common.{◌≡◌, ◌<◌, ◌≤◌, [], map, None, sym, ap, ◌∙◌, get, Map, Line, at, Side, held, ◌^◌}
use Rattle.olr_map.proofs.Common.{◌==◌, true, false, List, Option, Some, length, arith, FinMap, IsMap, Links}
use Rattle.olr_map.proofs.Common.{ℕ, option_map, false_from_ne_true, node_slots, node_slot, IsIndexed, tables_map, common_steps}
use Rattle.olr_map.proofs.Common.{is_some, none_of, some_of, slot_by, node_in, map_from, IsListed, RoadMap, all_held, coord_in}
use Rattle.olr_map.proofs.Common.{has_node, has_line, pairs_of, links_at, links_in, lines_at, AreTables, SlotIndex, NodeEntry}
use Rattle.std.proofs.Common.{IsTrue, SomeIff}
use Rattle.std.proofs.lemmas.Map.Made.{lookup-map_values}
use Rattle.std.specs.Ordering.{nat_cmp}
use Rattle.olr_model.specs.Ends.{HaveSlotsApart}
use Rattle.olr_map.proofs.Lookups.{all_get}
use Rattle.olr_map.proofs.SlotsByNumber.{listed_found}
use Rattle.olr_map.proofs.SlotLemmas.{holds_within}
use Rattle.olr_map.proofs.Indexing.{id_of, place_of, entry_of, one_node}
use Rattle.olr_map.proofs.Listing.{absent_lines}

module _ (b : SlotIndex) (es : List (Option NodeEntry)) (indexed : IsIndexed b es) where
  pub got_node : (F : FinMap nat_cmp Line) (v : ℕ) →
      get (map_from b es F).nodes v ≡ option_map place_of (node_in b es v)
  got_node F v =
      let mapped = lookup-map_values (coord_in es) (λ q. v == q) (pairs_of b) in
      let made = all_get (map (λ (e : ℕ × ℕ). (e.0, coord_in es e.1)) (pairs_of b)) v in
      grind (arith, common_steps, made, mapped, listed_found b v, entry_of b es indexed v)

  pub node_there : (F : FinMap nat_cmp Line) (v p : ℕ) → slot_by b v ≡ Some p → has_node (map_from b es F) v ≡ true
  node_there F v p h = grind (arith, common_steps, got_node F v, entry_of b es indexed v p)

  pub node_missing : (F : FinMap nat_cmp Line) (v : ℕ) → slot_by b v ≡ None → has_node (map_from b es F) v ≡ false
  node_missing F v h = grind (arith, common_steps, got_node F v)

  -- a node of the map has its slot
  pub slot_of : (F : FinMap nat_cmp Line) (v : ℕ) → has_node (map_from b es F) v ≡ true →
      (p : ℕ) × (slot_by b v ≡ Some p)
  slot_of F v h = some_of (slot_by b v) (grind (arith, common_steps, node_missing F v))

  pub not_found : (F : FinMap nat_cmp Line) (v : ℕ) → has_node (map_from b es F) v ≡ false → slot_by b v ≡ None
  not_found F v h = grind (arith, common_steps, node_there F v)

-- the nodes' slots are in range
within : (es : List (Option NodeEntry)) (p v : ℕ) → option_map id_of (at es p) ≡ Some v → p < length es
within es p v h = grind (arith, common_steps, holds_within)

pub place_is : (b : SlotIndex) (v p : ℕ) → slot_by b v ≡ Some p → node_slot b v ≡ p
place_is b v p h = grind (arith, common_steps)

module _ (b : SlotIndex) (es : List (Option NodeEntry)) (F : FinMap nat_cmp Line) (indexed : IsIndexed b es)
    (few : length es ≤ 2 ^ 32) where
  pub have_slots_apart : HaveSlotsApart (map_from b es F) (node_slot b) (length es)
  have_slots_apart =
      record {
        below = λ v h.
            let s = slot_of b es indexed F v h in
            grind (arith, within es s.0 v, indexed.filled v s.0 s.1, place_is b v s.0 s.1);
        apart = λ v w h k e.
            let s = slot_of b es indexed F v h in
            let r = slot_of b es indexed F w k in
            grind (arith, one_node b es indexed v w s.0, s.1, r.1, place_is b v s.0 s.1, place_is b w r.0 r.1);
        few = few;
      }

  pub kept_from : IsMap (map_from b es F) →
      ((side : Side) (v : ℕ) (l : Links) → links_in side b es v ≡ Some l →
      IsListed side (map_from b es F) (node_slot b) v l) → AreTables b es F
  kept_from sound listed = record { sound = sound; indexed = indexed; placed = have_slots_apart; listed = listed }

-- ---- tables

module _ (t : RoadMap) where
  abbrev b : SlotIndex
  b = t.index

  abbrev es : List (Option NodeEntry)
  es = node_slots t.nodes

  abbrev M : Map
  M = tables_map t

  pub got_line : (x : ℕ) → get M.lines x ≡ held t.lines x
  got_line x = all_get t.lines.by_number.entries x

  pub line_missing : (x : ℕ) → has_line M x ≡ false → held t.lines x ≡ None
  line_missing x h = sym (got_line x) ∙ none_of (get M.lines x) h

  -- what a lookup by the number n of line x found
  pub line_read : (x n : ℕ) → n ≡ x → (o : Option Line) → o ≡ held t.lines n → get M.lines x ≡ o
  line_read x n same o is = got_line x ∙ ap (held t.lines) (sym same) ∙ sym is

  -- a line of the map is found
  pub line_found : (x : ℕ) → has_line M x ≡ true → (l : Line) × (held t.lines x ≡ Some l)
  line_found x h = grind (arith, common_steps, got_line, some_of)

  pub node_read : (v p : ℕ) (e : NodeEntry) → slot_by b v ≡ Some p → at es p ≡ Some e → get M.nodes v ≡ Some e.place
  node_read v p e h is = grind (arith, common_steps, got_node b es t.kept.indexed (all_held t.lines) v)

  -- a slot that is found has an entry
  pub entry_at : (v p : ℕ) → slot_by b v ≡ Some p → (e : NodeEntry) × (at es p ≡ Some e)
  entry_at v p h = entry_of b es t.kept.indexed v p h

  pub filled_in : (v p : ℕ) → slot_by b v ≡ Some p → is_some (at es p) ≡ true
  filled_in v p h = ap (λ o. is_some o) (entry_at v p h).1

  pub listed_at : (side : Side) (v p : ℕ) (e : NodeEntry) → slot_by b v ≡ Some p → at es p ≡ Some e →
      IsListed side M (node_slot b) v (links_at side e)
  listed_at side v p e h is = let all = t.kept.listed side v (links_at side e) in grind (arith, common_steps, all)

  -- an absent node has no lines
  pub no_lines : (side : Side) (v : ℕ) → (has_node M v ≡ true → ⊥) → [] ≡ lines_at side M v
  no_lines side v missing = absent_lines side M v t.kept.sound (false_from_ne_true (has_node M v) missing)

  -- the slot of a node, by `node_slot`
  pub slot_is : (v p : ℕ) → has_node M v ≡ true → node_slot b v ≡ p → slot_by b v ≡ Some p
  slot_is v p h e = grind (arith, common_steps, slot_of b es t.kept.indexed (all_held t.lines) v h)

  pub id_has : (p v : ℕ) → option_map id_of (at es p) ≡ Some v → (has_node M v ≡ true) × (node_slot b v ≡ p)
  id_has p v h =
      let here = t.kept.indexed.named v p h in
      (node_there b es t.kept.indexed (all_held t.lines) v p here, place_is b v p here)

  pub has_id : (p v : ℕ) → has_node M v ≡ true → node_slot b v ≡ p → option_map id_of (at es p) ≡ Some v
  has_id p v h e = t.kept.indexed.filled v p (slot_is v p h e)

  pub slot_filled : (p : ℕ) → (v : ℕ) × IsTrue (has_node M v) × (node_slot b v ≡ p) → is_some (at es p) ≡ true
  slot_filled p h = filled_in h.0 p (slot_is h.0 p h.1 h.2)

  pub slot_lines : (side : Side) (v p : ℕ) (l : Links) → has_node M v ≡ true → node_slot b v ≡ p →
      ((e : NodeEntry) → at es p ≡ Some e → l ≡ links_at side e) → IsListed side M (node_slot b) v l
  slot_lines side v p l h e is = let here = slot_is v p h e in let x = entry_at v p here in
      grind (arith, x.1, is x.0, listed_at side v p x.0 here)

  pub place_found : (v : ℕ) (o : Option ℕ) → o ≡ slot_by b v → SomeIff o (IsTrue (has_node M v)) (node_slot b v)
  place_found v None e = λ h. let s = slot_of b es t.kept.indexed (all_held t.lines) v h in absurd cc
  place_found v (Some p) e =
      (node_there b es t.kept.indexed (all_held t.lines) v p (sym e), sym (place_is b v p (sym e)))
