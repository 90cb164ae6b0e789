-- Numbers and slots that refer to each other, after the entry of one node is added, removed or replaced.
use Rattle.olr_map.proofs.Common.{◌≡◌, ◌==◌, ◌&&◌, ℕ, Bool, true, false, cond, List, Option, Some, None, refl, sym, ap, ◌∙◌}
use Rattle.olr_map.proofs.Common.{option_map, eq-eqb, ne_eqb, same_Some, Coord, slot_by, at, IsWritten}
use Rattle.olr_map.proofs.Common.{links_at, with_links, IsRelinked, node_in, links_in, IsIndexed, SlotIndex, Links}
use Rattle.olr_map.proofs.Common.{NodeEntry, Side, Out, In, common_steps, arith}
use Rattle.std.proofs.Common.{eqb-true}
use Rattle.olr_map.proofs.Lookups.{over_cond, unchanged_at}

abbrev pub id_of : NodeEntry → ℕ
id_of e = e.id

abbrev pub place_of : NodeEntry → Coord
place_of e = e.place

abbrev pub Slots : Type 0
Slots = List (Option NodeEntry)

-- the slot p of a number, if the number has a value
abbrev pub slot_if : {X : Type 0} → ℕ → Option X → Option ℕ
slot_if p None = None
slot_if p (Some e) = Some p

pub value_if : {X : Type 0} (p q : ℕ) (o : Option X) → slot_if p o ≡ Some q → (e : X) × (o ≡ Some e) × (p ≡ q)
value_if p q None h = absurd cc
value_if p q (Some e) h = (e, refl, same_Some p q h)

-- ---- lines on one side of a node

abbrev pub same_side : Side → Side → Bool
same_side Out Out = true
same_side In In = true
same_side _ _ = false

pub links_with : (s side : Side) (e : NodeEntry) (l : Links) →
    links_at s (with_links side e l) ≡ cond (same_side s side) l (links_at s e)
links_with s side e l = grind (arith, common_steps)

same_id : (side : Side) (e : NodeEntry) (l : Links) → (with_links side e l).id ≡ e.id
same_id side e l = grind (arith, common_steps)

same_place : (side : Side) (e : NodeEntry) (l : Links) → (with_links side e l).place ≡ e.place
same_place side e l = grind (arith, common_steps)

-- the lines on one side of node v are others
pub record Relisted (b : SlotIndex) (es es' : Slots) (side : Side) (v : ℕ) (old new : Links) : Type 0 where
  pub indexed : IsIndexed b es'
  pub places : (k : ℕ) → option_map place_of (node_in b es' k) ≡ option_map place_of (node_in b es k)
  pub was : links_in side b es v ≡ Some old
  pub now : (s : Side) (k : ℕ) → links_in s b es' k
      ≡ cond (same_side s side && (v == k)) (Some new) (links_in s b es k)

module _ (b : SlotIndex) (es : Slots) (indexed : IsIndexed b es) where
  -- two nodes are not in one slot
  pub one_node : (v w p : ℕ) → slot_by b v ≡ Some p → slot_by b w ≡ Some p → v ≡ w
  one_node v w p h k = same_Some _ _ (sym (indexed.filled v p h) ∙ indexed.filled w p k)

  entry_with : (o : Option NodeEntry) (v : ℕ) → option_map id_of o ≡ Some v → (e : NodeEntry) × (o ≡ Some e)
  entry_with None v h = absurd cc
  entry_with (Some e) v h = (e, refl)

  -- the entry of a node that is found
  pub entry_of : (v p : ℕ) → slot_by b v ≡ Some p → (e : NodeEntry) × (at es p ≡ Some e)
  entry_of v p h = entry_with (at es p) v (indexed.filled v p h)

  -- the entry has the number of its node
  pub id_is : (v p : ℕ) (e : NodeEntry) → slot_by b v ≡ Some p → at es p ≡ Some e → Some e.id ≡ Some v
  id_is v p e here is = ap (option_map id_of) (sym is) ∙ indexed.filled v p here

  -- ---- node v has the entry w in place of o, in slot p

  module _ (b' : SlotIndex) (es' : Slots) (p v : ℕ) (o w : Option NodeEntry) (t : IsWritten es es' p o w)
      (was : slot_by b v ≡ slot_if p o) (now : (k : ℕ) → slot_by b' k ≡ cond (v == k) (slot_if p w) (slot_by b k)) where
    pub node_was : node_in b es v ≡ o
    node_was = grind (arith, common_steps)

    -- the slot of another number is a different one
    other_slot : (k q : ℕ) → (v == k) ≡ false → slot_by b k ≡ Some q → (p == q) ≡ false
    other_slot k q ne h = grind (arith, common_steps, entry_of, one_node, ne_eqb, eq-eqb)

    stays : (k q : ℕ) → (v == k) ≡ false → slot_by b k ≡ Some q → at es' q ≡ at es q
    stays k q ne h = grind (arith, common_steps, other_slot)

    arrives : at es' p ≡ w
    arrives = grind (arith, common_steps, eq-eqb)

    pub written_node : (k : ℕ) → node_in b' es' k ≡ cond (v == k) w (node_in b es k)
    written_node k = grind (arith, common_steps, stays, arrives, eqb-true)

    pub written_indexed : option_map id_of w ≡ slot_if v w → IsIndexed b' es'
    written_indexed id =
        record {
          filled = λ k q h.
              let held = indexed.filled k q in
              grind (arith, common_steps, now k, value_if p q w, eqb-true, t.now q, held, stays k q, eq-eqb);
          named = λ k q h. grind (arith, common_steps, now k, t.now q, indexed.named k q, value_if, eq-eqb, eqb-true, ne_eqb);
        }

  -- ---- node v has other lines on one side

  pub relisted : (es' : Slots) (side : Side) (p v : ℕ) {R : Links → Links → Type 0} (r : IsRelinked es es' side p R) →
      slot_by b v ≡ Some p → Relisted b es es' side v (links_at side r.entry) r.links
  relisted es' side p v r here =
      let e : NodeEntry = r.entry in
      let f : NodeEntry = with_links side e r.links in
      let stays = unchanged_at (slot_by b) v (Some p) here in
      let id : Some f.id ≡ Some v = ap (λ n. Some n) (same_id side e r.links) ∙ id_is v p e here r.is.was in
      let was : node_in b es v ≡ Some e = node_was b es' p v (Some e) (Some f) r.is here stays in
      let node = written_node b es' p v (Some e) (Some f) r.is here stays in
      record {
        indexed = written_indexed b es' p v (Some e) (Some f) r.is here stays id;
        places = λ k. grind (arith, common_steps, node k, over_cond, unchanged_at, same_place);
        was = ap (option_map (links_at side)) was;
        now = λ s k. grind (arith, common_steps, node k, over_cond, unchanged_at, links_with);
      }
