-- The slots of an edit's nodes: of an accepted edit, and where no node's slot changes. The faults of a map as returned.
use Rattle.olr_map.proofs.Common.{edit_fault_of, common_steps, TableChange, MatchResult, IsReserved, tables_map, Result}
use Rattle.olr_map.proofs.Common.{node_slot, SlotIndex, eqb-true, has_node, RoadMap, slot_by, eq-eqb, arith, subst, Err, IsOk}
use Rattle.olr_map.proofs.Common.{Some, refl, true, ◌==◌, ◌||◌, Map, has, sym, ◌∙◌, ◌∷◌, ◌≡◌, Ok, [], ap, ℕ, change_edit}
use Rattle.olr_map.specs.EditPlans.{AreSlots, IsEditPlan, planned_changes}
use Rattle.olr_spec.specs.Map.{start, end, MapFault}
use Rattle.olr_spec.specs.Detours.{ChangedLine, changes_of}
use Rattle.olr_model.specs.declared.edit.EditFault.{EditFault}
use Rattle.olr_map.specs.declared.judging.EditPlan.{EditPlan}
use Rattle.olr_map.proofs.Making.{made_from}
use Rattle.olr_map.proofs.Reading.{slot_is}
use Rattle.olr_spec.specs.Map as maps

slots_stay : (b b' : SlotIndex) (M M' : Map) (at : ℕ × ℕ) (e : maps.Edit) →
    ((v : ℕ) → slot_by b' v ≡ slot_by b v) → M' ≡ M → AreSlots b M at e → AreSlots b' M' at e
slots_stay b b' M M' at e same is h = grind (arith, same)

-- after more capacity is reserved, for the change that makes the edit
pub slots_reserved : (old mid : RoadMap) (at : ℕ × ℕ) (e : maps.Edit) (c : TableChange) → IsReserved old mid →
    change_edit c ≡ e → AreSlots old.index (tables_map old) at e → AreSlots mid.index (tables_map mid) at (change_edit c)
slots_reserved old mid at e c r same h =
    subst (AreSlots mid.index (tables_map mid) at) (sym same)
    (slots_stay old.index mid.index (tables_map old) (tables_map mid) at e r.slots r.map h)

-- the ends of the one changed line
planned_ends : (j : EditPlan) (c : ChangedLine) → planned_changes j ≡ c ∷ [] → (j.nodes.0 ≡ c.from) × (j.nodes.1 ≡ c.to)
planned_ends j c e = grind (arith, common_steps)

-- the one node
planned_node : (v a b : ℕ) → ((u : ℕ) → has (v ∷ []) u ≡ ((a == u) || (b == u))) → v ≡ a
planned_node v a b h = grind (arith, common_steps, h a, eq-eqb, eqb-true)

module _ (t : RoadMap) where
  abbrev b : SlotIndex
  b = t.index

  abbrev M : Map
  M = tables_map t

  -- the slot of an end that is on the map
  slot_at : (v w p : ℕ) → w ≡ v → (has_node M w ≡ true → node_slot b w ≡ p) → has_node M v ≡ true → slot_by b v ≡ Some p
  slot_at v w p is at there = slot_is t v p there (ap (node_slot b) (sym is) ∙ at (ap (has_node M) is ∙ there))

  ends_at : (j : EditPlan) (e : maps.Edit) (c : ChangedLine) → IsEditPlan M (node_slot b) e j → changes_of M e ≡ c ∷ []
      →
      has_node M c.from ≡ true → has_node M c.to ≡ true
      → (slot_by b c.from ≡ Some j.slots.0) × (slot_by b c.to ≡ Some j.slots.1)
  ends_at j e c h is from to =
      let ends = planned_ends j c (h.changes ∙ is) in
      (slot_at c.from j.nodes.0 j.slots.0 ends.0 h.first from, slot_at c.to j.nodes.1 j.slots.1 ends.1 h.second to)

  line_ends : (x : ℕ) → maps.has_line M x ≡ true → (has_node M (start M x) ≡ true) × (has_node M (end M x) ≡ true)
  line_ends x there = (t.kept.sound.starts x there, t.kept.sound.ends x there)

  pub plan_slots : (e : maps.Edit) (j : EditPlan) → IsEditPlan M (node_slot b) e j → AreSlots b M j.slots e
  plan_slots (maps.Add_node v c) j h = tt
  plan_slots (maps.Move_node v c) j h =
      slot_at v j.nodes.0 j.slots.0 (sym (planned_node v j.nodes.0 j.nodes.1 h.nodes)) h.first
      (made_from M (maps.Move_node v c) h.accepted).0
  plan_slots (maps.Drop_node v) j h = tt
  plan_slots (maps.Add_line x l) j h =
      let s = made_from M (maps.Add_line x l) h.accepted in
      ends_at j (maps.Add_line x l) _ h refl s.1 s.2
  plan_slots (maps.Set_line x frc fow len shape) j h =
      let s = line_ends x (made_from M (maps.Set_line x frc fow len shape) h.accepted).0 in
      (slot_at (start M x) j.nodes.0 j.slots.0 h.ends.0 h.first s.0, slot_at (end M x) j.nodes.1 j.slots.1 h.ends.1 h.second s.1)
  plan_slots (maps.Drop_line x) j h =
      let s = line_ends x (made_from M (maps.Drop_line x) h.accepted).0 in
      ends_at j (maps.Drop_line x) _ h refl s.0 s.1

-- ---- a fault of the map, as it is returned

same_fault : (f g : MapFault) → edit_fault_of f ≡ edit_fault_of g → f ≡ g
same_fault f g e = grind (arith, common_steps)

abbrev answer : (A : Type 0) → EditFault → Result A EditFault
answer A x = Err x

pub refused_as : (A B : Type 0) (r : Result Map MapFault) (x : EditFault) →
    MatchResult r (λ _. IsOk (answer A x)) (λ f. answer A x ≡ Err (edit_fault_of f))
    → (f : MapFault) → (◌≡◌ {A = Result B EditFault} (Err x) (Err (edit_fault_of f)) → r ≡ Err f)
    × (r ≡ Err f → ◌≡◌ {A = Result B EditFault} (Err x) (Err (edit_fault_of f)))
refused_as A B (Ok m) x h f = absurd cc
refused_as A B (Err g) x h f = (λ e. let same = same_fault g f (cc) in cc, λ e. cc)
