-- The distance bounds that a register stores: with a source where each coverage query of its list begins, and right on its
-- map once they are settled, if the nodes that edits touched are reopened before.
use Rattle.olr_register.proofs.Common.{DistanceBounds, edit_under_way, CanRenewUnder, under_overlay, none_differs, AreBoundsOf, ℕ}
use Rattle.olr_register.proofs.Common.{NamesDiffer, KeepsSlots, AddsNoNode, IsUnderWay, HasBounds, CanUpdate, nodes_of, has_node}
use Rattle.olr_register.proofs.Common.{cases_eq, has_line, RoadMap, IsFalse, slot_of, SameBut, Overlay, edited, map_of, IsTrue}
use Rattle.olr_register.proofs.Common.{IsEdit, subst, start, arith, IsMap, List, Edit, Item, ◌≡◌, inl, Map, end, [], Ok}
use Rattle.olr_spec.proofs.AgreeLemmas.{turned_round}
use Rattle.olr_renewal.specs.declared.update.MapUpdate.{MapUpdate}
use Rattle.olr_spec.proofs.EditLemmas.{edit_laws, left_other}
use Rattle.olr_register.proofs.Listed.{named_to_renew}

-- invalid bounds say nothing
pub bounded_invalid : {roads : RoadMap} {T : List ℕ} {is : List Item} {bounds : DistanceBounds} → IsFalse bounds.valid →
    HasBounds roads T is bounds
bounded_invalid off =
    record {
      under_way = λ on. let never : ⊥ = cc (on, off) in absurd never;
      sources = λ v b on. let never : ⊥ = cc (on, off) in absurd never;
    }

-- bounds that are right need not be settled
pub settled_bounds : {roads : RoadMap} {T : List ℕ} {is : List Item} {bounds : DistanceBounds} →
    AreBoundsOf (map_of roads) (slot_of roads) bounds is → HasBounds roads T is bounds
settled_bounds h =
    record {
      under_way = λ known. record {
        closed = λ x there short. inl ((h.right known).closed x there short);
        sources = λ v d at there. inl ((h.right known).sources v d at there);
      };
      sources = h.sources;
    }

-- ---- to renew a list

pub can_renew : (u : MapUpdate RoadMap) (f g : DistanceBounds) (is : List Item) (o : Overlay) →
    CanUpdate u f is (under_overlay is o) →
    ((ks : List Item) → HasBounds u.map.now (nodes_of u.touched.now) ks f → AreBoundsOf (map_of u.map.now) (slot_of u.map.now) g ks) →
    CanRenewUnder map_of slot_of u g is o
can_renew u f g is o can settled =
    let h = can.renewable.1 in
    record {
      names = subst NamesDiffer (named_to_renew u.sets_margin (under_overlay is o)) h.names;
      renewable = record { follows = h.follows; bounds = settled _ can.bounded; before = (can.renewable.0, h.before) };
    }

-- ---- after an edit

-- the ends of each line are nodes of the map before the edit
starts_there : (M N : Map) (e : Edit) → IsMap M → edited M e ≡ Ok N → (x : ℕ) → IsTrue (has_line N x) →
    IsTrue (has_node M (start N x))
starts_there M N e sound done x known = grind (arith, edit_laws, left_other, cases_eq, sound.starts)

ends_there : (M N : Map) (e : Edit) → IsMap M → edited M e ≡ Ok N → (x : ℕ) → IsTrue (has_line N x) →
    IsTrue (has_node M (end N x))
ends_there M N e sound done x known = grind (arith, edit_laws, left_other, cases_eq, sound.ends)

module _ (old new : RoadMap) (slots : KeepsSlots old new) where
  abbrev M : Map
  M = map_of old

  abbrev N : Map
  N = map_of new

  abbrev IsEditOf : List ℕ → Type 0
  IsEditOf T = IsEdit T M (slot_of old) N (slot_of new)

  pub is_edit : (e : Edit) → edited M e ≡ Ok N → (T : List ℕ) → SameBut T M N → IsEditOf T
  is_edit e done T alike = record {
    sound = new.kept.sound;
    alike = alike;
    slots = slots;
    starts = starts_there M N e old.kept.sound done;
    ends = ends_there M N e old.kept.sound done;
  }

  -- no edit was made
  no_edit : N ≡ M → IsEditOf []
  no_edit same = record {
    sound = new.kept.sound;
    alike = λ v off. rw same ((none_differs M).nodes v off);
    slots = slots;
    starts = λ x there. subst (λ (K : Map). IsTrue (has_node K (start N x))) same (new.kept.sound.starts x there);
    ends = λ x there. subst (λ (K : Map). IsTrue (has_node K (end N x))) same (new.kept.sound.ends x there);
  }

  pub under_way_stays : N ≡ M → (T : List ℕ) (bounds : DistanceBounds) → IsUnderWay M (slot_of old) T bounds →
      IsUnderWay N (slot_of new) T bounds
  under_way_stays same T bounds h =
      edit_under_way M N (slot_of old) (slot_of new) [] bounds (no_edit same) T T (λ v on. on) (λ v on. absurd cc) h

  module _ {is : List Item} {bounds : DistanceBounds} where
    -- the nodes that the edit touched are to be reopened
    pub bounds_edited : {T : List ℕ} → IsEditOf T → HasBounds old [] is bounds → HasBounds new T is bounds
    bounds_edited {T} edit h = record {
      under_way = edit_under_way M N (slot_of old) (slot_of new) T bounds edit [] T (λ v on. absurd cc) (λ v on. on) h.under_way;
      sources = h.sources;
    }

    pub bounds_stay : N ≡ M → {T : List ℕ} → HasBounds old T is bounds → HasBounds new T is bounds
    bounds_stay same {T} h = record { under_way = under_way_stays same T bounds h.under_way; sources = h.sources }

-- ---- after edits were undone, none of which dropped a node

module _ (old new : RoadMap) (none : AddsNoNode old new) (T : List ℕ) (alike : SameBut T (map_of new) (map_of old)) where
  is_undone : IsEdit T (map_of old) (slot_of old) (map_of new) (slot_of new)
  is_undone = record {
    sound = new.kept.sound;
    alike = λ v off. turned_round (map_of new) (map_of old) v (alike v off);
    slots = λ v was now. (none v now).1;
    starts = λ x there. (none _ (new.kept.sound.starts x there)).0;
    ends = λ x there. (none _ (new.kept.sound.ends x there)).0;
  }

  pub bounds_undone : {is : List Item} {bounds : DistanceBounds} → HasBounds old T is bounds → HasBounds new T is bounds
  bounds_undone {is} {bounds} h = record {
    under_way =
        edit_under_way (map_of old) (map_of new) (slot_of old) (slot_of new) T bounds is_undone T T (λ v on. on) (λ v on. on)
        h.under_way;
    sources = h.sources;
  }
