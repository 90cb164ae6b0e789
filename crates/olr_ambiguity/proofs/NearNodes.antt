-- The nodes in the windows of a reference's LRPs.
use Rattle.olr_ambiguity.proofs.Common.{slice_get-get_or, slice_get_within, decoded_coord, list_any_at, AreWindows, slice_get}
use Rattle.olr_ambiguity.proofs.Common.{unwrap_or, Reference, Contains, coord_at, has_node, ℕ, no_coord, list_any, is_rival}
use Rattle.olr_ambiguity.proofs.Common.{AreNodes, is_some, some_of, ap, side_at, Option, length, IsTrue, get_or, Window, subst}
use Rattle.olr_ambiguity.proofs.Common.{Coord, IsMap, List, is_in, Some, ◌≡◌, ◌∙◌, ◌<◌, sym, Map, get}
use Rattle.olr_ambiguity.proofs.Lists.{close, rival_known}

module _ (M : Map) (ids : List (Option ℕ)) (places : List Coord) (beside : length ids ≡ length places) (nodes : AreNodes M ids places) where
  pub in_slot : (k v : ℕ) → slice_get ids k ≡ Some (Some v) → IsTrue (has_node M v)
  in_slot k v at =
      let inside = slice_get_within ids k (Some v) at in
      let place = slice_get-get_or places k no_coord (subst (λ n. k < n) beside inside) in
      ap (λ o. is_some o) ((nodes v (get_or places k no_coord)).1 (k, at, place))

  -- each rival is in one of the windows
  pub rival_near : IsMap M → (r : Reference) (xs : List ℕ) (ws : List Window) (found : List ℕ) → AreWindows M r xs ws →
      ((k v : ℕ) (c : Coord) → slice_get ids k ≡ Some (Some v) → slice_get places k ≡ Some c →
      IsTrue (list_any (λ w. is_in w c) ws) → Contains found v) →
      (k x v : ℕ) → slice_get xs k ≡ Some x → IsTrue (is_rival M (side_at r k) (decoded_coord r k) x v) → Contains found v
  rival_near m r xs ws found windows whole k x v at is =
      let s = side_at r k in
      let p = decoded_coord r k in
      let c = coord_at M v in
      let w = windows k x at in
      let inside : IsTrue (is_in w.0 c) = w.2.whole c (m.places v (rival_known M s p x v m is)) (close M s p x v is) in
      let some : IsTrue (list_any (λ u. is_in u c) ws) =
      list_any_at (λ (u : Window). is_in u c) ws w.1.0 w.0 w.1.1 (ap (λ (u : Window). is_in u c) w.1.2 ∙ inside) in
      let node = some_of (get M.nodes v) (rival_known M s p x v m is) in
      let place : node.0 ≡ c = sym (ap (λ o. unwrap_or o no_coord) node.1) in
      let slot = (nodes v c).0 (node.1 ∙ ap (λ d. Some d) place) in
      whole slot.0 v c slot.1 slot.2 some
