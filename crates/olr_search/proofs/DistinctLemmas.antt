-- Lists of slots without duplicates, the nodes in them, and what is found in them.
use Rattle.olr_search.proofs.Common.{◌≡◌, ◌==◌, ℕ, ◌<◌, List, [], ◌∷◌, ◌++◌, Contains, IsTrue, get_or, length, ◌≤◌, refl, sym}
use Rattle.olr_search.proofs.Common.{ap, ◌∙◌, subst, inl, inr, arith, IsDistinct, get_or-map, length-map, Contains-append_cases}
use Rattle.olr_search.proofs.Common.{Contains-one, AreApart, AreNodesIn}
use Rattle.olr_search.proofs.Common.{IsDistinct-from_apart, ne_eqb, Contains-get_or, Map, has_node, Bool, true}
use Rattle.olr_search.proofs.Common.{false, cond, eqb-true, nat_eq_equiv, map-append, append-nil}
use Rattle.std.proofs.lemmas.Map.Made.{length-le_from_is_member}
use Rattle.std.proofs.lemmas.Map.Views.{Contains-from_any, list_any-from_Contains}

pub slots_distinct : (ps : List ℕ) → AreApart ps → IsDistinct ◌==◌ ps
slots_distinct ps apart = IsDistinct-from_apart ◌==◌ ps (λ i j d lt past. ne_eqb _ _ (apart i j d lt past))

-- as many at most as a list that has them all
pub no_more : (xs ys : List ℕ) → IsDistinct ◌==◌ xs → ((p : ℕ) → Contains xs p → Contains ys p) → length xs ≤ length ys
no_more xs ys once all =
    length-le_from_is_member nat_eq_equiv xs ys once (λ q is. list_any-from_Contains nat_eq_equiv q ys
    (all q (Contains-from_any (λ x y e. eqb-true x y e) q xs is)))

-- ---- the nodes in slots

module _ (M : Map) (slot : ℕ → ℕ) where
  pub no_nodes : AreNodesIn M slot [] []
  no_nodes = record { slots = refl; there = λ v c. absurd (omega (arith, c.1)) }

  pub nodes_more : (ps vs : List ℕ) (p v : ℕ) (b : Bool) → IsTrue (has_node M v) → slot v ≡ p → AreNodesIn M slot ps vs →
      AreNodesIn M slot (ps ++ cond b (p ∷ []) []) (vs ++ cond b (v ∷ []) [])
  nodes_more ps vs p v true known at a =
      record {
        slots = map-append slot vs (v ∷ []) ∙ (λ i. a.slots i ++ at i ∷ []);
        there = λ w c. elim (Contains-append_cases vs (v ∷ []) w c) [
          | inl h ↦ a.there w h
          | inr h ↦ subst (λ (n : ℕ). IsTrue (has_node M n)) (sym (Contains-one v w h)) known
        ];
      }
  nodes_more ps vs p v false known at a = rw (append-nil ps, append-nil vs) a

  module _ (ps vs : List ℕ) (a : AreNodesIn M slot ps vs) where
    pub slot_in : (v : ℕ) → Contains vs v → Contains ps (slot v)
    slot_in v c =
        let many = length-map vs slot in
        subst (λ (qs : List ℕ). Contains qs (slot v)) a.slots
        (c.0, omega (arith, c.1), get_or-map slot vs c.0 v (slot v) c.1 ∙ ap slot c.2)

    pub node_in : ((v w : ℕ) → IsTrue (has_node M v) → IsTrue (has_node M w) → slot v ≡ slot w → v ≡ w) → (v : ℕ) →
        IsTrue (has_node M v) → Contains ps (slot v) → Contains vs v
    node_in own v known listed =
        let c = subst (λ (qs : List ℕ). Contains qs (slot v)) (sym a.slots) listed in
        let lt : c.0 < length vs = omega (arith, c.1, length-map vs slot) in
        let w = get_or vs c.0 v in (
          c.0,
          lt,
          own w v (a.there w (Contains-get_or vs c.0 v lt)) known
              (sym (get_or-map slot vs c.0 v (slot v) lt) ∙ c.2),
        )

    pub nodes_distinct : AreApart ps → IsDistinct ◌==◌ vs
    nodes_distinct apart = IsDistinct-from_apart ◌==◌ vs (λ i j d lt past.
        let many = length-map vs slot in
        let far = subst AreApart (sym a.slots) apart i j (slot d) lt (omega arith) in
        ne_eqb _ _ (λ same. far
        (get_or-map slot vs i d (slot d) (omega arith) ∙ ap slot same ∙ sym (get_or-map slot vs j d (slot d) past))))
