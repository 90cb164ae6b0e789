-- The nodes that a search has settled.
use Rattle.olr_search.proofs.Common.{ℕ, List, Contains, sym, ◌∙◌, arith, ◌≢◌, ◌≤◌, nat_le, filter, Map, AreFilled}
use Rattle.olr_search.proofs.Common.{AreNodesIn, label_of, IsSearch, LiesWithin, Direction, Dijkstra, Bool, ◌↔◌, AreApart}
use Rattle.olr_search.proofs.Common.{has_from, in_from, has, IsPermutation, Contains-permutation, eqb, IsPermutation-sym}
use Rattle.olr_search.proofs.Common.{IsDistinct-IsPermutation, IsDistinct, nat_eq_equiv, ◌==◌}
use Rattle.std.proofs.lemmas.Bool.{and_from, and_parts, le-leb, leb-true}
use Rattle.olr_spec.proofs.ListLemmas.{has-filter}
use Rattle.std.proofs.lemmas.List.Kept.{AllPairs-filter}
use Rattle.olr_search.proofs.DistinctLemmas.{slot_in, node_in, nodes_distinct}
use Rattle.olr_search.proofs.SearchLemmas.{labelled_listed, label_is, is_distance, distance_node}

module _ (M : Map) (slot : ℕ → ℕ) (direction : Direction) (from : List (ℕ × ℕ)) (s : Dijkstra)
    (h : IsSearch M slot direction from s) where
  -- the nodes in the slots whose labels are within the limit
  module _ (ps : List ℕ) (near : (p : ℕ) → Contains ps p ↔ (label_of s.frontier p ≤ s.limit)) (vs : List ℕ)
      (a : AreNodesIn M slot ps vs) where
    exactly_in : (v : ℕ) → Contains vs v ↔ LiesWithin M direction from s.limit v
    exactly_in v = (
      λ c.
          let le = (near (slot v)).0 (slot_in M slot ps vs a v c) in
          (label_of s.frontier (slot v), is_distance M slot direction from s h v (a.there v c) le, le),
      λ within.
          let known = distance_node M slot direction from s h v within.0 within.1 in
          let label = label_is M slot direction from s h v within.0 known within.1 within.2 in
          node_in M slot ps vs a h.under_way.labelled.own v known ((near (slot v)).1 (omega (arith, within.2))),
    )

  -- the slots with labels that are within the limit
  abbrev pub near_slots : List ℕ
  near_slots = filter (λ p. nat_le (label_of s.frontier p) s.limit) s.frontier.reached.items

  near_slots_apart : AreApart near_slots
  near_slots_apart =
      AllPairs-filter (λ (q p : ℕ). q ≢ p) (λ p. nat_le (label_of s.frontier p) s.limit) s.frontier.reached.items
      h.under_way.labelled.apart

  near_slots_exactly : (p : ℕ) → Contains near_slots p ↔ (label_of s.frontier p ≤ s.limit)
  near_slots_exactly p =
      let reached = s.frontier.reached.items in
      let test : ℕ → Bool = λ q. nat_le (label_of s.frontier q) s.limit in
      let both = has-filter test reached p in
      let small = h.small in (
        λ c. leb-true _ _ (and_parts (test p) (has reached p) (sym both ∙ has_from near_slots p c)).0,
        λ le.
            let listed = has_from reached p (labelled_listed s.frontier p (omega arith)) in
            in_from near_slots p (both ∙ and_from (test p) (has reached p) (le-leb (label_of s.frontier p) s.limit le) listed),
      )

  -- each slot with a label has a node
  pub filled : AreFilled M slot s.frontier.reached.items
  filled p c = let l = h.under_way.labelled in l.nodes p (l.listed p c)

  -- the nodes within the limit, in another order
  module _ (near after : List ℕ) (a : AreNodesIn M slot near_slots near) (moved : IsPermutation near after) where
    pub moved_distinct : IsDistinct ◌==◌ after
    moved_distinct =
        IsDistinct-IsPermutation eqb nat_eq_equiv.symm near after moved
        (nodes_distinct M slot near_slots near a near_slots_apart)

    pub moved_exactly : (v : ℕ) → Contains after v ↔ LiesWithin M direction from s.limit v
    moved_exactly v =
        let all = exactly_in near_slots near_slots_exactly near a v in (
          λ there. all.0 (Contains-permutation after near v (IsPermutation-sym near after moved) there),
          λ is. Contains-permutation near after v moved (all.1 is),
        )
