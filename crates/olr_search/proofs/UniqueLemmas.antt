-- Whether a line extends a unique shortest path, by distances only.
use Rattle.olr_search.proofs.Common.{◌≡◌, ℕ, ◌+◌, ◌≤◌, List, [], ◌∷◌, ◌++◌, IsTrue, ap, inl, inr, arith, cases_lt, Map, has_node}
use Rattle.olr_search.proofs.Common.{has_line, start, end, dm, IsRoute, dm_of, UniqueShortest, Contains-one, refl, ◌↔◌, label_of}
use Rattle.olr_search.proofs.Common.{IsSearch, GREATEST_LIMIT, Along, Dijkstra, IsOnlyPredecessor, Contains-here}
use Rattle.olr_search.proofs.SearchLemmas.{followed}
use Rattle.olr_search.proofs.WayLemmas.{way_start}
use Rattle.olr_search.proofs.RouteEnds.{dm_of-line, unique_on, unique_alone}

-- a search along the lines from s, where each length is b more
module _ (M : Map) (slot : ℕ → ℕ) (s b : ℕ) (q : Dijkstra) (h : IsSearch M slot Along ((s, b) ∷ []) q) where
  pub way_le : (v : ℕ) (xs : List ℕ) → IsTrue (has_node M v) → IsRoute M s v xs → b + dm_of M xs ≤ q.limit →
      label_of q.frontier (slot v) ≤ b + dm_of M xs
  way_le v xs known w le =
      let there = way_start M h.under_way.labelled.sound s v xs w known in
      h.settled v (b + dm_of M xs) known le
      (record { source = s; begun = b; lines = xs; listed = Contains-here (s, b) []; there = there; way = w; long = refl })

  pub label_way : (v : ℕ) → IsTrue (has_node M v) → label_of q.frontier (slot v) ≤ GREATEST_LIMIT → (xs : List ℕ)
      × IsRoute M s v xs × (b + dm_of M xs ≡ label_of q.frontier (slot v))
  label_way v known le = grind (arith, Contains-one)

  unique_label : (v : ℕ) (xs : List ℕ) → IsTrue (has_node M v) → UniqueShortest M s v xs → b + dm_of M xs ≤ q.limit →
      label_of q.frontier (slot v) ≡ b + dm_of M xs
  unique_label v xs known unique le =
      let low = way_le v xs known unique.route le in
      let small = h.small in
      let own = label_way v known (omega arith) in
      elim (cases_lt (label_of q.frontier (slot v)) (b + dm_of M xs)) [
        | inl lt ↦
            let more =
            unique.others own.0 own.1 (λ same. let e = ap (dm_of M) same in omega (arith, own.2)) in
            absurd (omega (arith, own.2))
        | inr ge ↦ omega arith
      ]

  module _ (route : List ℕ) (x : ℕ) (line : IsTrue (has_line M x)) (unique : UniqueShortest M s (start M x) route)
      (short : b + (dm_of M route + dm M x) ≤ q.limit + 1) where
    extends_if : label_of q.frontier (slot (start M x)) + dm M x ≡ label_of q.frontier (slot (end M x)) →
        IsOnlyPredecessor M slot q.frontier x (end M x) (label_of q.frontier (slot (end M x))) →
        UniqueShortest M s (end M x) (route ++ x ∷ [])
    extends_if sum alone =
        let m = h.under_way.labelled.sound in
        let some = m.long x line in
        let from = unique_label (start M x) route (m.starts x line) unique (omega arith) in
        unique_on M s x route line unique
        (λ e. let low = way_le (end M x) [] (m.ends x line) e (omega arith) in absurd (omega arith)) (λ z front known to w le.
        let other = m.long z known in
        let low = way_le (start M z) front (m.starts z known) w (omega arith) in alone z known to (omega arith))

    sum_if : UniqueShortest M s (end M x) (route ++ x ∷ []) →
        label_of q.frontier (slot (start M x)) + dm M x ≡ label_of q.frontier (slot (end M x))
    sum_if whole =
        let m = h.under_way.labelled.sound in
        let some = m.long x line in
        let from = unique_label (start M x) route (m.starts x line) unique (omega arith) in
        let low = followed M slot Along ((s, b) ∷ []) q h x line (omega arith) in
        let total = dm_of-line M route x in
        elim (cases_lt (label_of q.frontier (slot (end M x))) (b + (dm_of M route + dm M x))) [
          | inl lt ↦
              let own = label_way (end M x) (m.ends x line) (omega (arith, h.small)) in
              let more = whole.others own.0 own.1 (λ same. let e = ap (dm_of M) same in omega (arith, own.2)) in
              absurd (omega (arith, own.2))
          | inr ge ↦ omega arith
        ]

    only_if : UniqueShortest M s (end M x) (route ++ x ∷ []) →
        IsOnlyPredecessor M slot q.frontier x (end M x) (label_of q.frontier (slot (end M x)))
    only_if whole y known to le =
        let m = h.under_way.labelled.sound in
        let sum = sum_if whole in
        let from = unique_label (start M x) route (m.starts x line) unique (let some = m.long x line in omega arith) in
        let some = m.long y known in
        let own = label_way (start M y) (m.starts y known) (omega (arith, h.small)) in
        unique_alone M s x route whole y own.0 known to own.1 (omega (arith, own.2))

    -- the result, by what the code reads of the labels
    pub reported : (near length : ℕ) → near ≡ label_of q.frontier (slot (start M x)) →
        length ≡ label_of q.frontier (slot (end M x)) →
        ((near + dm M x ≡ length) × IsOnlyPredecessor M slot q.frontier x (end M x) length)
        ↔ UniqueShortest M s (end M x) (route ++ x ∷ [])
    reported near length is_near is_length = grind (arith, label_of, extends_if, sum_if, only_if)
