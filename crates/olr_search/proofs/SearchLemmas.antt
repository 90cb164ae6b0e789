-- The invariants of a search that can be continued.
use Rattle.olr_search.proofs.Common.{refl, has_line, near_end, far_end, dm, ◌≡◌, ◌≢◌, ℕ, ◌+◌, ◌<◌, ◌≤◌, ◌⊎◌, List, [], ◌∷◌}
use Rattle.olr_search.proofs.Common.{Contains, IsTrue, length, get_or, sym, ap, ◌∙◌, subst, inl, inr, arith, set, cases_eq}
use Rattle.olr_search.proofs.Common.{cases_lt, get_or-set_same, get_or-set_other, Contains-append_cases, Map, HasEnds, has_node}
use Rattle.olr_search.proofs.Common.{Contains-one, Leads, IsDistance, label_in, NotesOnce, AreApart, label_of, frontier_len}
use Rattle.olr_search.proofs.Common.{IsQueued, IsAhead, IsRelaxed, Moves, IsLabelled, IsSearch, LiesWithin, GREATEST_LIMIT, Frontier}
use Rattle.olr_search.proofs.Common.{Direction, Dijkstra, Contains-get_or, sum_by-set, queue_len, IsEmpty, IsAlike, NotedOnce}
use Rattle.olr_search.proofs.Common.{CoversSlots, all_pairs_push, cases_Bool, false≢true, has_from, in_from, has}
use Rattle.olr_search.proofs.WayLemmas.{leads_node, ends_there}

-- ---- one label is lowered

-- a smaller label is written in slot p, and p is queued
pub put_by : (f g : Frontier) (p d label : ℕ) → g.table.items ≡ set f.table.items p d → p < length f.table.items →
    label ≡ label_of f p → d < label → NotesOnce f.reached.items g.reached.items label p → IsQueued g d p →
    ((e q : ℕ) → IsQueued f e q → IsQueued g e q) →
    ((e q : ℕ) → IsQueued g e q → IsQueued f e q ⊎ ((e ≡ d) × (q ≡ p))) → frontier_len g ≡ frontier_len f →
    queue_len g.queue ≡ queue_len f.queue + 1 → IsRelaxed f g p d
put_by f g p d label table within was lt once there kept added len more =
    grind (arith, label_of, label_in, get_or-set_same, get_or-set_other, sum_by-set)

pub put_le : (f g : Frontier) (p d : ℕ) → IsRelaxed f g p d → (q : ℕ) → label_of g q ≤ label_of f q
put_le f g p d k q = grind (arith, cases_eq, label_of)

-- each label is that of before, or the new one
pub put_cases : (f g : Frontier) (p d : ℕ) → IsRelaxed f g p d → (q : ℕ) → (label_of g q ≡ label_of f q)
    ⊎ ((label_of g q ≡ d) × (q ≡ p))
put_cases f g p d k q = grind (arith, cases_eq, label_of, cases_lt)

pub put_moves : (f g : Frontier) (p d : ℕ) → IsRelaxed f g p d → Moves f g
put_moves f g p d k = record {
  better = put_le f g p d k;
  fresh = λ q. grind (arith, cases_eq, label_of);
  kept = k.kept;
  len = k.len;
  less = k.less;
}

-- nothing is queued before the length `next`, if that isn't greater than the new label
pub put_ahead : (f g : Frontier) (p d : ℕ) → IsRelaxed f g p d → (next : ℕ) → next ≤ d → IsAhead f next → IsAhead g next
put_ahead f g p d k next le ahead e q w = elim (k.added e q w) [ inl old ↦ ahead e q old | inr at ↦ omega (arith, at.0) ]

pub moves_then : (f g h : Frontier) → Moves f g → Moves g h → Moves f h
moves_then f g h m n = record {
  better = λ p. let a = m.better p in let b = n.better p in omega arith;
  fresh = λ p. elim (n.fresh p) [
    | inr q ↦ inr q
    | inl same ↦ elim (m.fresh p) [
      | inl was ↦ inl (same ∙ was)
      | inr q ↦ inr (subst (λ (e : ℕ). IsQueued h e p) (sym same) (n.kept (label_of g p) p q))
    ]
  ];
  kept = λ e q w. n.kept e q (m.kept e q w);
  len = n.len ∙ m.len;
  less = omega arith;
}

-- each slot with a label is in the list
pub labelled_listed : (f : Frontier) (p : ℕ) → label_of f p ≤ GREATEST_LIMIT → Contains f.reached.items p
labelled_listed f p small =
    elim (cases_Bool (has f.reached.items p)) [
      | inl on ↦ in_from f.reached.items p on
      | inr off ↦
          let no_label =
          f.noted p (λ q c same. false≢true (sym off ∙ ap (has f.reached.items) (sym same) ∙ has_from f.reached.items q c)) in
          absurd (omega arith)
    ]

pub alike_labels : (f g : Frontier) → IsAlike f g → (p : ℕ) → label_of g p ≡ label_of f p
alike_labels f g k p = ap (λ (t : List ℕ). label_in t p) k.table

module _ (M : Map) (slot : ℕ → ℕ) (direction : Direction) (from : List (ℕ × ℕ)) where
  -- the length of a route is written as a label at its node
  module _ (f g : Frontier) (v p d : ℕ) (k : IsRelaxed f g p d) (there : IsTrue (has_node M v)) (at : slot v ≡ p)
      (way : Leads M direction from v d) (l : IsLabelled M slot direction from f) where
    put_listed : NotedOnce f g p → (q : ℕ) → Contains g.reached.items q → label_of g q ≤ GREATEST_LIMIT
    put_listed (inl h) q c =
        let was = l.listed q (subst (λ (ps : List ℕ). Contains ps q) h.0 c) in
        let le = put_le f g p d k q in omega arith
    put_listed (inr h) q c =
        elim (Contains-append_cases f.reached.items (p ∷ []) q (subst (λ (ps : List ℕ). Contains ps q) h.0 c)) [
          | inl old ↦ let was = l.listed q old in let le = put_le f g p d k q in omega arith
          | inr new ↦ let low = l.low p in let is = ap (label_of g) (Contains-one p q new) in omega arith
        ]

    put_apart : NotedOnce f g p → AreApart g.reached.items
    put_apart (inl h) = subst AreApart (sym h.0) l.apart
    put_apart (inr h) =
        subst AreApart (sym h.0) (all_pairs_push (λ (q r : ℕ). q ≢ r) f.reached.items p l.apart (λ k d lt same.
        let small = l.listed (get_or f.reached.items k d) (Contains-get_or f.reached.items k d lt) in
        let eq = ap (label_of f) same in absurd (omega arith)))

    pub put_labelled : IsLabelled M slot direction from g
    put_labelled = record {
      sound = l.sound;
      own = l.own;
      room = λ w known. let was = l.room w known in omega arith;
      low = λ q. let was = l.low q in let le = put_le f g p d k q in omega arith;
      leads = λ w known small. elim (put_cases f g p d k (slot w)) [
        | inl same ↦ subst (λ (e : ℕ). Leads M direction from w e) (sym same) (l.leads w known (omega arith))
        | inr new ↦
            let own : w ≡ v = l.own w v known there (new.1 ∙ sym at) in
            coe 1 0 (i. Leads M direction from (own i) (new.0 i)) way
      ];
      nodes = λ q small. grind (arith, put_cases f g p d k q, l.nodes q);
      listed = put_listed k.noted;
      apart = put_apart k.noted;
    }

  -- no labels at all
  pub empty_labelled : (f : Frontier) → HasEnds M →
      ((v w : ℕ) → IsTrue (has_node M v) → IsTrue (has_node M w) → slot v ≡ slot w → v ≡ w) → CoversSlots M slot f →
      IsEmpty f → IsLabelled M slot direction from f
  empty_labelled f m own room e = grind arith

  -- ---- the frontier

  -- what does not depend on the queue
  pub labelled_same : (f g : Frontier) → IsAlike f g → IsLabelled M slot direction from f →
      IsLabelled M slot direction from g
  labelled_same f g k l = grind (arith, alike_labels f g k)

  -- ---- what the labels say

  module _ (s : Dijkstra) (h : IsSearch M slot direction from s) where
    pub is_distance : (v : ℕ) → IsTrue (has_node M v) → label_of s.frontier (slot v) ≤ s.limit →
        IsDistance M direction from v (label_of s.frontier (slot v))
    is_distance v known le =
        record {
          leads = h.under_way.labelled.leads v known (omega arith);
          least = λ e l. elim (cases_lt s.limit e) [
            | inl lt ↦ omega arith
            | inr near ↦ h.settled v e known near l
          ];
        }

    -- a node that a route within the limit reaches is near
    pub near_leads : (v d : ℕ) → d ≤ s.limit → Leads M direction from v d → LiesWithin M direction from s.limit v
    near_leads v d le l =
        let known = leads_node M h.under_way.labelled.sound direction from v d l in
        let low = h.settled v d known le l in
        (label_of s.frontier (slot v), is_distance v known (omega arith), omega arith)

    pub label_is : (v d : ℕ) → IsTrue (has_node M v) → IsDistance M direction from v d → d ≤ s.limit →
        label_of s.frontier (slot v) ≡ d
    label_is v d known x le =
        let low = h.settled v d known le x.leads in
        let high = x.least (label_of s.frontier (slot v)) (h.under_way.labelled.leads v known (omega arith)) in
        omega arith

    pub distance_node : (v d : ℕ) → IsDistance M direction from v d → IsTrue (has_node M v)
    distance_node v d x = leads_node M h.under_way.labelled.sound direction from v d x.leads

    -- the slot of each near node is in the list
    pub near_listed : (v : ℕ) → LiesWithin M direction from s.limit v → Contains s.frontier.reached.items (slot v)
    near_listed v near =
        let known = distance_node v near.0 near.1 in
        let is = label_is v near.0 known near.1 near.2 in
        labelled_listed s.frontier (slot v) (omega arith)

    pub listed_reached : (p : ℕ) → Contains s.frontier.reached.items p →
        (v : ℕ) × ((d : ℕ) × Leads M direction from v d × (d ≤ GREATEST_LIMIT)) × (slot v ≡ p)
    listed_reached p c =
        let l = h.under_way.labelled in
        let small = l.listed p c in
        let own = l.nodes p small in
        let is = ap (label_of s.frontier) own.2 in
        (own.0, (label_of s.frontier (slot own.0), l.leads own.0 own.1 (omega arith), omega arith), own.2)

    -- the lines from a settled node have been followed
    pub followed : (x : ℕ) → IsTrue (has_line M x) → label_of s.frontier (slot (near_end M direction x)) ≤ s.limit →
        label_of s.frontier (slot (far_end M direction x)) ≤ label_of s.frontier (slot (near_end M direction x)) + dm M x
    followed x line near =
        let v = near_end M direction x in
        elim (h.under_way.front v (ends_there M h.under_way.labelled.sound direction x line).0 (omega (arith, h.small))) [
          | inl cut ↦ cut x line refl tt
          | inr w ↦ let far = h.ahead (label_of s.frontier (slot v)) (slot v) w in absurd (omega arith)
        ]
