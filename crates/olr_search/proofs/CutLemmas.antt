-- How a search goes on where it may label only some nodes, and what it says in the end.
use Rattle.olr_search.proofs.Common.{◌≡◌, ℕ, ◌+◌, ◌≤◌, ◌<◌, ◌⊎◌, List, IsTrue, ap, subst, inl, inr, arith, ◌∙◌, refl, sym, ⊤}
use Rattle.olr_search.proofs.Common.{cases_lt, Map, has_node, has_line, dm, Leads, near_end, far_end, label_of, IsQueued, Moves}
use Rattle.olr_search.proofs.Common.{IsLabelled, IsUnderWay, IsSearch, IsCut, GREATEST_LIMIT, Frontier, Direction, Dijkstra, max}
use Rattle.olr_search.proofs.Common.{CutAt, IsAlike, StaysWithin, IsAhead, LabelsNear, FromWithin, IsBegunAt}
use Rattle.olr_search.proofs.SearchLemmas.{alike_labels, labelled_same}
use Rattle.olr_search.proofs.WayLemmas.{by_ways, ends_there}

module _ (M : Map) (slot : ℕ → ℕ) (direction : Direction) (from : List (ℕ × ℕ)) (P : ℕ → ℕ → Type 0) where
  pub cut_begun : (f : Frontier) → IsUnderWay M slot direction from f → IsCut M slot direction from P f
  cut_begun f u = record {
    labelled = u.labelled;
    begun = u.begun;
    front = λ v known small. elim (u.front v known small) [
      | inl cut ↦ inl (λ x line near lets. cut x line near tt)
      | inr q ↦ inr q
    ];
  }

  -- each label is that of before, and if its slot was queued it still is, or the lines from there are followed; or it is
  -- new and queued
  cut_next : (f g : Frontier) → IsLabelled M slot direction from g → ((p : ℕ) → label_of g p ≤ label_of f p)
      → ((p : ℕ) → (label_of g p ≡ label_of f p) ⊎ IsQueued g (label_of g p) p)
      → ((v : ℕ) → IsTrue (has_node M v) → IsQueued f (label_of f (slot v)) (slot v) →
      CutAt M slot direction P g v (label_of f (slot v)) ⊎ IsQueued g (label_of f (slot v)) (slot v))
      → IsCut M slot direction from P f → IsCut M slot direction from P g
  cut_next f g labelled better fresh kept u = record {
    labelled = labelled;
    begun = λ s b listed there. let was = u.begun s b listed there in let le = better (slot s) in omega arith;
    front = λ v known low. elim (fresh (slot v)) [
      | inr q ↦ inr q
      | inl is ↦ subst (λ (e : ℕ). CutAt M slot direction P g v e ⊎ IsQueued g e (slot v)) (sym is)
          (elim (u.front v known (omega arith)) [
            | inl cut ↦ inl (λ x line near lets.
                let le = cut x line near lets in
                let less = better (slot (far_end M direction x)) in
                omega arith)
            | inr q ↦ kept v known q
          ])
    ];
  }

  -- where the labels are the same, and each is still queued if it was
  pub cut_same : (f g : Frontier) → IsAlike f g → ((q : ℕ) → IsQueued f (label_of f q) q → IsQueued g (label_of f q) q) →
      IsCut M slot direction from P f → IsCut M slot direction from P g
  cut_same f g k kept u =
      cut_next f g (labelled_same M slot direction from f g k u.labelled) (λ p. omega (arith, alike_labels f g k p))
      (λ p. inl (alike_labels f g k p)) (λ v known q. inr (kept (slot v) q)) u

  -- the slot p is removed from the queue at its label d, and the lines from there are followed, up to h
  pub cut_more : (f g h : Frontier) (d p : ℕ) → IsAlike f g
      → ((e q : ℕ) → IsQueued f e q → IsQueued g e q ⊎ ((e ≡ d) × (q ≡ p))) → label_of f p ≡ d
      → d ≤ GREATEST_LIMIT → Moves g h
      → ((v : ℕ) (ways : List (ℕ × ℕ)) → IsTrue (has_node M v) → slot v ≡ p → Leads M direction ways v d →
      IsLabelled M slot direction ways g → IsLabelled M slot direction ways h)
      → ((v : ℕ) → IsTrue (has_node M v) → slot v ≡ p → CutAt M slot direction P h v d) →
      IsCut M slot direction from P f → IsCut M slot direction from P h
  cut_more f g h d p k others at small moves labelled closed u =
      let own = u.labelled.nodes p (omega arith) in
      let is : label_of f (slot own.0) ≡ d = ap (label_of f) own.2 ∙ at in
      let way = subst (λ (e : ℕ). Leads M direction from own.0 e) is (u.labelled.leads own.0 own.1 (omega arith)) in
      cut_next f h (labelled own.0 from own.1 own.2 way (labelled_same M slot direction from f g k u.labelled))
      (λ q. let le = moves.better q in omega (arith, alike_labels f g k q))
      (λ q. elim (moves.fresh q) [ inl kept ↦ inl (kept ∙ alike_labels f g k q) | inr new ↦ inr new ])
      (λ v known q. elim (others (label_of f (slot v)) (slot v) q) [
        | inl still ↦ inr (moves.kept (label_of f (slot v)) (slot v) still)
        | inr e ↦ inl (subst (CutAt M slot direction P h v) (sym e.0) (closed v known e.1))
      ]) u

  -- nothing is left in the queue at a length that Q allows
  module _ (f : Frontier) (u : IsCut M slot direction from P f) (Q : ℕ → ℕ → Type 0)
      (lets : (v d : ℕ) → Q v d → P (slot v) d × (d ≤ GREATEST_LIMIT) × ((p : ℕ) → ¬ IsQueued f d p))
      (less : (v d e : ℕ) → Q v d → e ≤ d → Q v e)
      (before : (x d : ℕ) → IsTrue (has_line M x) → Q (far_end M direction x) (d + dm M x) → Q (near_end M direction x) d)
    where
      -- by one more line
      cut_on : (x e : ℕ) → IsTrue (has_line M x) → Q (far_end M direction x) (e + dm M x)
          → label_of f (slot (near_end M direction x)) ≤ e → label_of f (slot (far_end M direction x)) ≤ e + dm M x
      cut_on x e known short low =
          let w = near_end M direction x in
          let there : Q (far_end M direction x) (label_of f (slot w) + dm M x) = less _ _ _ short (omega arith) in
          let here = lets w (label_of f (slot w)) (before x (label_of f (slot w)) known there) in
          elim (u.front w (ends_there M u.labelled.sound direction x known).0 here.1) [
            | inl cut ↦ let le = cut x known refl (lets (far_end M direction x) _ there).0 in omega arith
            | inr q ↦ absurd (here.2 (slot w) q)
          ]

      pub cut_settled : (v d : ℕ) → Q v d → Leads M direction from v d → label_of f (slot v) ≤ d
      cut_settled v d short l =
          by_ways M from (λ w e. Q w e → label_of f (slot w) ≤ e) direction (λ s b listed there _. u.begun s b listed there)
          (λ x e known _ low far. cut_on x e known far (low (before x e known far))) v d l short

-- where every node may be labelled, and nothing is left in the queue up to a limit
pub settled_up_to : (M : Map) (slot : ℕ → ℕ) (direction : Direction) (from : List (ℕ × ℕ)) (f : Frontier) (limit : ℕ) →
    IsUnderWay M slot direction from f → limit ≤ GREATEST_LIMIT → ((d p : ℕ) → IsQueued f d p → limit < d) →
    (v d : ℕ) → d ≤ limit → Leads M direction from v d → label_of f (slot v) ≤ d
settled_up_to M slot direction from f limit u small far v d near l =
    cut_settled M slot direction from (λ _ _. ⊤) f u (λ w e. e ≤ limit)
    (λ w e h. (tt, omega arith, λ p q. let lt = far e p q in omega arith)) (λ w e k h le. omega arith)
    (λ x e known h. omega arith) v d near l

-- ---- no farther than a limit

-- a label with which the search begins, or that of a line from a node within a limit, as the others decrease
pub begun_still : {M N : Map} {slot : ℕ → ℕ} {from : List (ℕ × ℕ)} {old new : ℕ → ℕ} {p : ℕ} →
    ((v : ℕ) → IsTrue (has_node M v) → IsTrue (has_node N v)) → new p ≡ old p → IsBegunAt M slot from old p →
    IsBegunAt N slot from new p
begun_still there same b =
    let least = b.least in
    let known = there b.source b.there in
    record { source = b.source; begun = b.begun; listed = b.listed; there = known; at = b.at; least = omega arith }

from_still : {M : Map} {slot : ℕ → ℕ} {direction : Direction} {was is : ℕ} {old new : ℕ → ℕ} {p : ℕ} → was ≤ is →
    ((q : ℕ) → new q ≤ old q) → new p ≡ old p → FromWithin M slot direction was old p → FromWithin M slot direction is new p
from_still {M} {slot} {direction} more better same k =
    let less = better (slot (near_end M direction k.line)) in
    let near = k.near in
    let sum = k.sum in
    record { line = k.line; known = k.known; to = k.to; near = omega arith; sum = omega arith }

module _ (M : Map) (slot : ℕ → ℕ) (direction : Direction) (limit : ℕ) where
  pub stays_then : (f g h : Frontier) → ((p : ℕ) → label_of h p ≤ label_of g p) →
      StaysWithin M slot direction limit (label_of f) (label_of g) →
      StaysWithin M slot direction limit (label_of g) (label_of h) →
      StaysWithin M slot direction limit (label_of f) (label_of h)
  stays_then f g h better first then p = elim (then p) [
    | inr new ↦ inr new
    | inl same ↦ elim (first p) [
      | inl was ↦ inl (same ∙ was)
      | inr k ↦ inr (from_still (omega arith) better same k)
    ]
  ]

  -- from labels that are the same, up to a lesser limit
  pub stays_more : (f g h : Frontier) (d : ℕ) → IsAlike f g → d ≤ limit →
      StaysWithin M slot direction d (label_of g) (label_of h) →
      StaysWithin M slot direction limit (label_of f) (label_of h)
  stays_more f g h d alike le then p = grind (arith, then p, alike_labels f g alike)

-- labels that come from nodes within a limit do so within a greater one, as the search goes on
pub near_on : (M : Map) (slot : ℕ → ℕ) (direction : Direction) (from : List (ℕ × ℕ)) (was limit is : ℕ) (old new : ℕ → ℕ) →
    was ≤ is → limit ≤ is → ((p : ℕ) → new p ≤ old p) → StaysWithin M slot direction limit old new →
    LabelsNear M slot direction from was old → LabelsNear M slot direction from is new
near_on M slot direction from was limit is old new le more better within near p low = elim (within p) [
  | inr k ↦ inr (from_still more (λ q. omega arith) refl k)
  | inl same ↦ elim (near p (omega arith)) [
    | inl b ↦ inl (begun_still (λ v there. there) same b)
    | inr k ↦ inr (from_still le better same k)
  ]
]

-- the search s, in which every node may be labelled, is continued to a limit, up to the search t
pub settled_on_to : (M : Map) (slot : ℕ → ℕ) (direction : Direction) (from : List (ℕ × ℕ)) (s t : Dijkstra) (limit : ℕ) →
    IsSearch M slot direction from s → t.direction ≡ direction → IsCut M slot direction from (λ _ _. ⊤) t.frontier →
    limit ≤ GREATEST_LIMIT → ((d p : ℕ) → IsQueued t.frontier d p → limit < d)
    → ((p : ℕ) → label_of t.frontier p ≤ label_of s.frontier p) → t.limit ≡ max s.limit limit →
    StaysWithin M slot direction limit (label_of s.frontier) (label_of t.frontier) →
    IsAhead t.frontier (s.limit + 1) → IsSearch M slot direction from t
settled_on_to M slot direction from s t limit h way u small far better is within ahead =
    record {
      way = way;
      under_way = u;
      small = omega arith;
      settled = λ v d known le l. elim (cases_lt limit d) [
        | inl lt ↦ let low = h.settled v d known (omega arith) l in let less = better (slot v) in omega arith
        | inr near ↦ settled_up_to M slot direction from t.frontier limit u small far v d near l
      ];
      near = near_on M slot direction from s.limit limit t.limit (label_of s.frontier) (label_of t.frontier)
          (omega arith) (omega arith) better within h.near;
      ahead = λ d p w. let le = ahead d p w in let lt = far d p w in omega arith;
    }
