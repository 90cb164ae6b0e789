-- A search goes on where a line counts longer whose start isn't settled yet.
use Rattle.olr_search.proofs.Common.{◌≡◌, ◌≢◌, ℕ, ◌+◌, ◌<◌, ◌≤◌, List, IsTrue, ap, sym, subst, inl, inr, arith, ◌∙◌, refl}
use Rattle.olr_search.proofs.Common.{cases_eq, Map, has_node, has_line, start, end, dm, Leads, near_end, far_end, label_of}
use Rattle.olr_search.proofs.Common.{IsLabelled, IsUnderWay, IsSearch, GREATEST_LIMIT, Direction, Along, Against, Dijkstra}
use Rattle.olr_search.proofs.Common.{IsOver, IsSearchedAs, Frontier}
use Rattle.olr_search.proofs.CutLemmas.{begun_still, settled_up_to}
use Rattle.olr_search.proofs.SearchLemmas.{followed}
use Rattle.olr_search.proofs.WayLemmas.{by_ways, leads_first, leads_on, ends_there}

pub ends_over : (M N : Map) → IsOver M N → (direction : Direction) (x : ℕ) →
    (near_end N direction x ≡ near_end M direction x) × (far_end N direction x ≡ far_end M direction x)
ends_over M N o Along x = (o.starts x, o.ends x)
ends_over M N o Against x = (o.ends x, o.starts x)

-- where each line counts as long as it is
pub plain : (M : Map) (slot : ℕ → ℕ) (direction : Direction) (f : Frontier) (next : ℕ) →
    IsSearchedAs M M slot direction (λ _ d. d) f next
plain M slot direction f next = record { over = grind arith; long = λ x known far. refl }

-- K is as N, but for the line own, which is longer, and whose start is not settled
module _ (N K : Map) (slot : ℕ → ℕ) (direction : Direction) (from : List (ℕ × ℕ)) (s : Dijkstra)
    (h : IsSearch N slot direction from s) (over : IsOver N K) (own : ℕ) (others : (x : ℕ) → x ≢ own → dm K x ≡ dm N x)
    (longer : dm N own ≤ dm K own) (ahead : s.limit < label_of s.frontier (slot (near_end N direction own))) where
  there : (v : ℕ) → IsTrue (has_node N v) → IsTrue (has_node K v)
  there v = subst IsTrue (sym (over.nodes v))

  known : (x : ℕ) → IsTrue (has_line N x) → IsTrue (has_line K x)
  known x = subst IsTrue (sym (over.lines x))

  back : (x : ℕ) → IsTrue (has_line K x) → IsTrue (has_line N x)
  back x = subst IsTrue (over.lines x)

  at_least : (x : ℕ) → dm N x ≤ dm K x
  at_least x = elim (cases_eq x own) [
    | inl same ↦ subst (λ y. dm N y ≤ dm K y) (sym same) longer
    | inr other ↦ omega (arith, others x other)
  ]

  -- a line from a settled node
  settled_line : (x : ℕ) → label_of s.frontier (slot (near_end N direction x)) ≤ s.limit → dm K x ≡ dm N x
  settled_line x near = others x (λ same. let e = ap (λ y. label_of s.frontier (slot (near_end N direction y))) same in absurd (omega arith))

  -- one more line from a settled node
  line_on : (x v e d : ℕ) → IsTrue (has_line N x) → far_end N direction x ≡ v →
      label_of s.frontier (slot (near_end N direction x)) ≤ s.limit → e + dm N x ≡ d →
      Leads K direction from (near_end N direction x) e → Leads K direction from v d
  line_on x v e d line to near sum first =
      let same = settled_line x near in
      let on =
      leads_on K direction from x e (known x line)
      (subst (λ u. Leads K direction from u e) (sym (ends_over N K over direction x).0) first) in
      let end = (ends_over N K over direction x).1 ∙ to in
      let long : e + dm K x ≡ d = omega (arith, same) in
      coe 0 1 (i. Leads K direction from (end i) (long i)) on

  -- no route within the limit has the line
  leads_same : (v d : ℕ) → d ≤ s.limit → Leads N direction from v d → Leads K direction from v d
  leads_same v d near l =
      by_ways N from (λ w e. e ≤ s.limit → Leads K direction from w e) direction
      (λ u b listed node _. leads_first K direction from u b listed (there u node))
      (λ x e line first more le.
      let low =
      h.settled (near_end N direction x) e (ends_there N h.under_way.labelled.sound direction x line).0 (omega arith) first in
      line_on x (far_end N direction x) e (e + dm N x) line refl (omega arith) refl (more (omega arith))) v d l near

  leads_still : (v : ℕ) → IsTrue (has_node N v) → label_of s.frontier (slot v) ≤ GREATEST_LIMIT →
      Leads K direction from v (label_of s.frontier (slot v))
  leads_still v node small =
      let l = h.under_way.labelled in
      elim (h.near (slot v) small) [
        | inl b ↦
            let same : b.source ≡ v = l.own b.source v b.there node b.at in
            let low = h.under_way.begun b.source b.begun b.listed b.there in
            let is : b.begun ≡ label_of s.frontier (slot v) = omega (arith, b.least, ap (label_of s.frontier) b.at) in
            coe 0 1 (i. Leads K direction from (same i) (is i))
            (leads_first K direction from b.source b.begun b.listed (there b.source b.there))
        | inr k ↦
            let w = near_end N direction k.line in
            let way = l.leads w (ends_there N l.sound direction k.line k.known).0 (omega (arith, h.small, k.near)) in
            let low = followed N slot direction from s h k.line k.known k.near in
            line_on k.line v (label_of s.frontier (slot w)) (label_of s.frontier (slot v)) k.known
            (l.own (far_end N direction k.line) v (ends_there N l.sound direction k.line k.known).1 node k.to) k.near
            (omega (arith, k.sum, ap (label_of s.frontier) k.to))
            (leads_same w (label_of s.frontier (slot w)) k.near way)
      ]

  labelled_still : IsLabelled K slot direction from s.frontier
  labelled_still =
      let l = h.under_way.labelled in
      let here : (v : ℕ) → IsTrue (has_node K v) → IsTrue (has_node N v) = λ v. subst IsTrue (over.nodes v) in
      record {
        sound = record {
          starts = λ x line. there (start K x) (subst (λ v. IsTrue (has_node N v)) (sym (over.starts x)) (l.sound.starts x (back x line)));
          ends = λ x line. there (end K x) (subst (λ v. IsTrue (has_node N v)) (sym (over.ends x)) (l.sound.ends x (back x line)));
          long = λ x line. let some = l.sound.long x (back x line) in omega (arith, at_least x);
        };
        own = λ v w a b. l.own v w (here v a) (here w b);
        room = λ v a. l.room v (here v a);
        low = l.low;
        leads = λ v a. leads_still v (here v a);
        nodes = λ p small. let n = l.nodes p small in (n.0, there n.0 n.1, n.2);
        listed = l.listed;
        apart = l.apart;
      }

  under_way_still : IsUnderWay K slot direction from s.frontier
  under_way_still =
      let u = h.under_way in
      let here : (v : ℕ) → IsTrue (has_node K v) → IsTrue (has_node N v) = λ v. subst IsTrue (over.nodes v) in
      record {
        labelled = labelled_still;
        begun = λ v b listed a. u.begun v b listed (here v a);
        front = λ v a small. elim (u.front v (here v a) small) [
          | inr q ↦ inr q
          | inl cut ↦ inl (λ x line near lets.
              let low = cut x (back x line) (sym (ends_over N K over direction x).0 ∙ near) tt in
              let e = ap (λ w. label_of s.frontier (slot w)) (ends_over N K over direction x).1 in
              omega (arith, at_least x))
        ];
      }

  pub marked : IsSearch K slot direction from s
  marked = record {
    way = h.way;
    under_way = under_way_still;
    small = h.small;
    settled = λ v d a le l.
        settled_up_to K slot direction from s.frontier s.limit under_way_still h.small
        (λ e p w. let far = h.ahead e p w in omega arith) v d le l;
    near = λ p small. elim (h.near p small) [
      | inl b ↦ inl (begun_still there refl b)
      | inr k ↦ inr (record {
        line = k.line;
        known = known k.line k.known;
        to = ap slot (ends_over N K over direction k.line).1 ∙ k.to;
        near = subst (λ w. label_of s.frontier (slot w) ≤ s.limit) (sym (ends_over N K over direction k.line).0) k.near;
        sum =
            let e = ap (λ w. label_of s.frontier (slot w)) (ends_over N K over direction k.line).0 in
            omega (arith, k.sum, settled_line k.line k.near);
      })
    ];
    ahead = h.ahead;
  }
