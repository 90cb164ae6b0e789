-- What distances say about touched nodes that are near, and about detours.
use Rattle.olr_renewal.proofs.Common.{◌≡◌, ℕ, ◌+◌, ◌<◌, ◌≤◌, true, List, [], ◌∷◌, map, IsTrue, ◌↔◌, refl, sym, ap, subst, arith}
use Rattle.olr_renewal.proofs.Common.{Map, IsMap, has_node, end, has, IsRoute, dm_of, ChangedLine, Near, Leads, Along, Against}
use Rattle.olr_renewal.proofs.Common.{sources_in, Detour, route_start, has_from, in_from, Contains-map, Contains-unmap}

-- ---- near nodes

-- a route that begins at a node of the map ends at one
pub route_end : (M : Map) → IsMap M → (s v : ℕ) (xs : List ℕ) → IsRoute M s v xs → IsTrue (has_node M s) →
    IsTrue (has_node M v)
route_end M m s v [] w there = subst (λ (u : ℕ). IsTrue (has_node M u)) w there
route_end M m s v (x ∷ xs) w there = route_end M m (end M x) v xs w.2 (m.ends x w.0)

abbrev pub all_sources : List ℕ → List (ℕ × ℕ)
all_sources T = map {A = ℕ} {B = ℕ × ℕ} (λ v. (v, 0)) T

module _ (N : Map) (n : IsMap N) (T : List ℕ) (node : ℕ) where
  pub leads_from : (v : ℕ) (xs : List ℕ) → IsTrue (has T v) → IsRoute N node v xs → IsTrue (has_node N node) →
      Leads N Against (all_sources T) node (dm_of N xs)
  leads_from v xs touched leads there = record {
    source = v;
    begun = 0;
    lines = xs;
    listed = Contains-map (λ u. (u, 0)) T v (in_from T v touched);
    there = route_end N n node v xs leads there;
    way = leads;
    long = omega arith;
  }

  -- where a label is the length of a way
  pub near_labelled : (label most : ℕ) → label ≤ most → Leads N Against (all_sources T) node label → Near N T node most
  near_labelled label most le leads =
      let source = Contains-unmap (λ v. (v, 0)) T (leads.source, leads.begun) leads.listed in
      let same : source.0 ≡ leads.source = ap (λ (p : ℕ × ℕ). p.0) source.2 in
      let begun : 0 ≡ leads.begun = ap (λ (p : ℕ × ℕ). p.1) source.2 in
      let long = leads.long in
      record {
        node = leads.source;
        route = leads.lines;
        touched = subst (λ (v : ℕ). has T v ≡ true) same (has_from T source.0 source.1);
        leads = leads.way;
        within = omega arith;
      }

  -- where no way is shorter than a label
  pub near_found : (label most : ℕ) → IsTrue (has_node N node) →
      ((d : ℕ) → d ≤ most → Leads N Against (all_sources T) node d → label ≤ d) → Near N T node most → label ≤ most
  near_found label most there least near =
      let short = near.within in
      let low = least (dm_of N near.route) short (leads_from near.node near.route near.touched near.leads there) in
      omega arith

  -- if the map does not have the node
  pub near_absent : (most : ℕ) → ¬ IsTrue (has_node N node) → IsTrue (has T node) ↔ Near N T node most
  near_absent most lacks = (
    (λ on. record { node = node; route = []; touched = on; leads = refl; within = omega arith }),
    (λ near. by near.node near.route near.touched near.leads),
  )
    where
      by : (v : ℕ) (xs : List ℕ) → IsTrue (has T v) → IsRoute N node v xs → IsTrue (has T node)
      by v [] on w = subst (λ (u : ℕ). IsTrue (has T u)) (sym w) on
      by v (x ∷ xs) on w = absurd (lacks (subst (λ (u : ℕ). IsTrue (has_node N u)) w.1 (n.starts x w.0)))

-- ---- detours

-- a detour is as long as two routes, each of which the lengths a and b don't exceed
module _ (N : Map) (n : IsMap N) (C : List ChangedLine) (s t d : ℕ) (from_there : IsTrue (has_node N s))
    (to_there : IsTrue (has_node N t)) where
  leads_to : (h : Detour N C s t d) → Leads N Against (sources_in Against C) s (h.first.len + dm_of N h.before)
  leads_to h = record {
    source = h.first.from;
    begun = h.first.len;
    lines = h.before;
    listed = Contains-map (λ c. (c.from, c.len)) C h.first h.first_listed;
    there = route_end N n s h.first.from h.before h.leads from_there;
    way = h.leads;
    long = refl;
  }

  leads_back : (h : Detour N C s t d) → Leads N Along (sources_in Along C) t (dm_of N h.after)
  leads_back h = record {
    source = h.last.to;
    begun = 0;
    lines = h.after;
    listed = Contains-map (λ c. (c.to, 0)) C h.last h.last_listed;
    there = route_start N n h.last.to t h.after h.returns to_there;
    way = h.returns;
    long = omega arith;
  }

  pub no_detour : (a b : ℕ) → ((e : ℕ) → Leads N Against (sources_in Against C) s e → a ≤ e)
      → ((e : ℕ) → Leads N Along (sources_in Along C) t e → b ≤ e) → d < a + b → ¬ Detour N C s t d
  no_detour a b there back more h =
      let to = there _ (leads_to h) in
      let from = back _ (leads_back h) in
      let w = h.within in
      omega arith
