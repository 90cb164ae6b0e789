-- Distances with their last lines are the labels of the shortest paths.
use Rattle.olr_route.proofs.Common.{◌≡◌, ℕ, zero, suc, ◌<◌, ◌≤◌, ◌↔◌, List, [], ◌∷◌, ◌++◌, Option, Some, None, refl, ap, ◌∙◌}
use Rattle.olr_route.proofs.Common.{subst, inl, inr, arith, get_or, none-some, Map, IsMap, start, IsRoute, dm_of, Least}
use Rattle.olr_route.proofs.Common.{LeastWithin, IsLabel, AreLabels, limit_of, empty_least, one_least, positive, LiesWithin}
use Rattle.olr_route.proofs.Common.{Along, get_or_default, FirstSmaller, last_first, route_start}
use Rattle.std.proofs.Common.{MatchOption, reverse}
use Rattle.olr_route.specs.declared.labels.Labels.{Labels}
use Rattle.olr_search.proofs.RouteEnds.{ends_of, dm_of-line, route_on, last_step, same_last}
use Rattle.olr_search.proofs.RouteEnds.Ends.{empty, ended}
use Rattle.olr_search.proofs.SearchLemmas.{near_leads}
use Rattle.olr_route.proofs.EndLemmas.{leads_route, route_leads, distance_le, ends_route, least_long}

module _ (M : Map) (m : IsMap M) (s limit : ℕ)
    (found : (v : ℕ) → LiesWithin M Along ((s, 0) ∷ []) limit v → (k : ℕ × Option ℕ) × IsLabel M s limit v k) where
  -- of the routes as long as a label says none precedes the one that its last line ends
  none_before : (v x d : ℕ) (front : List ℕ) → IsLabel M s limit v (d, Some x) → Least M s (start M x) front →
      dm_of M (front ++ x ∷ []) ≡ d → (g : List ℕ) (z : ℕ) → IsRoute M s v (g ++ z ∷ []) → dm_of M (g ++ z ∷ []) ≡ d →
      ¬ FirstSmaller (reverse (g ++ z ∷ [])) (reverse (front ++ x ∷ []))
  none_before v x d front l short long g z w e h =
      grind (arith, ends_route M s v d z g, dm_of-line M front x, dm_of-line M g z, last_step M s v z g, last_first)

  -- so the last line of a label extends the shortest path to its start
  least_on : (v x d : ℕ) (front : List ℕ) → IsLabel M s limit v (d, Some x) → Least M s (start M x) front →
      Least M s v (front ++ x ∷ [])
  least_on v x d front l short =
      let e = l.last.ends x refl in
      let long : dm_of M (front ++ x ∷ []) ≡ d =
      omega (arith, dm_of-line M front x, least_long M s (start M x) e.before front e.near short, e.long) in
      let some = positive M m x e.known in record {
        route = subst (λ (u : ℕ). IsRoute M s u (front ++ x ∷ [])) e.to (route_on M s x front short.route e.known);
        first = λ ys w before. elim before [
          | inl lt ↦ let le = distance_le M s v d ys l.dist w in absurd (omega arith)
          | inr tie ↦ elim (ends_of ys) [
            | empty none ↦ absurd (omega (arith, tie.0, ap (dm_of M) none))
            | ended g z is ↦ grind (arith, none_before v x d front l short long g z)
          ]
        ];
      }

  -- the shortest path by its last line
  abbrev IsShortest : ℕ → Option ℕ → Type 0
  IsShortest v o = MatchOption o (Least M s v []) (λ x. (front : List ℕ) × Least M s v (front ++ x ∷ []))

  some_path : (v : ℕ) (o : Option ℕ) → IsShortest v o → (xs : List ℕ) × Least M s v xs
  some_path v None l = ([], l)
  some_path v (Some x) l = (l.0 ++ x ∷ [], l.1)

  shortest_by : (n v d : ℕ) (o : Option ℕ) → d < n → IsLabel M s limit v (d, o) → IsShortest v o
  shortest_by zero v d o lt l = absurd (omega arith)
  shortest_by (suc n) v d None lt l =
      let w = leads_route M s v d l.dist.leads in
      elim (ends_of w.0) [
        | empty e ↦ subst (λ (u : ℕ). Least M s u []) (subst (λ (zs : List ℕ). IsRoute M s v zs) e w.1) (empty_least M s)
        | ended front x e ↦ grind (arith, ends_route M s v d x front, none-some)
      ]
  shortest_by (suc n) v d (Some x) lt l =
      let e = l.last.ends x refl in
      let some = positive M m x e.known in
      let own = found (start M x) (e.before, e.near, omega (arith, e.long, l.within)) in
      let low = own.1.dist.least e.before e.near.leads in
      let r = some_path (start M x) own.0.1 (shortest_by n (start M x) own.0.0 own.0.1 (omega (arith, e.long)) own.1) in
      (r.0, least_on v x d r.0 l r.1)

  -- the last line of a label is that of the shortest path
  path_of : (v x d : ℕ) → IsLabel M s limit v (d, Some x) → (front : List ℕ) × LeastWithin M s limit v (front ++ x ∷ [])
  path_of v x d l =
      let r = shortest_by (suc d) v d (Some x) (omega arith) l in
      (r.0, record { least = r.1; within = omega (arith, least_long M s v d (r.0 ++ x ∷ []) l.dist r.1, l.within) })

  pub last_is : (v x : ℕ) (k : ℕ × Option ℕ) → IsLabel M s limit v k →
      (k.1 ≡ Some x) ↔ ((front : List ℕ) × LeastWithin M s limit v (front ++ x ∷ []))
  last_is v x k l = (
    λ is. path_of v x k.0 (subst (λ (o : Option ℕ). IsLabel M s limit v (k.0, o)) is l),
    λ p.
        let y : (y : ℕ) × (k.1 ≡ Some y) × (y ≤ x) =
        grind (arith, ends_route M s v k.0 x p.0, least_long M s v k.0 (p.0 ++ x ∷ [])) in
        let r = path_of v y.0 k.0 (subst (λ (o : Option ℕ). IsLabel M s limit v (k.0, o)) y.1 l) in
        y.1
        ∙ ap (λ (n : ℕ). Some n) (same_last r.0 p.0 y.0 x (one_least M m s v (r.0 ++ y.0 ∷ []) (p.0 ++ x ∷ []) r.1.least p.1.least)),
  )

-- the end of a shortest path within the limit has a label
pub near_of : (M : Map) (slot : ℕ → ℕ) (s : ℕ) (x : Labels) → AreLabels M slot s x → (v y : ℕ) (front : List ℕ) →
    LeastWithin M s (limit_of x) v (front ++ y ∷ []) → LiesWithin M Along ((s, 0) ∷ []) (limit_of x) v
near_of M slot s x a v y front l =
    let m = a.sound in
    let near = near_leads _ _ _ _ _ a.search v in
    grind (arith, near, route_leads M s, last_step M s v y front, route_start M m s (start M y) front)

-- the label of a node
pub label_of : (M : Map) (slot : ℕ → ℕ) (s : ℕ) (x : Labels) → AreLabels M slot s x → (v : ℕ) →
    LiesWithin M Along ((s, 0) ∷ []) (limit_of x) v → (k : ℕ × Option ℕ) × IsLabel M s (limit_of x) v k
label_of M slot s x a v near =
    let c = (a.near v).1 near in
    let k : ℕ × Option ℕ = get_or x.labels.items c.0 (0, None) in
    (k, subst (λ (u : ℕ). IsLabel M s (limit_of x) u k) (get_or_default x.nodes.items c.0 0 v c.1 ∙ c.2) (a.each c.0 c.1))
