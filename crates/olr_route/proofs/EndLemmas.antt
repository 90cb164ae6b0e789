-- Distances from one node, and the lines that end the shortest routes.
use Rattle.olr_route.proofs.Common.{◌≡◌, ◌↔◌, ℕ, ◌+◌, ◌<◌, ◌≤◌, List, [], ◌∷◌, ◌++◌, Option, Some, None, IsTrue, arith, sym}
use Rattle.olr_route.proofs.Common.{refl, ap, subst, length, get_or, cases_lt, none-some, Map, has_node, start, dm, lines_in}
use Rattle.olr_route.proofs.Common.{IsRoute, dm_of, Least, Leads, IsDistance, Along, EndsRoute, IsLast, IsStrictlyIncreasing}
use Rattle.olr_route.proofs.Common.{eqb, eqb-true, eq-eqb, Against, Contains-one, ascend_in, Contains-here}
use Rattle.std.specs.Option.{option_eq}
use Rattle.olr_spec.proofs.AscendingLists.{ascends}
use Rattle.olr_search.proofs.RouteEnds.{last_step, dm_of-line}
use Rattle.olr_search.proofs.ReadLemmas.{found_at}
use Rattle.olr_search.proofs.WayLemmas.{leads_on}

-- what `==` says of an option and a number
pub option_is : (o : Option ℕ) (n : ℕ) → IsTrue (option_eq eqb o (Some n)) ↔ (o ≡ Some n)
option_is None n = (λ e. absurd cc, λ e. absurd cc)
option_is (Some x) n = (λ e. ap (λ (y : ℕ). Some y) (eqb-true x n e), λ e. let same : x ≡ n = cc in eq-eqb x n same)

module _ (M : Map) (s : ℕ) where
  source_there : (v d : ℕ) → Leads M Along ((s, 0) ∷ []) v d → IsTrue (has_node M s)
  source_there v d l = grind (arith, Contains-one)

  pub leads_route : (v d : ℕ) → Leads M Along ((s, 0) ∷ []) v d → (xs : List ℕ) × IsRoute M s v xs × (dm_of M xs ≡ d)
  leads_route v d l = grind (arith, Contains-one)

  pub route_leads : IsTrue (has_node M s) → (v : ℕ) (xs : List ℕ) → IsRoute M s v xs →
      Leads M Along ((s, 0) ∷ []) v (dm_of M xs)
  route_leads there v xs w =
      record { source = s; begun = 0; lines = xs; listed = Contains-here (s, 0) []; there = there; way = w; long = omega arith }

  pub distance_le : (v d : ℕ) (xs : List ℕ) → IsDistance M Along ((s, 0) ∷ []) v d → IsRoute M s v xs → d ≤ dm_of M xs
  distance_le v d xs k w = k.least (dm_of M xs) (route_leads (source_there v d k.leads) v xs w)

  -- the length of the shortest path is the distance
  pub least_long : (v d : ℕ) (xs : List ℕ) → IsDistance M Along ((s, 0) ∷ []) v d → Least M s v xs → dm_of M xs ≡ d
  least_long v d xs k l = grind (arith, leads_route v d k.leads, distance_le v d xs k, cases_lt)

  -- the last line of a route as long as the distance
  pub ends_route : (v d x : ℕ) (front : List ℕ) → IsDistance M Along ((s, 0) ∷ []) v d → IsRoute M s v (front ++ x ∷ []) →
      dm_of M (front ++ x ∷ []) ≡ d → EndsRoute M s v d x
  ends_route v d x front k w long =
      let e = last_step M s v x front w in
      let sum = dm_of-line M front x in
      record {
        known = e.known;
        to = e.to;
        before = dm_of M front;
        near = record {
          leads = route_leads (source_there v d k.leads) (start M x) front e.front;
          least = λ n l. grind (arith, leads_on M Along ((s, 0) ∷ []) x n e.known l, k.least (n + dm M x));
        };
        long = omega arith;
      }

  -- of the lines that enter a node, in ascending order, the first that ends such a route
  module _ (v d : ℕ) (lines : List ℕ) (is : lines ≡ lines_in M v) where
    pub first_is_last : (i : ℕ) → i < length lines → EndsRoute M s v d (get_or lines i 0) →
        ((j : ℕ) → j < i → ¬ EndsRoute M s v d (get_or lines j 0)) → IsLast M s v d (Some (get_or lines i 0))
    first_is_last i lt here none = record {
      ends = λ x e. let same : get_or lines i 0 ≡ x = cc in subst (EndsRoute M s v d) same here;
      least = λ x e.
          let up = subst (λ (zs : List ℕ). IsStrictlyIncreasing zs) (sym is) (ascend_in M v) in
          let j = found_at M Against v lines x is e.known e.to in
          (get_or lines i 0, refl, grind (arith, none j.0, ascends lines up i j.0));
    }

    pub none_is_last : ((j : ℕ) → j < length lines → ¬ EndsRoute M s v d (get_or lines j 0)) → IsLast M s v d None
    none_is_last none = record {
      ends = λ x e. absurd (none-some x e);
      least = λ x e. let never : ⊥ = grind (arith, none, found_at M Against v lines x is) in absurd never;
    }
