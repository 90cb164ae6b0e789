-- A test of each line of a route: whether it extends a shortest path, or a unique one.
use Rattle.olr_route.proofs.Common.{ℕ, zero, suc, ◌+◌, ◌<◌, ◌≤◌, ◌↔◌, List, [], ◌∷◌, ◌++◌, Bool, true, false, refl, IsTrue, sym}
use Rattle.olr_route.proofs.Common.{subst, arith, length, Map, IsMap, start, end, dm, IsRoute, dm_of, LeastWithin, one_least}
use Rattle.olr_route.proofs.Common.{prefix_of_least, false≢true, append-nil, AllWithin, HoldsAt, dm_of-append}
use Rattle.std.proofs.Common.{append_assoc, MatchBool}
use Rattle.olr_search.proofs.RouteEnds.{last_step, route_on, dm_of-line}

-- if the shortest path ends with line x, the line extends the one to its start
pub same_front : (M : Map) → IsMap M → (s limit x : ℕ) (route front : List ℕ) → LeastWithin M s limit (start M x) route →
    LeastWithin M s limit (end M x) (front ++ x ∷ []) → LeastWithin M s limit (end M x) (route ++ x ∷ [])
same_front M m s limit x route front short whole =
    grind (
      arith,
      last_step M s (end M x) x front,
      prefix_of_least M s (start M x) (end M x) front (x ∷ []),
      one_least M m s (start M x) front route,
    )

-- so each prefix of a shortest path is one
pub prefix_within : (M : Map) (s limit v t : ℕ) (xs ys : List ℕ) → LeastWithin M s limit t (xs ++ ys) →
    IsRoute M s v xs → IsRoute M v t ys → LeastWithin M s limit v xs
prefix_within M s limit v t xs ys l w u =
    record { least = prefix_of_least M s v t xs ys l.least w u; within = omega (arith, l.within, dm_of-append M xs ys) }

-- P says what of a route from s is tested: if it is true of a route, it is true of each prefix
module _ (M : Map) (s most : ℕ) (P : ℕ → List ℕ → Type 0)
    (prefix : (v t : ℕ) (xs ys : List ℕ) → P t (xs ++ ys) → IsRoute M s v xs → IsRoute M v t ys → P v xs) where
  -- what a test of line x decides, of each route to its start
  abbrev Tested : (Type 0 → Type 0) → ℕ → Type 0
  Tested F x =
      (front : List ℕ) → P (start M x) front → dm_of M front + dm M x ≤ most → F (P (end M x) (front ++ x ∷ []))

  abbrev pub Extends : ℕ → Type 0
  Extends = Tested (λ A. A)

  abbrev pub Stops : ℕ → Type 0
  Stops = Tested (λ A. ¬ A)

  extended : (ys : List ℕ) (v t : ℕ) (xs : List ℕ) → P v xs → IsRoute M v t ys → dm_of M xs + dm_of M ys ≤ most →
      AllWithin Extends ys 0 (length ys) → P t (xs ++ ys)
  extended [] v t xs p w le all = subst (P t) (sym (append-nil xs)) (subst (λ (u : ℕ). P u xs) w p)
  extended (y ∷ ys) v t xs p w le all =
      let on = all 0 0 (omega arith) (omega arith) xs (subst (λ (u : ℕ). P u xs) (sym w.1) p) (omega arith) in
      subst (P t) (append_assoc xs (y ∷ []) ys) (extended ys (end M y) t (xs ++ y ∷ []) on w.2
      (omega (arith, dm_of-line M xs y)) (λ k d low lt. all (suc k) d (omega arith) (omega arith)))

  stopped : (ys : List ℕ) (k v t : ℕ) (xs : List ℕ) → IsRoute M s v xs → IsRoute M v t ys →
      dm_of M xs + dm_of M ys ≤ most → k < length ys → HoldsAt Stops ys k → ¬ P t (xs ++ ys)
  stopped [] k v t xs w u le lt bad p = absurd (omega arith)
  stopped (y ∷ ys) zero v t xs w u le lt bad p =
      grind (arith, bad 0 xs, prefix (start M y) t xs (y ∷ ys), prefix (end M y) t (xs ++ y ∷ []) ys, route_on, append_assoc)
  stopped (y ∷ ys) (suc k) v t xs w u le lt bad p =
      grind (arith, stopped ys k (end M y) t (xs ++ y ∷ []), route_on, dm_of-line, append_assoc, bad)

  -- the result of testing each line of a route
  pub tested : (r : Bool) (t : ℕ) (ys : List ℕ) → P s [] → IsRoute M s t ys → dm_of M ys ≤ most →
      MatchBool r (AllWithin Extends ys 0 (length ys)) ((k : ℕ) × (k < length ys) × HoldsAt Stops ys k) →
      IsTrue r ↔ P t ys
  tested true t ys none w le all = (λ _. extended ys s t [] none w (omega arith) all, λ _. refl)
  tested false t ys none w le bad = (
    λ e. absurd (false≢true e),
    λ p. absurd (stopped ys bad.0 s t [] refl w (omega arith) bad.1 bad.2 p),
  )
