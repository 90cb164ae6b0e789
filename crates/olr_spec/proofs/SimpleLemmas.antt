-- Routes that come to no node twice: each shortest one is such a route.
use Rattle.olr_spec.proofs.Common.{inl, inr, [], ◌≡◌, ◌⊎◌, ◌≤◌, ◌<◌, ◌∷◌, ◌++◌, ap, not, has, Map, end, ℕ, List, true, refl, subst}
use Rattle.olr_spec.proofs.Common.{arith, dm_of, none_twice, and_parts, and_from, cases_Bool, map, IsRoute, IsMap}
use Rattle.olr_spec.proofs.ListLemmas.{Each, Each-cons, has_cases, has_here, has_there}
use Rattle.olr_spec.proofs.RouteLemmas.{positive}

abbrev pub IsSimple : Map → ℕ → List ℕ → Type 0
IsSimple N v ys = none_twice (v ∷ map (end N) ys) ≡ true

pub simple_tail : (N : Map) (v y : ℕ) (ys : List ℕ) → IsSimple N v (y ∷ ys) → IsSimple N (end N y) ys
simple_tail N v y ys h = (and_parts (not (has (map (end N) (y ∷ ys)) v)) (none_twice (map (end N) (y ∷ ys))) h).1

-- it comes to no line twice

end_of : (N : Map) (y : ℕ) (ys : List ℕ) → has ys y ≡ true → has (map (end N) ys) (end N y) ≡ true
end_of N y [] i = absurd cc
end_of N y (z ∷ zs) i = elim (has_cases z zs y i) [
  | inl e ↦ subst (λ k. has (end N z ∷ map (end N) zs) (end N k) ≡ true) e (has_here (end N z) (map (end N) zs))
  | inr there ↦ has_there (end N z) (map (end N) zs) (end N y) (end_of N y zs there)
]

pub simple_once : (N : Map) (v : ℕ) (ys : List ℕ) → IsSimple N v ys → none_twice ys ≡ true
simple_once N v [] h = refl
simple_once N v (y ∷ ys) h =
    let later = simple_tail N v y ys h in
    elim (cases_Bool (has ys y)) [
      | inl on ↦ absurd (grind (arith, end_of N y ys on, and_parts (not (has (map (end N) ys) (end N y))) (none_twice (map (end N) ys)) later))
      | inr off ↦ and_from (not (has ys y)) (none_twice ys) (ap not off) (simple_once N (end N y) ys later)
    ]

-- behind a part of it
pub simple_after : (N : Map) (v u : ℕ) (xs later : List ℕ) → IsRoute N v u xs → IsSimple N v (xs ++ later) → IsSimple N u later
simple_after N v u [] later w h = subst (λ k. IsSimple N k later) w h
simple_after N v u (y ∷ xs) later w h = simple_after N (end N y) u xs later w.2 (simple_tail N v y (xs ++ later) h)

-- the part of a route behind the last time that it comes to v
record After (N : Map) (v t : ℕ) (ys : List ℕ) : Type 0 where
  rest : List ℕ
  route : IsRoute N v t rest
  simple : IsSimple N v rest
  part : Each (λ x. has ys x ≡ true) rest
  least : dm_of N rest ≤ dm_of N ys

all_behind : (N : Map) (u v t : ℕ) (ys : List ℕ) → IsRoute N u t ys → IsSimple N u ys → u ≡ v → After N v t ys
all_behind N u v t ys w h e =
    record {
      rest = ys;
      route = subst (λ k. IsRoute N k t ys) e w;
      simple = subst (λ k. IsSimple N k ys) e h;
      part = λ x i. i;
      least = omega arith;
    }

behind : (N : Map) (u v t : ℕ) (ys : List ℕ) → IsRoute N u t ys → IsSimple N u ys → has (u ∷ map (end N) ys) v ≡ true → After N v t ys
behind N u v t [] w h on = grind (arith, has_cases, all_behind)
behind N u v t (y ∷ ys) w h on = elim (has_cases u (map (end N) (y ∷ ys)) v on) [
  | inl e ↦ all_behind N u v t (y ∷ ys) w h e
  | inr later ↦
      let r = behind N (end N y) v t ys w.2 (simple_tail N u y ys h) later in
      record {
        rest = r.rest;
        route = r.route;
        simple = r.simple;
        part = λ x i. has_there y ys x (r.part x i);
        least = omega (arith, r.least);
      }
]

-- each route is such a one, or a shorter one is
pub record Simple (N : Map) (v t : ℕ) (ys : List ℕ) : Type 0 where
  pub rest : List ℕ
  pub route : IsRoute N v t rest
  pub simple : IsSimple N v rest
  pub part : Each (λ x. has ys x ≡ true) rest
  pub shorter : (rest ≡ ys) ⊎ (dm_of N rest < dm_of N ys)

pub simplified : (N : Map) → IsMap N → (v t : ℕ) (ys : List ℕ) → IsRoute N v t ys → Simple N v t ys
simplified N n v t [] w = record { rest = []; route = w; simple = refl; part = λ x i. i; shorter = inl refl }
simplified N n v t (y ∷ ys) w =
    let c = simplified N n (end N y) t ys w.2 in
    let later : Each (λ x. has (y ∷ ys) x ≡ true) c.rest = λ x i. has_there y ys x (c.part x i) in
    let long = positive N n y w.0 in
    elim (cases_Bool (has (end N y ∷ map (end N) c.rest) v)) [
      | inl on ↦
          let r = behind N (end N y) v t c.rest c.route c.simple on in
          record {
            rest = r.rest;
            route = r.route;
            simple = r.simple;
            part = λ x i. later x (r.part x i);
            shorter = inr (grind (arith, c.shorter, long, r.least));
          }
      | inr off ↦ record {
        rest = y ∷ c.rest;
        route = (w.0, w.1, c.route);
        simple = and_from (not (has (end N y ∷ map (end N) c.rest) v)) (none_twice (end N y ∷ map (end N) c.rest)) (ap not off) c.simple;
        part = Each-cons (λ x. has (y ∷ ys) x ≡ true) y c.rest (has_here y ys) later;
        shorter = grind (arith, c.shorter);
      }
    ]
