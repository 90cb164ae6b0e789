-- Routes, and the shortest path.
use Rattle.olr_spec.proofs.Common.{inl, ◌≡◌, ℕ, ◌+◌, ◌<◌, ◌≤◌, List, ◌∷◌, ◌++◌, reverse, inr, refl, sym, ap, ◌∙◌, subst, arith}
use Rattle.olr_spec.proofs.Common.{IsTrue, [], cases_order, and_parts, nat_tests, reverse-append, Map, IsMap, has_node}
use Rattle.olr_spec.proofs.Common.{has_line, end, dm, IsRoute, dm_of, FirstSmaller, PrecedesInTieOrder, reverse-reverse}
use Rattle.olr_spec.proofs.Common.{append_cancel_right, ◌⊎◌, RouteLaws, LawOf}

pub positive : (M : Map) → IsMap M → (x : ℕ) → IsTrue (has_line M x) → 0 < dm M x
positive M m x h = let good = m.good x h in grind (arith, nat_tests, and_parts)

-- ---- joined routes

-- at most 10^6 dm
pub line_short : (M : Map) → IsMap M → (x : ℕ) → IsTrue (has_line M x) → dm M x ≤ 1000000
line_short M m x h = let good = m.good x h in grind (arith, nat_tests, and_parts)

pub dm_of-append : (M : Map) (xs ys : List ℕ) → dm_of M (xs ++ ys) ≡ dm_of M xs + dm_of M ys
dm_of-append M [] ys = omega arith
dm_of-append M (x ∷ xs) ys = omega (arith, dm_of-append M xs ys)

pub IsRoute-append : (M : Map) (s v t : ℕ) (xs ys : List ℕ) → IsRoute M s v xs → IsRoute M v t ys → IsRoute M s t (xs ++ ys)
IsRoute-append M s v t [] ys w u = coe 1 0 (i. IsRoute M (w i) t ys) u
IsRoute-append M s v t (x ∷ xs) ys w u = (w.0, w.1, IsRoute-append M (end M x) v t xs ys w.2 u)

-- a route to a node of the map starts at a node of the map
pub route_start : (M : Map) → IsMap M → (s v : ℕ) (xs : List ℕ) → IsRoute M s v xs → IsTrue (has_node M v) →
    IsTrue (has_node M s)
route_start M m s v [] w there = subst (λ (u : ℕ). IsTrue (has_node M u)) (sym w) there
route_start M m s v (x ∷ xs) w there = subst (λ (u : ℕ). IsTrue (has_node M u)) w.1 (m.starts x w.0)

pub IsRoute-split : (M : Map) (s t : ℕ) (xs ys : List ℕ) → IsRoute M s t (xs ++ ys) → (v : ℕ) × IsRoute M s v xs
    × IsRoute M v t ys
IsRoute-split M s t [] ys w = (s, refl, w)
IsRoute-split M s t (x ∷ xs) ys w = let r = IsRoute-split M (end M x) t xs ys w.2 in (r.0, (w.0, w.1, r.1), r.2)

pub longer : LawOf (λ (l : RouteLaws). l.no_longer_suffix)
longer M m s t [] xs w e = refl
longer M m s t (x ∷ front) xs w e = absurd (omega (arith, positive M m x w.0, dm_of-append M front xs))

-- ---- the first difference

-- how two lists compare
data Compared (xs ys : List ℕ) : Type 0 where
  below : FirstSmaller xs ys → Compared xs ys
  above : FirstSmaller ys xs → Compared xs ys
  shorter : (rest : List ℕ) → ys ≡ xs ++ rest → Compared xs ys
  as_long : (rest : List ℕ) → xs ≡ ys ++ rest → Compared xs ys

cons_compared : (x : ℕ) (xs ys : List ℕ) → Compared xs ys → Compared (x ∷ xs) (x ∷ ys)
cons_compared x xs ys (below h) = below (inr (refl, h))
cons_compared x xs ys (above h) = above (inr (refl, h))
cons_compared x xs ys (shorter rest e) = shorter rest (ap (λ (zs : List ℕ). x ∷ zs) e)
cons_compared x xs ys (as_long rest e) = as_long rest (ap (λ (zs : List ℕ). x ∷ zs) e)

compare_lists : (xs ys : List ℕ) → Compared xs ys
compare_lists [] ys = shorter ys refl
compare_lists (x ∷ xs) [] = as_long (x ∷ xs) refl
compare_lists (x ∷ xs) (y ∷ ys) = elim (cases_order x y) [
  | inl e ↦ subst (λ (z : ℕ). Compared (x ∷ xs) (z ∷ ys)) e (cons_compared x xs ys (compare_lists xs ys))
  | inr o ↦ elim o [ inl h ↦ below (inl h) | inr h ↦ above (inl h) ]
]

not_self : (xs : List ℕ) → ¬ FirstSmaller xs xs
not_self [] h = h
not_self (x ∷ xs) h = grind (arith, not_self xs)

with_front : (zs xs ys : List ℕ) → FirstSmaller xs ys → FirstSmaller (zs ++ xs) (zs ++ ys)
with_front [] xs ys h = h
with_front (z ∷ zs) xs ys h = inr (refl, with_front zs xs ys h)

pub nothing_below_nil : (xs : List ℕ) → ¬ FirstSmaller xs []
nothing_below_nil [] h = h
nothing_below_nil (x ∷ xs) h = h

-- ---- the shortest path

pub not_before_itself : (M : Map) (xs : List ℕ) → ¬ PrecedesInTieOrder M xs xs
not_before_itself M xs h = grind (arith, not_self)

-- a route that ends as an equally long one does is this one
same_end : (M : Map) → IsMap M → (s t : ℕ) (xs ys rest : List ℕ) → reverse ys ≡ reverse xs ++ rest → IsRoute M s t ys →
    dm_of M ys ≡ dm_of M xs → ys ≡ xs
same_end M m s t xs ys rest is w e =
    let split = sym (reverse-reverse ys) ∙ ap (λ (zs : List ℕ). reverse zs) is ∙ reverse-append (reverse xs) rest
    ∙ ap (λ (zs : List ℕ). reverse rest ++ zs) (reverse-reverse xs) in
    let none = longer M m s t (reverse rest) xs (coe 0 1 (i. IsRoute M s t (split i)) w) (ap (dm_of M) (sym split) ∙ e) in
    split ∙ ap (λ (zs : List ℕ). zs ++ xs) none

pub one_least : LawOf (λ (l : RouteLaws). l.one_least)
one_least M m s t xs ys l k =
    let p = k.first xs l.route in
    let q = l.first ys k.route in
    let compared = compare_lists (reverse xs) (reverse ys) in
    let there = λ (rest : List ℕ) (is : reverse ys ≡ reverse xs ++ rest). same_end M m s t xs ys rest is k.route in
    let here = λ (rest : List ℕ) (is : reverse xs ≡ reverse ys ++ rest). same_end M m s t ys xs rest is l.route in
    grind (arith, cases_order (dm_of M xs) (dm_of M ys), compared, there, here, p, q)

pub prefix_of_least : LawOf (λ (l : RouteLaws). l.prefix_of_least)
prefix_of_least M s v t xs ys l w u = grind (arith, IsRoute-append, dm_of-append, reverse-append, with_front)

pub empty_least : LawOf (λ (l : RouteLaws). l.empty_is_least)
empty_least M s = grind (arith, nothing_below_nil)

-- ---- the unique shortest path

pub empty_unique : LawOf (λ (l : RouteLaws). l.empty_is_unique)
empty_unique M m s = record { route = refl; others = elim [ [] ↦ λ w ne. absurd (ne refl) | y ∷ ys ↦ λ w ne. omega (arith, positive M m y w.0) ] }

pub unique_least : LawOf (λ (l : RouteLaws). l.unique_is_least)
unique_least M s t xs o = grind (arith, not_before_itself)

pub prefix_of_unique : LawOf (λ (l : RouteLaws). l.prefix_of_unique)
prefix_of_unique M s v t xs ys o w u = grind (arith, IsRoute-append, append_cancel_right, dm_of-append)

-- of routes from their ends the last lines are compared first
pub last_first : (xs ys : List ℕ) (x y : ℕ) → FirstSmaller (reverse (xs ++ x ∷ [])) (reverse (ys ++ y ∷ [])) → (x < y)
    ⊎ ((x ≡ y) × FirstSmaller (reverse xs) (reverse ys))
last_first xs ys x y h = grind (arith, reverse-append)
