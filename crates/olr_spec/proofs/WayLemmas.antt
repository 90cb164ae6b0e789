-- Lines that join are routes between the positions along them, and an extended path's lines join.
use Rattle.olr_spec.proofs.Common.{◌≡◌, ◌<◌, ◌≤◌, ◌-◌, ◌+◌, ℕ, zero, suc, List, ◌∷◌, take, drop, refl, sym, Map, start, end}
use Rattle.olr_spec.proofs.Common.{length, arith, length-drop, [], get_or-drop, slice_index, IsRoute, stretch, IsTrue, has_line}
use Rattle.olr_spec.proofs.ListLemmas.{Each, Each-nil, Each-cons}

-- each line of a route is on the map
pub route_known : (M : Map) (s t : ℕ) (xs : List ℕ) → IsRoute M s t xs → Each (λ x. IsTrue (has_line M x)) xs
route_known M s t [] w = Each-nil (λ x. IsTrue (has_line M x))
route_known M s t (x ∷ xs) w = Each-cons (λ x. IsTrue (has_line M x)) x xs w.0 (route_known M (end M x) t xs w.2)

-- from line p on
pub way_from : (M : Map) (s t : ℕ) (ls : List ℕ) (p : ℕ) → IsRoute M s t ls → p < length ls
    → IsRoute M (start M (slice_index ls p)) t (drop p ls)
way_from M s t [] p w h = absurd (omega arith)
way_from M s t (x ∷ ls) zero w h = (w.0, refl, w.2)
way_from M s t (x ∷ ls) (suc p) w h = way_from M (end M x) t ls p w.2 (omega arith)

-- up to line n
pub way_to : (M : Map) (s t : ℕ) (ls : List ℕ) (n : ℕ) → IsRoute M s t ls → n < length ls
    → IsRoute M s (start M (slice_index ls n)) (take n ls)
way_to M s t [] n w h = absurd (omega arith)
way_to M s t (x ∷ ls) zero w h = sym w.1
way_to M s t (x ∷ ls) (suc n) w h = (w.0, w.1, way_to M (end M x) t ls n w.2 (omega arith))

pub way_between : (M : Map) (s t : ℕ) (ls : List ℕ) (p q : ℕ) → IsRoute M s t ls → p ≤ q → q < length ls
    → IsRoute M (start M (slice_index ls p)) (start M (slice_index ls q)) (stretch ls p q)
way_between M s t ls p q w h g =
    grind (arith, (way_to M (start M (slice_index ls p)) t (drop p ls) (q - p)), length-drop, way_from, get_or-drop)

pub next_start : (M : Map) (s t : ℕ) (ls : List ℕ) (p : ℕ) → IsRoute M s t ls → p + 1 < length ls
    → end M (slice_index ls p) ≡ start M (slice_index ls (p + 1))
next_start M s t [] p w h = absurd (omega arith)
next_start M s t (x ∷ []) p w h = absurd (omega arith)
next_start M s t (x ∷ y ∷ ls) zero w h = sym w.2.1
next_start M s t (x ∷ y ∷ ls) (suc p) w h = grind (arith, (next_start M (end M x) t (y ∷ ls) p w.2 (omega arith)))
