-- The worked rows on margins.
use Rattle.olr_spec.proofs.Common.{◌≡◌, ◌≢◌, ℕ, ◌<◌, ◌≤◌, List, [], ◌∷◌, refl, sym, ap, ◌∙◌, IsTrue, arith, ◌||◌}
use Rattle.olr_spec.proofs.Common.{◌==◌, not, Map, IsMap, has_line, start, end, dm, dm_of, IsRoute, UniqueShortest, or_cases}
use Rattle.olr_spec.proofs.Common.{◌⊎◌, eqb-true, eq-eqb, CoveredWith, length, first, not-true}
use Rattle.olr_spec.specs.Margins.{counted, counted_dm}
use Rattle.olr_spec.proofs.RouteLemmas.{positive}
use Rattle.olr_spec.proofs.CountedLemmas.{counted_own, counted_other, counted_route}
use Rattle.olr_laws.specs.Rows.{fifty, row_nodes, roads, roads_records, roads_path, loop_map, loop_records, loop_path}
use Rattle.olr_laws.proofs.MapLemmas.{sound, line_at_is, line_in, leg_in, each_line, IsRoad, long, road}

-- a rival that is no longer
beaten : (M : Map) (s t : ℕ) (xs ys : List ℕ) → IsRoute M s t ys → ys ≢ xs → dm_of M ys ≤ dm_of M xs → ¬ UniqueShortest M s t xs
beaten M s t xs ys w ne le u = absurd (omega (arith, u.others ys w ne, le))

module _ (a b : ℕ) where
  own : IsRoad (roads a b) 20 (leg_in row_nodes (roads_records a b) 20) 2 3
  own = road row_nodes (roads_records a b) tt tt 20 2 3 (refl, refl, refl)

  other : IsRoad (roads a b) 21 (leg_in row_nodes (roads_records a b) 21) 2 3
  other = road row_nodes (roads_records a b) tt tt 21 2 3 (refl, refl, refl)

  lengths : (dm (roads a b) 20 ≡ a) × (dm (roads a b) 21 ≡ b)
  lengths = (long own, long other)

  route21 : IsRoute (roads a b) 2 3 (21 ∷ [])
  route21 = (other.known, other.from, other.to)

not_20 : ◌≢◌ {A = List ℕ} (21 ∷ []) (20 ∷ [])
not_20 e = let n : 21 ≡ 20 = ap first e in omega (arith, n)

-- on the partner's map line 21 is shorter
pub elsewhere_other : ¬ UniqueShortest (roads 1012 1005) 2 3 (20 ∷ [])
elsewhere_other =
    beaten (roads 1012 1005) 2 3 (20 ∷ []) (21 ∷ []) (route21 1012 1005) not_20 (omega (arith, (lengths 1012 1005).0, (lengths 1012 1005).1))

-- where line 20 counts longer, it isn't covered
pub not_covered : ¬ CoveredWith fifty (roads 1000 1010) roads_path 0 3
not_covered c =
    let M = roads 1000 1010 in
    let K = counted fifty M (20 ∷ []) in
    let at = road row_nodes (roads_records 1000 1010) tt tt in
    let first = at 10 1 2 (refl, refl, refl) in
    let third = at 30 3 4 (refl, refl, refl) in
    let u : UniqueShortest K (end M 10) (start M 30) (20 ∷ []) = c (omega arith) in
    let here : UniqueShortest K 2 3 (20 ∷ []) = coe 0 1 (i. UniqueShortest K (first.to i) (third.from i) (20 ∷ [])) u in
    let mine : dm K 20 ≡ 1050 = counted_own fifty M (20 ∷ []) 20 (own 1000 1010).known refl ∙ ap (counted_dm fifty) (lengths 1000 1010).0 in
    let its : dm K 21 ≡ 1010 = counted_other fifty M (20 ∷ []) 21 refl ∙ (lengths 1000 1010).1 in
    beaten K 2 3 (20 ∷ []) (21 ∷ []) (counted_route fifty M (20 ∷ []) 2 3 (21 ∷ []) (route21 1000 1010)) not_20 (omega (arith, mine, its)) here

here_sound : IsMap (roads 1000 1010)
here_sound = sound row_nodes (roads_records 1000 1010) tt tt refl refl

-- the lines that leave node 2
from_2 : (y : ℕ) → IsTrue (has_line (roads 1000 1010) y) → start (roads 1000 1010) y ≡ 2 → (y ≡ 20) ⊎ (y ≡ 21)
from_2 y h from =
    let all = each_line row_nodes (roads_records 1000 1010) tt tt
    (λ y. not ((line_in (roads_records 1000 1010) y).from == 2) || (y == 20 || y == 21)) refl y h in
    grind (arith, or_cases, eqb-true, eq-eqb, not-true, line_at_is row_nodes (roads_records 1000 1010) tt tt y)

after_20 : (y : ℕ) (ys : List ℕ) → y ≡ 20 → IsRoute (roads 1000 1010) (end (roads 1000 1010) y) 3 ys → y ∷ ys ≢ 20 ∷ [] →
    dm_of (roads 1000 1010) (20 ∷ []) < dm_of (roads 1000 1010) (y ∷ ys)
after_20 y [] e w ne = absurd (ne (ap (λ z. z ∷ []) e))
after_20 y (z ∷ zs) e w ne =
    omega (arith, ap (dm (roads 1000 1010)) e, positive (roads 1000 1010) here_sound z w.0)

others_longer : (ys : List ℕ) → IsRoute (roads 1000 1010) 2 3 ys → ys ≢ 20 ∷ [] →
    dm_of (roads 1000 1010) (20 ∷ []) < dm_of (roads 1000 1010) ys
others_longer [] w ne = absurd (omega (arith, w))
others_longer (y ∷ ys) w ne =
    grind (arith, from_2 y w.0 w.1, after_20 y ys, (lengths 1000 1010).0, (lengths 1000 1010).1)

-- without a margin it is: line 21 is longer
pub covered_without : UniqueShortest (roads 1000 1010) 2 3 (20 ∷ [])
covered_without = record { route = ((own 1000 1010).known, (own 1000 1010).from, (own 1000 1010).to); others = others_longer }

-- a loop: only the lines between count longer
pub loop_not_covered : ¬ CoveredWith fifty loop_map loop_path 0 2
loop_not_covered c =
    let at = road row_nodes loop_records tt tt in
    let l10 = at 10 1 2 (refl, refl, refl) in
    let l11 = at 11 2 3 (refl, refl, refl) in
    let l12 = at 12 3 4 (refl, refl, refl) in
    let l14 = at 14 2 5 (refl, refl, refl) in
    let l15 = at 15 5 3 (refl, refl, refl) in
    let K = counted fifty loop_map (11 ∷ []) in
    let u : UniqueShortest K 2 3 (11 ∷ []) = coe 0 1 (i. UniqueShortest K (l10.to i) (l12.from i) (11 ∷ [])) (c (omega arith)) in
    let mine : dm K 11 ≡ 105 = counted_own fifty loop_map (11 ∷ []) 11 l11.known refl ∙ ap (counted_dm fifty) (long l11) in
    let first : dm K 14 ≡ 49 = counted_other fifty loop_map (11 ∷ []) 14 refl ∙ long l14 in
    let second : dm K 15 ≡ 51 = counted_other fifty loop_map (11 ∷ []) 15 refl ∙ long l15 in
    let way : IsRoute loop_map 2 3 (14 ∷ 15 ∷ []) = (l14.known, l14.from, (l15.known, l15.from ∙ sym l14.to, l15.to)) in
    beaten K 2 3 (11 ∷ []) (14 ∷ 15 ∷ []) (counted_route fifty loop_map (11 ∷ []) 2 3 (14 ∷ 15 ∷ []) way)
    (λ e. let n = ap (λ (xs : List ℕ). length xs) e in absurd (omega (arith, n))) (omega (arith, mine, first, second)) u
