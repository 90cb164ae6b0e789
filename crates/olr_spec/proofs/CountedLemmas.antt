-- The map as it counts for some lines: where it is the map, and how it counts.
use Rattle.olr_spec.proofs.Common.{◌≡◌, ℕ, ◌+◌, ◌*◌, ◌/◌, ◌≤◌, true, false, cond, List, [], ◌∷◌, refl, ap, Some, IsTrue, arith}
use Rattle.olr_spec.proofs.Common.{◌&&◌, ◌==◌, cases_eq, cases_Bool, eq-eqb, ne_eqb, get, Line, Map, has_line, line_at, start}
use Rattle.olr_spec.proofs.Common.{end, dm, has, IsRoute, eqb-true, Margin, counted, counted_dm, counted_lines, cond_both}
use Rattle.olr_spec.proofs.Common.{FinMap, nat_cmp, insert, get-insert, nat_cmp_total, unsigned_tied, ◌∙◌}

abbrev pub longer : Margin → Line → Line
longer g l = record l { len = counted_dm g l.len }

inserted : (m : FinMap nat_cmp Line) (k : ℕ) (v : Line) (q : ℕ) → get (insert m k v) q ≡ cond (q == k) (Some v) (get m q)
inserted m k v q = get-insert nat_cmp_total m k v q ∙ ap (λ b. cond b (Some v) (get m q)) (unsigned_tied q k)

pub get_counted : (g : Margin) (M : Map) (xs : List ℕ) (y : ℕ) →
    get (counted_lines g M xs) y ≡ cond (has xs y && has_line M y) (Some (longer g (line_at M y))) (get M.lines y)
get_counted g M [] y = refl
get_counted g M (x ∷ xs) y =
    grind (arith, get_counted g M xs y, inserted, cases_eq x y, eq-eqb, ne_eqb, cases_Bool (has_line M x))

-- without a margin it is the map, and so it is for no lines
pub counted_zero : (g : Margin) (M : Map) (xs : List ℕ) → g.routes ≡ 0 → counted g M xs ≡ M
counted_zero g M xs e = ap (λ r. cond (r == 0) M (record M { lines = counted_lines g M xs })) e

pub counted_nil : (g : Margin) (M : Map) → counted g M [] ≡ M
counted_nil g M = cond_both (g.routes == 0) M (record M { lines = M.lines }) (λ K. K ≡ M) (λ _. refl) (λ _. refl)

pub counted_known : (g : Margin) (M : Map) (xs : List ℕ) (y : ℕ) → has_line (counted g M xs) y ≡ has_line M y
counted_known g M xs y = grind (arith, get_counted g M xs y, cases_Bool (has xs y), cases_Bool (has_line M y), cases_Bool (g.routes == 0))

pub counted_start : (g : Margin) (M : Map) (xs : List ℕ) (y : ℕ) → start (counted g M xs) y ≡ start M y
counted_start g M xs y = grind (arith, get_counted g M xs y, cases_Bool (has xs y), cases_Bool (has_line M y), cases_Bool (g.routes == 0))

pub counted_end : (g : Margin) (M : Map) (xs : List ℕ) (y : ℕ) → end (counted g M xs) y ≡ end M y
counted_end g M xs y = grind (arith, get_counted g M xs y, cases_Bool (has xs y), cases_Bool (has_line M y), cases_Bool (g.routes == 0))

pub counted_other : (g : Margin) (M : Map) (xs : List ℕ) (y : ℕ) → has xs y ≡ false → dm (counted g M xs) y ≡ dm M y
counted_other g M xs y off = grind (arith, get_counted g M xs y, cases_Bool (has_line M y), cases_Bool (g.routes == 0))

-- without a margin a line counts as it is
pub counted_none : (g : Margin) (len : ℕ) → g.routes ≡ 0 → counted_dm g len ≡ len
counted_none g len e = omega (arith, ap (λ r. (len * r + 999) / 1000) e)

pub counted_own : (g : Margin) (M : Map) (xs : List ℕ) (y : ℕ) → IsTrue (has_line M y) → has xs y ≡ true →
    dm (counted g M xs) y ≡ counted_dm g (dm M y)
counted_own g M xs y known on = grind (arith, get_counted g M xs y, cases_Bool (g.routes == 0), eqb-true, counted_none)

pub counted_least : (g : Margin) (M : Map) (xs : List ℕ) (y : ℕ) → IsTrue (has_line M y) → dm M y ≤ dm (counted g M xs) y
counted_least g M xs y known = grind (arith, cases_Bool (has xs y), counted_other g M xs y, counted_own g M xs y)

-- ---- routes

pub counted_route : (g : Margin) (M : Map) (xs : List ℕ) (s t : ℕ) (ys : List ℕ) → IsRoute M s t ys → IsRoute (counted g M xs) s t ys
counted_route g M xs s t [] w = w
counted_route g M xs s t (y ∷ ys) w =
    grind (arith, counted_known g M xs y, counted_start g M xs y, counted_end g M xs y, counted_route g M xs (end M y) t ys w.2)

pub route_counted : (g : Margin) (M : Map) (xs : List ℕ) (s t : ℕ) (ys : List ℕ) → IsRoute (counted g M xs) s t ys → IsRoute M s t ys
route_counted g M xs s t [] w = w
route_counted g M xs s t (y ∷ ys) w = grind (arith, counted_end, counted_known, counted_start, (route_counted g M xs (end (counted g M xs) y) t ys w.2))
