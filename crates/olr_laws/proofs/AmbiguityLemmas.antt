-- A string in whose way nothing stands is distinct for both kinds of receivers; and where a node isn't farther by the test,
-- there is a measure by which it isn't.
use Rattle.olr_spec.proofs.Common.{◌≡◌, ◌≢◌, suc, ◌+◌, ◌*◌, ◌<◌, ◌||◌, ◌==◌, ◌≤◌, ◌⊎◌, not, ◌∷◌, map, sym, ◌∙◌, Map, ◌-ℤ◌, ints}
use Rattle.olr_spec.proofs.Common.{[], ℕ, ℤ, ap, has, end, Leg, leg, ◌-◌, max, pos, cond, List, ◌++◌, Some, refl, None, Path}
use Rattle.olr_spec.proofs.Common.{legs, Side, ◌&&◌, zero, Bool, true, false, Coord, arith, eq-eqb, ne_eqb, lt-ltb, le-ltb}
use Rattle.olr_spec.proofs.Common.{IsMap, start, Points, nat_lt, filter, length, IsTrue, or_left, line_at, is_path, Measure}
use Rattle.olr_spec.proofs.Common.{node_on, has_line, has_node, nat_abs, IsFalse, or_parts, list_any, option_map, cases_Bool}
use Rattle.olr_spec.proofs.Common.{and_parts, path_fault, candidates, is_nearest, has_no_twin, slice_get, slice_index}
use Rattle.olr_spec.proofs.Common.{list_any_at, extended_path, EncodingWith, kept_points, coordinate_on, cases_eq, or_cases}
use Rattle.olr_spec.proofs.Common.{or_right, and_from, eqb-true, ltb-true, Reference, not-false, ltb-false, LawOf}
use Rattle.olr_spec.specs.Margins.{Margin}
use Rattle.olr_spec.specs.Receiver.{Outgoing, Incoming, sector_on, are_twins, decoded_coord, last_number}
use Rattle.olr_spec.specs.Recovery.{IsLineAtWith, OwnLinesWith, DistinctWith, own_lines, lon_apart, lat_apart, Weighted, line_by}
use Rattle.olr_spec.specs.Directions.{direction_on, is_direction, is_beyond}
use Rattle.olr_spec.specs.Ambiguity.{least_cosine, is_farther, is_outdone_for_all, obstacles_at, obstacles_from, thousandths_up}
use Rattle.olr_spec.specs.Ambiguity.{usual_slack, lines_on, all_nodes, is_twin_of, is_unclear, side_at, obstacles, cosine_up_to}
use Rattle.olr_spec.specs.Ambiguity.{Obstacle, is_rival}
use Rattle.olr_spec.proofs.Facts.{at_index, filter_has, exactly_in, exactly_out, has-all_nodes, known_record}
use Rattle.olr_spec.proofs.FitLemmas.{by_answer}
use Rattle.olr_spec.proofs.DecodedLemmas.{Kept}
use Rattle.olr_spec.proofs.ReceiverLemmas.{same_path, size}
use Rattle.olr_laws.specs.ReceiverLaws.{AtEachLrp, is_outdone, stands_out, DistinctByDirection, IsWeightedByLatitude}
use Rattle.olr_laws.specs.ReceiverLaws.{StringLaws, ReceiverLaws}
use Rattle.olr_laws.proofs.ReceiverLemmas.{got_index, every_candidate, outdone_of, same_place, IsOwn, own_lines_are, farther_by}
use Rattle.std.proofs.Math.Nat.{div-le_of_le-mul, mul-le-mul_left}

-- ---- lists without elements

append_none : {X : Type 0} → (xs ys : List X) → xs ++ ys ≡ [] → (xs ≡ []) × (ys ≡ [])
append_none {X} [] ys e = (refl, e)
append_none {X} (x ∷ xs) ys e = absurd cc

map_none : {X Y : Type 0} → (f : X → Y) (xs : List X) → map f xs ≡ [] → xs ≡ []
map_none {X} {Y} f [] e = refl
map_none {X} {Y} f (x ∷ xs) e = absurd cc

none_passes : (p : ℕ → Bool) (xs : List ℕ) → filter p xs ≡ [] → (x : ℕ) → has xs x ≡ true → p x ≡ false
none_passes p xs none x h = grind (arith, cases_Bool (p x), filter_has p xs x h)

none_of_any : (p : ℕ → Bool) (xs : List ℕ) → list_any p xs ≡ false → (x : ℕ) → has xs x ≡ true → p x ≡ false
none_of_any p xs none x h = let at = at_index xs x h in grind (arith, cases_Bool (p x), list_any_at p xs at.0 0 at.1)

-- ---- one LRP

-- each line is among those on its side of its node
on_side : (M : Map) (s : Side) (y : ℕ) → IsTrue (has_line M y) → has (lines_on s M (node_on s (leg M y))) y ≡ true
on_side M Outgoing y h = (exactly_out M (start M y) y).1 (line_at M y, (known_record M y h, refl))
on_side M Incoming y h = (exactly_in M (end M y) y).1 (line_at M y, (known_record M y h, refl))

node_known : (M : Map) → IsMap M → (s : Side) (y : ℕ) → IsTrue (has_line M y) → IsTrue (has_node M (node_on s (leg M y)))
node_known M m Outgoing y h = m.starts y h
node_known M m Incoming y h = m.ends y h

module _ (M : Map) (m : IsMap M) (s : Side) (p : ℤ × ℤ) (x : ℕ) (known : IsTrue (has_line M x))
    (none : obstacles_at M s p x ≡ []) where
  abbrev g : Leg
  g = leg M x

  abbrev ys : List ℕ
  ys = lines_on s M (node_on s g)

  parts_none : (filter (is_twin_of M s x) ys ≡ []) × (filter (is_unclear M s x) ys ≡ [])
      × (filter (is_rival M s p x) (all_nodes M) ≡ [])
  parts_none = grind (arith, append_none {X = Obstacle}, map_none {X = ℕ} {Y = Obstacle})

  here : (y : ℕ) → IsTrue (has_line M y) → node_on s (leg M y) ≡ node_on s g → has ys y ≡ true
  here y h e = ap (λ (v : ℕ). has (lines_on s M v) y) (sym e) ∙ on_side M s y h

  -- another line at the node is no twin, and is beyond the margin
  twins_meet : (y : ℕ) → are_twins s g (leg M y) ≡ true → node_on s (leg M y) ≡ node_on s g
  twins_meet y is = grind (arith, and_parts, eqb-true)

  not_twin : (y : ℕ) → IsTrue (has_line M y) → y ≢ x → are_twins s g (leg M y) ≡ false
  not_twin y h n =
      let none_there = none_passes (is_twin_of M s x) ys parts_none.0 y in
      grind (arith, cases_Bool (are_twins s g (leg M y)), twins_meet y, here y h, none_there, ne_eqb y x n)

  beyond_here : (y : ℕ) → IsTrue (has_line M y) → y ≢ x → node_on s (leg M y) ≡ node_on s g →
      is_beyond (sector_on s g) (direction_on s (leg M y)) ≡ true
  beyond_here y h n at =
      grind (arith, cases_Bool, not_twin y h n, none_passes (is_unclear M s x) ys parts_none.1 y (here y h at), ne_eqb y x n)

  has_direction : is_direction (direction_on s g) ≡ true
  has_direction = grind (arith, cases_Bool, none_passes (is_unclear M s x) ys parts_none.1 x (here x known refl), eq-eqb)

  -- a line at another node is outdone
  outdone_there : (y : ℕ) → IsTrue (has_line M y) → node_on s (leg M y) ≢ node_on s g → is_outdone_for_all s p g (leg M y) ≡ true
  outdone_there y h n =
      let w = node_on s (leg M y) in
      let on : has (all_nodes M) w ≡ true = has-all_nodes M w ∙ node_known M m s y h in
      let other = λ (z : ℕ). not (is_outdone_for_all s p g (leg M z)) in
      let none : list_any other (lines_on s M w) ≡ false =
      sym (ap (λ (b : Bool). not b && list_any other (lines_on s M w)) (ne_eqb w (node_on s g) n))
      ∙ none_passes (is_rival M s p x) (all_nodes M) parts_none.2 w on in
      not-false _ (none_of_any other (lines_on s M w) none y (on_side M s y h))

  module _ (scale : ℕ) (far : Measure) (unit : 0 < scale) (all : (y : ℕ) → IsTrue (has_line M y) →
      Weighted (least_cosine p (coordinate_on s (leg M y))) 1000000 scale far p (coordinate_on s (leg M y))) where
    farther_there : (e y : ℕ) → IsTrue (has_line M y) → is_farther e p (coordinate_on s g) (coordinate_on s (leg M y)) ≡ true →
        far p (coordinate_on s g) + scale * e < far p (coordinate_on s (leg M y))
    farther_there e y h f =
        let own = coordinate_on s g in
        let other = coordinate_on s (leg M y) in
        farther_by (least_cosine p own) (least_cosine p other) 1000000 scale e far p own other unit (all x known) (all y h)
        (grind (arith, or_cases, ltb-true))

    -- by more than the slack, or with a direction beyond the margin
    farther_or : (y : ℕ) → IsTrue (has_line M y) → node_on s (leg M y) ≢ node_on s g →
        (far p (coordinate_on s g) + scale * usual_slack < far p (coordinate_on s (leg M y)))
        ⊎ ((far p (coordinate_on s g) < far p (coordinate_on s (leg M y))) × (is_beyond (sector_on s g) (direction_on s (leg M y)) ≡ true))
    farther_or y h n =
        grind (arith, outdone_there y h n, or_cases, and_parts, farther_there usual_slack y h, farther_there 0 y h)

    nearest_here : IsTrue (is_nearest far s p g (candidates M))
    nearest_here =
        every_candidate M (λ c. node_on s c.1 == node_on s g || nat_lt (far p (coordinate_on s g)) (far p (coordinate_on s c.1)))
        (λ y h. grind (arith, cases_eq (node_on s (leg M y)) (node_on s g), or_left, or_right, eq-eqb, lt-ltb, farther_or y h))

    alone_here : IsTrue (has_no_twin s x g (candidates M))
    alone_here =
        every_candidate M (λ c. c.0 == x || not (are_twins s g c.1))
        (λ y h. grind (arith, cases_eq y x, or_left, or_right, eq-eqb, not_twin y h))

    stands_here : (slack : ℕ) → slack ≤ scale * usual_slack → IsTrue (stands_out far slack s p x g (candidates M))
    stands_here slack few =
        and_from (is_direction (direction_on s g)) _ has_direction
        (every_candidate M (λ c. c.0 == x || is_outdone far slack s p g c.1)
        (λ y h. grind (
          arith,
          cases_eq y x,
          cases_eq (node_on s (leg M y)) (node_on s g),
          or_left,
          or_right,
          eq-eqb,
          outdone_of slack,
          same_place M s x y,
          beyond_here y h,
          farther_or y h,
          few,
        )))

-- ---- all LRPs

clear_from : (M : Map) (r : Reference) (k : ℕ) (xs : List ℕ) → obstacles_from M r k xs ≡ [] → (j n x : ℕ) → n ≡ k + j →
    slice_get xs j ≡ Some x → obstacles_at M (side_at r n) (decoded_coord r n) x ≡ []
clear_from M r k [] none j n x e at = absurd cc
clear_from M r k (y ∷ xs) none zero n x e at =
    let same : n ≡ k = omega arith in
    let line : x ≡ y = cc at in
    (λ i. obstacles_at M (side_at r (same i)) (decoded_coord r (same i)) (line i))
    ∙ map_none (λ o. (k, o)) _ (append_none _ (obstacles_from M r (suc k) xs) none).0
clear_from M r k (y ∷ xs) none (suc j) n x e at =
    let rest = (append_none (map (λ o. (k, o)) (obstacles_at M (side_at r k) (decoded_coord r k) y)) _ none).1 in
    clear_from M r (suc k) xs rest j n x (omega arith) at

own_out : (ls ks : List ℕ) (k : ℕ) → k + 1 < length ks →
    slice_get (own_lines ls ks) k ≡ Some (line_by Outgoing ls (slice_index ks k))
own_out ls (i ∷ j ∷ ks) zero lt = refl
own_out ls (i ∷ j ∷ ks) (suc k) lt = own_out ls (j ∷ ks) k (omega arith)
own_out ls _ k lt = absurd (omega arith)

own_in : (ls ks : List ℕ) (k : ℕ) → k + 1 ≡ length ks →
    slice_get (own_lines ls ks) k ≡ Some (line_by Incoming ls (slice_index ks k))
own_in ls (i ∷ []) zero lt = refl
own_in ls (i ∷ j ∷ ks) (suc k) lt = own_in ls (j ∷ ks) k (omega arith)
own_in ls _ k lt = absurd (omega arith)

module _ {g : Margin} (M : Map) (m : IsMap M) (P : Path) (is : IsTrue (is_path P.lines)) (sound : path_fault M P ≡ None)
    (r : Reference) (e : EncodingWith g M P (Points r)) (xs : List ℕ) (own : OwnLinesWith g M P xs) (none : obstacles M r xs ≡ [])
    (scale : ℕ) (far : Measure) (w : IsWeightedByLatitude scale far M r) (slack : ℕ) (few : slack ≤ scale * usual_slack) where
  abbrev Lines : List ℕ
  Lines = (extended_path M P e.before e.after).lines

  abbrev Points_kept : List ℕ
  Points_kept = Kept M P is sound r e

  lines_are : xs ≡ own_lines Lines Points_kept
  lines_are = same_path M m P is sound r e (λ E js. xs ≡ own_lines E.lines (kept_points (legs M E.lines) E.pos E.neg js)) own

  at_point : (s : Side) (k x : ℕ) → IsLineAtWith g M P s k x → (k < length Points_kept) × (line_by s Lines (slice_index Points_kept k) ≡ x)
  at_point s k x at =
      got_index (line_by s Lines) Points_kept k x
      (same_path M m P is sound r e (λ E js. option_map (line_by s E.lines) (slice_get (kept_points (legs M E.lines) E.pos E.neg js) k) ≡ Some x) at)

  clear : (s : Side) (k x : ℕ) → side_at r k ≡ s → slice_get (own_lines Lines Points_kept) k ≡ Some (line_by s Lines (slice_index Points_kept k)) →
      IsLineAtWith g M P s k x → obstacles_at M s (decoded_coord r k) x ≡ []
  clear s k x side own at =
      let line : slice_get xs k ≡ Some x =
      ap (λ (zs : List ℕ). slice_get zs k) lines_are ∙ own ∙ ap (λ (z : ℕ). Some z) (at_point s k x at).1 in
      (λ i. obstacles_at M (sym side i) (decoded_coord r k) x) ∙ clear_from M r 0 xs none k k x (omega arith) line

  -- the path's line x at LRP k is the nearest one without a twin, and stands out
  abbrev Distinguished : Side → ℕ → ℕ → Type 0
  Distinguished s k x =
      IsTrue (is_nearest far s (decoded_coord r k) (leg M x) (candidates M)) × IsTrue (has_no_twin s x (leg M x) (candidates M))
      × IsTrue (stands_out far slack s (decoded_coord r k) x (leg M x) (candidates M))

  at_lrp : (s : Side) (k x : ℕ) → IsOwn M r s k x → obstacles_at M s (decoded_coord r k) x ≡ [] → Distinguished s k x
  at_lrp s k x own none =
      let p = decoded_coord r k in
      let all = λ (y : ℕ) (h : IsTrue (has_line M y)). w.all s k y own.up h in (
        nearest_here M m s p x own.known none scale far w.unit all,
        alone_here M m s p x own.known none scale far w.unit all,
        stands_here M m s p x own.known none scale far w.unit all slack few,
      )

  at_each : AtEachLrp g M P r Distinguished
  at_each =
      let lines = own_lines_are M m P is sound r e in
      let long = size M m P is sound r e in
      let last = last_number r in
      record {
        outgoing = λ k x lt at. at_lrp Outgoing k x (lines.outgoing k x lt at) (clear Outgoing k x
            (ap (λ (b : Bool). cond b Outgoing Incoming) (lt-ltb k last lt))
            (own_out Lines Points_kept k (omega (arith, long))) at);
        incoming = λ x at. at_lrp Incoming last x (lines.incoming x at) (clear Incoming last x
            (ap (λ (b : Bool). cond b Outgoing Incoming) (le-ltb last last (omega arith)))
            (own_in Lines Points_kept last (omega (arith, long))) at);
      }

  distinct : DistinctWith g far M P r × DistinctByDirection g far slack M P r
  distinct =
      let out = at_each.outgoing in
      let back = at_each.incoming in (
        record {
          outgoing = λ k lt. record { nearest = λ x at. (out k x lt at).0; alone = λ x at. (out k x lt at).1 };
          incoming = record { nearest = λ x at. (back x at).0; alone = λ x at. (back x at).1 };
        },
        record { outgoing = λ k x lt at. (out k x lt at).2; incoming = λ x at. (back x at).2 },
      )

pub clear_is_distinct : (g : Margin) → LawOf (λ (l : StringLaws g). l.clear_is_distinct)
clear_is_distinct g M m P is r enc xs own none scale far w slack few =
    let p = by_answer M P r enc in distinct M m P is p.0 r p.1 xs own none scale far w slack few

-- ---- no sharper test

cosine_most : (lat : ℕ) → cosine_up_to lat ≤ 1000000
cosine_most lat =
    let m = thousandths_up lat in
    let over : 980000 * (4 * (8100000000 - m * m)) ≤ 980000 * (32400000000 + m * m) = mul-le-mul_left 980000 (omega arith) in
    let less = div-le_of_le-mul 980000 over in
    omega arith

-- the sum of both axes to the coordinate c, and the greater one to every other
abbrev is_at : Coord → Coord → Bool
is_at c v = nat_abs (v.lon -ℤ c.lon) == 0 && nat_abs (v.lat -ℤ c.lat) == 0

abbrev far_from : Coord → Measure
far_from c q v =
    cond (is_at c v) (1000000 * lon_apart q v + 1000000 * lat_apart q v) (max (least_cosine q v * lon_apart q v) (1000000 * lat_apart q v))

weighted_by : (n a b : ℕ) (here : Bool) → n ≤ 1000000 → (far : Measure) (q : ℤ × ℤ) (v : Coord) → lon_apart q v ≡ a → lat_apart q v ≡ b →
    far q v ≡ cond here (1000000 * a + 1000000 * b) (max (n * a) (1000000 * b)) → Weighted n 1000000 1000000 far q v
weighted_by n a b true h far q v ea eb e =
    record { u = 1000000; least = omega arith; most = omega arith; by_lon = omega (arith, ea, e); by_lat = omega (arith, eb, e); by_both = omega (arith, ea, eb, e) }
weighted_by n a b false h far q v ea eb e =
    let east : n * lon_apart q v ≡ n * a = ap (λ (x : ℕ). n * x) ea in
    record { u = n; least = omega arith; most = h; by_lon = omega (arith, east, e); by_lat = omega (arith, eb, e); by_both = omega (arith, east, eb, e) }

no_change : (z : ℤ) → nat_abs (z -ℤ z) ≡ 0
no_change z = let none : z -ℤ z ≡ pos 0 = omega (arith, ints) in ap nat_abs none

at_itself : (c : Coord) → is_at c c ≡ true
at_itself c = and_from _ _ (eq-eqb _ 0 (no_change c.lon)) (eq-eqb _ 0 (no_change c.lat))

as_far : (p c d : ℤ) → nat_abs (d -ℤ c) ≡ 0 → nat_abs (p -ℤ d) ≡ nat_abs (p -ℤ c)
as_far p c d none = omega (arith, none, ints)

as_near : (p : ℤ × ℤ) (c d : Coord) → is_at c d ≡ true → (lon_apart p d ≡ lon_apart p c) × (lat_apart p d ≡ lat_apart p c)
as_near p c d is =
    let both = and_parts _ _ is in
    (as_far p.0 c.lon d.lon (eqb-true _ 0 both.0), as_far p.1 c.lat d.lat (eqb-true _ 0 both.1))

far_is : (b : Bool) (c v : Coord) (q : ℤ × ℤ) → is_at c v ≡ b → far_from c q v
    ≡ cond b (1000000 * lon_apart q v + 1000000 * lat_apart q v) (max (least_cosine q v * lon_apart q v) (1000000 * lat_apart q v))
far_is b c v q e i =
    cond (e i) (1000000 * lon_apart q v + 1000000 * lat_apart q v) (max (least_cosine q v * lon_apart q v) (1000000 * lat_apart q v))

not_far : (e : ℕ) (p : ℤ × ℤ) (c d : Coord) → IsFalse (is_farther e p c d) →
    (lat_apart p d ≤ lon_apart p c + lat_apart p c + e) × (least_cosine p d * lon_apart p d ≤ 1000000 * (lon_apart p c + lat_apart p c + e))
not_far e p c d h = let parts = or_parts _ _ h in (ltb-false _ _ parts.0, ltb-false _ _ parts.1)

at_most : (e : ℕ) (p : ℤ × ℤ) (c d : Coord) → IsFalse (is_farther e p c d) → (here : Bool) → is_at c d ≡ here →
    far_from c p d ≤ far_from c p c + 1000000 * e
at_most e p c d h true is =
    let same = as_near p c d is in
    omega (arith, far_is true c d p is, same.0, same.1, far_is true c c p (at_itself c))
at_most e p c d h false isnt =
    let both = not_far e p c d h in
    omega (arith, far_is false c d p isnt, both.0, both.1, far_is true c c p (at_itself c))

pub no_sharper_test : LawOf (λ (l : ReceiverLaws). l.no_sharper_test)
no_sharper_test e p c d h = (
  far_from c,
  (λ q v. weighted_by (least_cosine q v) (lon_apart q v) (lat_apart q v) (is_at c v) (cosine_most _) (far_from c) q v refl refl refl),
  at_most e p c d h (is_at c d) refl,
)
