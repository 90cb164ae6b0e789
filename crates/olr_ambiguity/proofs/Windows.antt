-- Each node that isn't farther by more than the slack is in the window.
use Rattle.olr_ambiguity.proofs.Common.{◌≡◌, ℕ, ◌+◌, ◌-◌, ◌*◌, ◌/◌, ◌<◌, ◌≤◌, ℤ, pos, ◌+ℤ◌, ◌-ℤ◌, ◌≤ℤ◌, nat_abs, nat_lt}
use Rattle.olr_ambiguity.proofs.Common.{max, false, IsFalse, IsTrue, ◌&&◌, arith, ints, ◌∙◌, ap, ltb-false, or_parts, mul-le, Coord, w128}
use Rattle.olr_ambiguity.proofs.Common.{and_from, le_test, bounds, within, is_coord, coord_within, neg_ℤ, degree_units}
use Rattle.olr_ambiguity.proofs.Common.{to_z, to_z-of_z, ◌^◌, held, div-mul-le_self, le-div_iff_mul-le, mul-le-mul_left}
use Rattle.olr_ambiguity.proofs.Common.{lon_apart, lat_apart, thousandths_up, cosine_up_to, least_cosine, is_farther}
use Rattle.olr_ambiguity.proofs.Common.{usual_slack, cells_from, List, Window, is_in, list_any, get_or, cases_Bool, inl, inr, and_parts}
use Rattle.olr_ambiguity.proofs.Common.{both_ways, list_any_none}
use Rattle.olr_ambiguity.specs.Grids.{Covers}

-- ---- cells

cells_more : (low y z : ℤ) → low ≤ℤ y → y ≤ℤ z → cells_from low y ≤ cells_from low z
cells_more low y z h g = let up : nat_abs (y -ℤ low) ≤ nat_abs (z -ℤ low) = omega (arith, ints, h, g) in omega (arith, up)

-- those of a value within a window's bounds
pub cells_within : (n : ℕ) (a b z : ℤ) → nat_abs a ≤ n → IsTrue (within a b z) → let low = neg_ℤ (pos n) in
    (cells_from low a ≤ cells_from low z) × (cells_from low z ≤ cells_from low b)
cells_within n a b z small h =
    let p = bounds a b z h in
    (cells_more (neg_ℤ (pos n)) a z (omega (arith, ints, small)) p.0, cells_more (neg_ℤ (pos n)) z b (omega (arith, ints, small, p.0)) p.1)

-- ---- bounds

pub inside : (a b f e : ℤ) (d : Coord) → (a ≤ℤ d.lat) × (d.lat ≤ℤ b) → (f ≤ℤ d.lon) × (d.lon ≤ℤ e) →
    IsTrue (within a b d.lat && within f e d.lon)
inside a b f e d h k = grind (arith, and_from, le_test, h, k)

pub coord_small : (d : Coord) → IsTrue (is_coord d) → (nat_abs d.lat ≤ degree_units 90) × (nat_abs d.lon ≤ degree_units 180)
coord_small d h = let w = coord_within d h in (omega (arith, ints, w.1.0, w.1.1), omega (arith, ints, w.0.0, w.0.1))

-- a coordinate out of the bounds of all latitudes is in no window
pub outside : (lat : ℤ × ℤ) (ws : List Window) (c : Coord) → Covers lat ws → within lat.0 lat.1 c.lat ≡ false →
    list_any (λ w. is_in w c) ws ≡ false
outside lat ws c covers out = list_any_none (λ w. is_in w c) ws (λ k d lt. beyond (get_or ws k d) (covers k d lt))
  where
    beyond : (w : Window) → (lat.0 ≤ℤ w.lat.0) × (w.lat.1 ≤ℤ lat.1) → is_in w c ≡ false
    beyond w h = elim (cases_Bool (is_in w c)) [
      | inl is ↦
          let p = bounds w.lat.0 w.lat.1 c.lat (and_parts _ _ is).0 in
          absurd (both_ways _ out (grind (arith, ints, and_from, le_test, h, p)))
      | inr is ↦ is
    ]

-- ---- cosines

quotient_less : (n d m e : ℕ) → 0 < d → m ≤ n → d ≤ e → m / e ≤ n / d
quotient_less n d m e some less more =
    let q = m / e in
    let low : q * e ≤ m = div-mul-le_self m e in
    let part : q * d ≤ q * e = mul-le-mul_left q more in
    (le-div_iff_mul-le some).1 (omega (arith, low, part, less))

of_squares : (s t : ℕ) → s ≤ t → 980000 * (4 * (8100000000 - t)) / (32400000000 + t) ≤ 980000 * (4 * (8100000000 - s)) / (32400000000 + s)
of_squares s t h = quotient_less (980000 * (4 * (8100000000 - s))) (32400000000 + s) (980000 * (4 * (8100000000 - t))) (32400000000 + t) (omega arith) (omega (arith, h)) (omega (arith, h))

pub cosine_less : (a b : ℕ) → a ≤ b → cosine_up_to b ≤ cosine_up_to a
cosine_less a b h =
    let m = thousandths_up a in
    let n = thousandths_up b in
    let up : m ≤ n = omega (arith, h) in
    of_squares (m * m) (n * n) (mul-le m m n n up up)

-- ---- the window

module _ (p : ℤ × ℤ) (c d : Coord) (near : IsFalse (is_farther usual_slack p c d)) where
  abbrev reach : ℕ
  reach = lon_apart p c + lat_apart p c + usual_slack

  parts : (nat_lt reach (lat_apart p d) ≡ false) × (nat_lt (1000000 * reach) (least_cosine p d * lon_apart p d) ≡ false)
  parts = or_parts (nat_lt reach (lat_apart p d)) (nat_lt (1000000 * reach) (least_cosine p d * lon_apart p d)) near

  near_lat : lat_apart p d ≤ reach
  near_lat = ltb-false reach (lat_apart p d) parts.0

  pub lat_within : (z : ℤ) (n : ℕ) → z ≡ p.1 → n ≡ reach → nat_abs (z -ℤ d.lat) ≤ n
  lat_within z n is far = omega (arith, ap (λ y. nat_abs (y -ℤ d.lat)) is, near_lat)

  near_lon : least_cosine p d * lon_apart p d ≤ 1000000 * reach
  near_lon = ltb-false (1000000 * reach) (least_cosine p d * lon_apart p d) parts.1

  steepest : max (nat_abs p.1) (nat_abs d.lat) ≤ nat_abs p.1 + reach
  steepest =
      let low : nat_abs d.lat ≤ nat_abs p.1 + lat_apart p d = omega (arith, ints) in
      omega (arith, low, near_lat)

  pub near_by_cosine : (q : ℕ) → 0 < q → q ≡ cosine_up_to (nat_abs p.1 + reach) → lon_apart p d ≤ 1000000 * reach / q
  near_by_cosine q some is =
      let less = cosine_less (max (nat_abs p.1) (nat_abs d.lat)) (nat_abs p.1 + reach) steepest in
      let least : q ≤ least_cosine p d = omega (arith, is, less) in
      let all : lon_apart p d * q ≤ lon_apart p d * least_cosine p d = mul-le-mul_left (lon_apart p d) least in
      (le-div_iff_mul-le some).1 (grind (arith, all, near_lon))

-- ---- numbers of 128 bits

pub held_small : (z : ℤ) → nat_abs z ≤ 10 ^ 31 → held w128 z ≡ z
held_small z h = to_z-of_z w128 z (omega (arith, ints, h))

of_natural : (n : ℕ) → n ≤ 5 * 10 ^ 37 → to_z w128 n ≡ pos n
of_natural n h = omega (arith, ints, h)

pub held_minus : (z : ℤ) (n : ℕ) → nat_abs z ≤ 10 ^ 31 → n ≤ 5 * 10 ^ 37 → held w128 (held w128 z -ℤ to_z w128 n) ≡ z -ℤ pos n
held_minus z n h g =
    (λ i. held w128 (held_small z h i -ℤ of_natural n g i)) ∙ to_z-of_z w128 (z -ℤ pos n) (omega (arith, ints, h, g))

pub held_plus : (z : ℤ) (n : ℕ) → nat_abs z ≤ 10 ^ 31 → n ≤ 5 * 10 ^ 37 → held w128 (held w128 z +ℤ to_z w128 n) ≡ z +ℤ pos n
held_plus z n h g =
    (λ i. held w128 (held_small z h i +ℤ of_natural n g i)) ∙ to_z-of_z w128 (z +ℤ pos n) (omega (arith, ints, h, g))
