-- Coordinates along a line, directions, and the 32 sectors of bearings (White Paper, bearing attribute).
--     Leg      a line with the coordinates of its two ends
--     scaled_coord g t      the coordinate t dm along the line, times the width of its interval between shape points
--     direction_out g, direction_back g      the direction from the line's start to the coordinate 200 dm along it, or
--         from its end to the coordinate 200 dm before it
--     bearing_out g, bearing_back g      the sectors of these directions
--     IsSector east north k, sector east north      the direction is between the two boundary vectors of sector k; the
--         sector of a direction
use Rattle.std.specs.Prelude.{ℕ, zero, suc, ◌-◌, ◌<◌, min, ℤ, pos, ◌+ℤ◌, ◌-ℤ◌, ◌*ℤ◌, neg_ℤ, int_le, int_lt, int_div, Bool, ◌&&◌}
use Rattle.std.specs.Prelude.{List, [], ◌∷◌, ◌++◌, map, find, nat_le, unwrap_or, slice_index_or, if◌then◌else◌, IsTrue}
use Rattle.olr_spec.specs.Coordinates.{Coord}
use Rattle.olr_spec.specs.Map.{Line, ShapePoint}

-- the data of a line from which the fields of a reference are computed
pub record Leg : Type 0 where
  pub line : Line
  pub begin : Coord
  pub finish : Coord

-- ---- sectors

-- a direction, by its parts to the east and to the north
pub record Vector : Type 0 where
  pub east : ℤ
  pub north : ℤ

abbrev pub vector : ℤ → ℤ → Vector
vector e n = record { east = e; north = n }

-- the boundaries 0 to 7, clockwise from north: multiples of 11.25 degrees (White Paper), as vectors of these whole
-- numbers (profile)
abbrev pub first_quarter : List Vector
first_quarter =
    vector (pos 0) (pos 1000000) ∷ vector (pos 198912) (pos 1000000) ∷ vector (pos 414214) (pos 1000000) ∷ vector
    (pos 668179) (pos 1000000)
    ∷ vector (pos 1000000) (pos 1000000) ∷ vector (pos 1000000) (pos 668179) ∷ vector (pos 1000000) (pos 414214)
    ∷ vector (pos 1000000) (pos 198912) ∷ []

-- a quarter turn to the right
abbrev pub quarter_turn : Vector → Vector
quarter_turn v = vector v.north (neg_ℤ v.east)

abbrev pub quarters : ℕ → List Vector → List Vector
quarters zero vs = []
quarters (suc n) vs = vs ++ quarters n (map quarter_turn vs)

-- boundaries 0 to 31, and boundary 0 again
abbrev pub boundaries : List Vector
boundaries = quarters 4 first_quarter ++ vector (pos 0) (pos 1000000) ∷ []

-- boundary k, from 0 to 32
abbrev pub boundary : ℕ → Vector
boundary k = slice_index_or boundaries k (vector (pos 0) (pos 0))

-- greater than 0 if the direction v is clockwise of the boundary b, by less than a half turn
abbrev pub beyond : Vector → Vector → ℤ
beyond b v = v.east *ℤ b.north -ℤ v.north *ℤ b.east

-- on the boundary b or clockwise of it, and before the boundary c
abbrev pub lies_between : Vector → Vector → Vector → Bool
lies_between b c v = int_le (pos 0) (beyond b v) && int_lt (beyond c v) (pos 0)

-- a direction on a boundary belongs to the sector that starts there (profile)
abbrev pub IsSector : ℤ → ℤ → ℕ → Type 0
IsSector east north k = (k < 32) × IsTrue (lies_between (boundary k) (boundary (suc k)) (vector east north))

-- 0 to n - 1
abbrev pub up_to : ℕ → List ℕ
up_to zero = []
up_to (suc n) = up_to n ++ n ∷ []

-- the sector of a direction, and 0 for (0, 0), which is in none (profile)
abbrev pub sector : ℤ → ℤ → ℕ
sector east north =
    unwrap_or (find (λ k. lies_between (boundary k) (boundary (suc k)) (vector east north)) (up_to 32)) 0

-- ---- coordinates along a line

-- a coordinate times a width, so that it is whole
pub record Scaled : Type 0 where
  pub lon : ℤ
  pub lat : ℤ
  pub width : ℕ

-- on the straight line from p to q, t dm from the line's start: w * P + (t - d) * (Q - P), with p at d and w dm to q
abbrev pub scaled_between : ShapePoint → ShapePoint → ℕ → Scaled
scaled_between p q t =
    let w = q.at - p.at in
    let d = t - p.at in
    record {
      lon = pos w *ℤ p.place.lon +ℤ pos d *ℤ (q.place.lon -ℤ p.place.lon);
      lat = pos w *ℤ p.place.lat +ℤ pos d *ℤ (q.place.lat -ℤ p.place.lat);
      width = w;
    }

-- on the first interval that ends at t or later
abbrev pub scaled_on : ShapePoint → List ShapePoint → ℕ → Scaled
scaled_on p [] t = record { lon = p.place.lon; lat = p.place.lat; width = 1 }
scaled_on p (q ∷ qs) t = if nat_le t q.at then scaled_between p q t else scaled_on q qs t

-- the intervals lead from the start through the shape points to the end; the line is straight between them
abbrev pub scaled_coord : Leg → ℕ → Scaled
scaled_coord g t =
    scaled_on (record { at = 0; place = g.begin }) (g.line.shape ++ record { at = g.line.len; place = g.finish } ∷ []) t

-- ---- bearings

-- a latitude in whole thousandths of a degree, rounded toward zero
abbrev pub thousandths : ℤ → ℤ
thousandths lat = int_div lat (pos 327680000)

-- from o to the coordinate s. The part to the east is multiplied by the cosine of the latitude of o, approximated by
-- Bhaskara's formula, 4 * (8100 - x^2) / (32400 + x^2) at x degrees (profile)
abbrev pub direction : Coord → Scaled → Vector
direction o s =
    let m = thousandths o.lat in
    let lon = s.lon -ℤ pos s.width *ℤ o.lon in
    let lat = s.lat -ℤ pos s.width *ℤ o.lat in
    vector (pos 4 *ℤ (pos 8100000000 -ℤ m *ℤ m) *ℤ lon) ((pos 32400000000 +ℤ m *ℤ m) *ℤ lat)

-- its sector
abbrev pub bearing : Coord → Scaled → ℕ
bearing o s = let v = direction o s in sector v.east v.north

-- 20 m along the line, or to its end if it is shorter (White Paper, bearing attribute)
abbrev pub direction_out : Leg → Vector
direction_out g = direction g.begin (scaled_coord g (min 200 g.line.len))

abbrev pub bearing_out : Leg → ℕ
bearing_out g = bearing g.begin (scaled_coord g (min 200 g.line.len))

-- 20 m back from its end, or to its start if it is shorter
abbrev pub direction_back : Leg → Vector
direction_back g = direction g.finish (scaled_coord g (g.line.len - 200))

abbrev pub bearing_back : Leg → ℕ
bearing_back g = bearing g.finish (scaled_coord g (g.line.len - 200))
