-- What is published of an extended path and its LRPs (White Paper, location reference points and their attributes). It
-- depends only on the path's lines and the coordinates of their ends.
--     Reference      the fields of a line location reference
--     legs M ls      the path's lines with the coordinates of their ends
--     position gs i      the coordinate of position i
--     kept_points gs positive negative js      of the LRPs 0 and js, those that remain after the offsets have cut off
--         whole legs
--     reference gs positive negative js      the reference of the remaining LRPs
--     reference_with g gs positive negative js      the same with a margin
use Rattle.std.specs.Prelude.{ℕ, ◌+◌, ◌-◌, ◌*◌, ◌/◌, max, ℤ, Bool, ◌&&◌, List, [], ◌∷◌, length, filter, take, drop, map, fold}
use Rattle.std.specs.Prelude.{nat_lt, nat_le, ◌==◌, slice_index_or, slice_range, Option, Some, None, if◌then◌else◌}
use Rattle.olr_spec.specs.Margins.{Margin, no_margin, allowed}
use Rattle.olr_spec.specs.Coordinates.{Coord, abs24, relative}
use Rattle.olr_spec.specs.Map.{Map, line_at, coord_at, no_line, no_coord}
use Rattle.olr_spec.specs.Bearings.{Leg, bearing_out, bearing_back}

-- for each LRP but the last: FRC and FOW of the line that leaves it, the lowest FRC to the next point (LFRCNP, the
-- greatest class number), its bearing, and the distance to the next point (DNP) in steps of 58.6 m
pub record Attrs : Type 0 where
  pub frc : ℕ
  pub fow : ℕ
  pub lfrc : ℕ
  pub bearing : ℕ
  pub dnp : ℕ

-- the first LRP, in 24-bit steps
pub record First : Type 0 where
  pub lon : ℤ
  pub lat : ℤ
  pub attrs : Attrs

-- an LRP between the first and the last, in relative steps from the LRP before
pub record Middle : Type 0 where
  pub dlon : ℤ
  pub dlat : ℤ
  pub attrs : Attrs

-- the last LRP, with FRC, FOW and bearing of the line that enters it
pub record Last : Type 0 where
  pub dlon : ℤ
  pub dlat : ℤ
  pub frc : ℕ
  pub fow : ℕ
  pub bearing : ℕ

-- with the offsets in 256ths of the first and of the last leg
pub record Reference : Type 0 where
  pub first : First
  pub middle : List Middle
  pub last : Last
  pub pos : Option ℕ
  pub neg : Option ℕ

-- ---- lines with the coordinates of their ends

-- line x with the coordinates of its ends
abbrev pub leg : Map → ℕ → Leg
leg M x = record { line = line_at M x; begin = coord_at M (line_at M x).from; finish = coord_at M (line_at M x).to }

abbrev pub legs : Map → List ℕ → List Leg
legs M ls = map (leg M) ls

-- the default for a line that isn't in the list
abbrev pub no_leg : Leg
no_leg = record { line = no_line; begin = no_coord; finish = no_coord }

abbrev pub leg_at : List Leg → ℕ → Leg
leg_at gs i = slice_index_or gs i no_leg

-- the coordinate of position i
abbrev pub position : List Leg → ℕ → Coord
position gs i = if nat_lt i (length gs) then (leg_at gs i).begin else (leg_at gs (length gs - 1)).finish

-- the length of some lines, in decimetres, and of those from position i to position j
abbrev pub dm_along : List Leg → ℕ
dm_along [] = 0
dm_along (g ∷ gs) = g.line.len + dm_along gs

abbrev pub dm_between : List Leg → ℕ → ℕ → ℕ
dm_between gs i j = dm_along (slice_range gs i j)

-- the length from the start to position i, and from there to the end
abbrev pub from_front : List Leg → ℕ → ℕ
from_front gs i = dm_along (take i gs)

abbrev pub to_back : List Leg → ℕ → ℕ
to_back gs i = dm_along (drop i gs)

-- ---- trim

-- the last element that passes the test, or else d
abbrev pub last_where : (ℕ → Bool) → ℕ → List ℕ → ℕ
last_where test d [] = d
last_where test d (x ∷ xs) = last_where test (if test x then x else d) xs

-- the first element that passes the test, or else d
abbrev pub first_where : (ℕ → Bool) → ℕ → List ℕ → ℕ
first_where test d [] = d
first_where test d (x ∷ xs) = if test x then x else first_where test d xs

-- the last LRP at most the positive offset from the start, and the first at most the negative offset from the end
abbrev pub first_kept : List Leg → ℕ → List ℕ → ℕ
first_kept gs positive js = last_where (λ i. nat_le (from_front gs i) positive) 0 (0 ∷ js)

abbrev pub last_kept : List Leg → ℕ → List ℕ → ℕ
last_kept gs negative js = first_where (λ i. nat_le (to_back gs i) negative) 0 (0 ∷ js)

-- the LRPs from this first one to this last one (White Paper, encoding steps, trimming; in this form: profile)
abbrev pub kept_points : List Leg → ℕ → ℕ → List ℕ → List ℕ
kept_points gs positive negative js =
    filter (λ i. nat_le (first_kept gs positive js) i && nat_le i (last_kept gs negative js)) (0 ∷ js)

-- ---- fields

-- the attributes of LRP i with the next LRP j; distances are rounded down (profile)
abbrev pub attrs_with : Margin → List Leg → ℕ → ℕ → Attrs
attrs_with g gs i j =
    record {
      frc = (leg_at gs i).line.frc;
      fow = (leg_at gs i).line.fow;
      lfrc = allowed g (fold max 0 (map (λ h. h.line.frc) (slice_range gs i j)));
      bearing = bearing_out (leg_at gs i);
      dnp = dm_between gs i j / 586;
    }

-- LRP i, the first, with the next LRP j
abbrev pub first_point_with : Margin → List Leg → ℕ → ℕ → First
first_point_with g gs i j = record { lon = abs24 (position gs i).lon; lat = abs24 (position gs i).lat; attrs = attrs_with g gs i j }

-- LRP i, after LRP h and before LRP j
abbrev pub middle_point_with : Margin → List Leg → ℕ → ℕ → ℕ → Middle
middle_point_with g gs h i j =
    record {
      dlon = relative (position gs h).lon (position gs i).lon;
      dlat = relative (position gs h).lat (position gs i).lat;
      attrs = attrs_with g gs i j;
    }

-- LRP i, the last, after LRP h
abbrev pub last_point : List Leg → ℕ → ℕ → Last
last_point gs h i =
    let g = leg_at gs (i - 1) in
    record {
      dlon = relative (position gs h).lon (position gs i).lon;
      dlat = relative (position gs h).lat (position gs i).lat;
      frc = g.line.frc;
      fow = g.line.fow;
      bearing = bearing_back g;
    }

-- of the LRPs h, i and js, those between the first and the last
abbrev pub middle_points_with : Margin → List Leg → ℕ → ℕ → List ℕ → List Middle
middle_points_with g gs h i [] = []
middle_points_with g gs h i (j ∷ js) = middle_point_with g gs h i j ∷ middle_points_with g gs i j js

-- the last two of h, i and js
abbrev pub last_two : ℕ → ℕ → List ℕ → ℕ × ℕ
last_two h i [] = (h, i)
last_two h i (j ∷ js) = last_two i j js

-- what remains of an offset, in 256ths of a leg, rounded down; None if nothing remains (White Paper, binary format;
-- rounding: profile)
abbrev pub offset : ℕ → ℕ → Option ℕ
offset left stretch = if left == 0 then None else Some (256 * left / stretch)

-- of the LRPs h, i and js, with what remains of the offsets: the positive one is a part of the first leg, the negative
-- one a part of the last
abbrev pub reference_by_kept_with : Margin → List Leg → ℕ → ℕ → ℕ → ℕ → List ℕ → Reference
reference_by_kept_with g gs pos_left neg_left h i js =
    let two = last_two h i js in
    record {
      first = first_point_with g gs h i;
      middle = middle_points_with g gs h i js;
      last = last_point gs two.0 two.1;
      pos = offset pos_left (dm_between gs h i);
      neg = offset neg_left (dm_between gs two.0 two.1);
    }

-- at least two LRPs always remain, so the result for fewer doesn't matter
abbrev pub reference_by_with : Margin → List Leg → ℕ → ℕ → List ℕ → Reference
reference_by_with g gs pos_left neg_left [] = reference_by_kept_with g gs pos_left neg_left 0 0 []
reference_by_with g gs pos_left neg_left (h ∷ []) = reference_by_kept_with g gs pos_left neg_left h h []
reference_by_with g gs pos_left neg_left (h ∷ i ∷ js) = reference_by_kept_with g gs pos_left neg_left h i js

-- what remains of an offset is the offset minus the length that is cut off at its end
abbrev pub reference_with : Margin → List Leg → ℕ → ℕ → List ℕ → Reference
reference_with g gs positive negative js =
    reference_by_with g gs (positive - from_front gs (first_kept gs positive js))
    (negative - to_back gs (last_kept gs negative js)) (kept_points gs positive negative js)

-- ---- without a margin, as the program encodes

abbrev pub reference : List Leg → ℕ → ℕ → List ℕ → Reference
reference = reference_with no_margin
