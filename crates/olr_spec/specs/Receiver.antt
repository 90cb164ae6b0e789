-- What a receiver recovers from a reference on a map (White Paper, decoding steps).
--     Side      the candidates of an LRP are lines that leave their node, at the last LRP lines that enter it
--     node_on s g, coordinate_on s g, sector_on s g      the node of a candidate, its coordinate, and its bearing there
--     Lrp, lrp_at r k a, last_lrp r      an LRP as it is decoded
--     Receiver      a measure, three differences and a monotone preference
--     Takes R M t x      the receiver may choose line x for the LRP t
--     RecoversBy T M r ws, Recovers R M r ws      ws are the lines, leg by leg, that may be recovered by such a choice
--         of lines, or by the receiver
--     candidates M      the lines of a map with the coordinates of their ends
--     is_nearest far s p g cs, has_no_twin s x g cs      the node of a candidate is the nearest to p; no other
--         candidate is a twin of it
use Rattle.std.specs.Prelude.{◌≡◌, ◌≢◌, ℕ, suc, ◌+◌, ◌<◌, ◌≤◌, ℤ, pos, Bool, true, not, ◌&&◌, ◌||◌, List, [], ◌∷◌}
use Rattle.std.specs.Prelude.{◌++◌, map, length, nat_lt, ◌==◌, unwrap_or, ◌⊎◌, IsTrue, IsFalse}
use Rattle.std.specs.List.{list_all, AllByRecursion}
use Rattle.olr_spec.specs.Coordinates.{Coord}
use Rattle.olr_spec.specs.Map.{Map, has_line, line_at, lines_where, start, end}
use Rattle.olr_spec.specs.Routes.{IsRoute, dm_of}
use Rattle.olr_spec.specs.Bearings.{Leg, bearing_out, bearing_back}
use Rattle.olr_spec.specs.Reference.{Attrs, Reference, leg}
use Rattle.olr_spec.specs.Decoded.{decoded}

-- ---- candidates

pub data Side : Type 0 where
  Outgoing Incoming : Side

abbrev pub node_on : Side → Leg → ℕ
node_on Outgoing g = g.line.from
node_on Incoming g = g.line.to

abbrev pub coordinate_on : Side → Leg → Coord
coordinate_on Outgoing g = g.begin
coordinate_on Incoming g = g.finish

abbrev pub sector_on : Side → Leg → ℕ
sector_on Outgoing g = bearing_out g
sector_on Incoming g = bearing_back g

-- the lines of the map, by number
abbrev pub candidates : Map → List (ℕ × Leg)
candidates M = map (λ x. (x, leg M x)) (lines_where M (λ _. true))

-- ---- location reference points

-- the decoded coordinate, and FRC, FOW and bearing of the line
pub record Lrp : Type 0 where
  pub side : Side
  pub place : ℤ × ℤ
  pub frc : ℕ
  pub fow : ℕ
  pub bearing : ℕ

-- the decoded coordinate of LRP k, if the reference has it; otherwise (0, 0)
abbrev pub decoded_coord : Reference → ℕ → ℤ × ℤ
decoded_coord r k = unwrap_or (decoded r k) (pos 0, pos 0)

-- LRP k with its attributes
abbrev pub lrp_at : Reference → ℕ → Attrs → Lrp
lrp_at r k a =
    record { side = Outgoing; place = decoded_coord r k; frc = a.frc; fow = a.fow; bearing = a.bearing }

abbrev pub last_number : Reference → ℕ
last_number r = length r.middle + 1

abbrev pub last_lrp : Reference → Lrp
last_lrp r =
    record {
      side = Incoming;
      place = decoded_coord r (last_number r);
      frc = r.last.frc;
      fow = r.last.fow;
      bearing = r.last.bearing;
    }

-- the attributes of the LRPs but the last
abbrev pub attributes : Reference → List Attrs
attributes r = r.first.attrs ∷ map (λ m. m.attrs) r.middle

-- ---- receivers

-- how far a candidate is from an LRP, by coordinate, FRC, FOW and bearing
pub record Rating : Type 0 where
  pub far : ℕ
  pub frc : ℕ
  pub fow : ℕ
  pub bearing : ℕ

pub record NowhereWorse (a b : Rating) : Type 0 where
  pub far : a.far ≤ b.far
  pub frc : a.frc ≤ b.frc
  pub fow : a.fow ≤ b.fow
  pub bearing : a.bearing ≤ b.bearing

abbrev pub SomewhereBetter : Rating → Rating → Type 0
SomewhereBetter a b = (a.far < b.far) ⊎ ((a.frc < b.frc) ⊎ ((a.fow < b.fow) ⊎ (a.bearing < b.bearing)))

-- how far a node's coordinate is from a decoded one. On a finite map the values of any measure can be numbered in order
abbrev pub Measure : Type 0
Measure = ℤ × ℤ → Coord → ℕ

-- 0 exactly for equal values
pub record IsDifference (apart : ℕ → ℕ → ℕ) : Type 0 where
  pub same : (a : ℕ) → apart a a ≡ 0
  pub other : (a b : ℕ) → apart a b ≡ 0 → a ≡ b

-- any measure, any differences of FRC, FOW and bearing, and any preference by which a candidate that is nowhere worse
-- and somewhere better is preferred
pub record Receiver : Type 0 where
  pub far : Measure
  pub frc_apart : ℕ → ℕ → ℕ
  pub fow_apart : ℕ → ℕ → ℕ
  pub bearing_apart : ℕ → ℕ → ℕ
  pub prefers : Rating → Rating → Bool
  pub frcs : IsDifference frc_apart
  pub fows : IsDifference fow_apart
  pub bearings : IsDifference bearing_apart
  pub monotone : (a b : Rating) → NowhereWorse a b → SomewhereBetter a b → IsTrue (prefers a b)
  pub strict : (a b : Rating) → IsTrue (prefers a b) → IsFalse (prefers b a)

abbrev pub rating : Receiver → Lrp → Leg → Rating
rating R t g =
    record {
      far = R.far t.place (coordinate_on t.side g);
      frc = R.frc_apart t.frc g.line.frc;
      fow = R.fow_apart t.fow g.line.fow;
      bearing = R.bearing_apart t.bearing (sector_on t.side g);
    }

-- no candidate is preferred to line x
pub record Takes (R : Receiver) (M : Map) (t : Lrp) (x : ℕ) : Type 0 where
  pub known : IsTrue (has_line M x)
  pub best : (y : ℕ) → IsTrue (has_line M y) → IsFalse (R.prefers (rating R t (leg M y)) (rating R t (leg M x)))

-- ---- routes

-- each line has a class number of at most c
abbrev pub Within : Map → ℕ → List ℕ → Type 0
Within M c xs = AllByRecursion (λ x. (line_at M x).frc ≤ c) xs

-- a route over such lines, and no other is shorter
pub record Shortest (M : Map) (c s t : ℕ) (xs : List ℕ) : Type 0 where
  pub route : IsRoute M s t xs
  pub within : Within M c xs
  pub first : (ys : List ℕ) → IsRoute M s t ys → Within M c ys → dm_of M xs ≤ dm_of M ys

-- from line x up to line y, both of which leave their LRP: x, and a shortest route from its end to the start of y
abbrev pub RecoversTo : Map → ℕ → ℕ → ℕ → List ℕ → Type 0
RecoversTo M c x y w = (xs : List ℕ) × (w ≡ x ∷ xs) × Shortest M c (end M x) (start M y) xs

-- from line x to line y, which enters the last LRP: x alone if y is x; otherwise x, a shortest route and y, whose class
-- number is at most c too
pub data RecoversLast (M : Map) (c x y : ℕ) (w : List ℕ) : Type 0 where
  One_line : x ≡ y → w ≡ x ∷ [] → RecoversLast M c x y w
  More_lines : (xs : List ℕ) → x ≢ y → w ≡ x ∷ (xs ++ y ∷ []) → Shortest M c (end M x) (start M y) xs →
      (line_at M y).frc ≤ c → RecoversLast M c x y w

-- from LRP k on, for which line x is chosen; T t y says that line y may be chosen for the LRP t. The attributes are
-- those of LRP k and of the LRPs after it but the last
abbrev pub RecoversFrom : (Lrp → ℕ → Type 0) → Map → Reference → ℕ → ℕ → List Attrs → List (List ℕ) → Type 0
RecoversFrom T M r k x [] ws = ⊥
RecoversFrom T M r k x (a ∷ []) ws =
    (y : ℕ) × (w : List ℕ) × T (last_lrp r) y × RecoversLast M a.lfrc x y w × (ws ≡ w ∷ [])
RecoversFrom T M r k x (a ∷ b ∷ later) ws =
    (y : ℕ) × (w : List ℕ) × (rest : List (List ℕ)) × T (lrp_at r (suc k) b) y × RecoversTo M a.lfrc x y w
    × (ws ≡ w ∷ rest) × RecoversFrom T M r (suc k) y (b ∷ later) rest

-- a line is chosen for each LRP, and neighbouring lines are joined by shortest routes over lines within the LFRCNP
abbrev pub RecoversBy : (Lrp → ℕ → Type 0) → Map → Reference → List (List ℕ) → Type 0
RecoversBy T M r ws = (x : ℕ) × T (lrp_at r 0 r.first.attrs) x × RecoversFrom T M r 0 x (attributes r) ws

abbrev pub Recovers : Receiver → Map → Reference → List (List ℕ) → Type 0
Recovers R M r ws = RecoversBy (Takes R M) M r ws

-- ---- where the path's own candidate is distinct

-- the node of each other candidate is farther from p, or is the same node
abbrev pub is_nearest : Measure → Side → ℤ × ℤ → Leg → List (ℕ × Leg) → Bool
is_nearest far s p g cs =
    list_all (λ c. node_on s c.1 == node_on s g || nat_lt (far p (coordinate_on s g)) (far p (coordinate_on s c.1))) cs

-- the same node, FRC, FOW and bearing
abbrev pub are_twins : Side → Leg → Leg → Bool
are_twins s g h =
    node_on s g == node_on s h && g.line.frc == h.line.frc && g.line.fow == h.line.fow && sector_on s g == sector_on s h

-- no other candidate is a twin of line x
abbrev pub has_no_twin : Side → ℕ → Leg → List (ℕ × Leg) → Bool
has_no_twin s x g cs = list_all (λ c. c.0 == x || not (are_twins s g c.1)) cs
