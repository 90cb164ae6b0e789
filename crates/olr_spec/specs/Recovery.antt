-- What a receiver should recover of a path, and when it can.
--     IsLineAtWith g M P s k x      line x of the extended path leaves LRP k of its reference, or enters it
--     own_lines ls ks, OwnLinesWith g M P xs      these lines of all LRPs, in order
--     OwnLinesOfWith g M P A xs      of an answer: none if it has no reference
--     Distinct far M P r, DistinctWith g far M P r      the path's own line at each LRP is the nearest candidate by the
--         measure far, and has no twin; with a margin
--     stretches ls ks, IsStretchesWith g M P ws      the legs: the lines between each two neighbouring LRPs
--     IsKeptPartWith g M P ls      the lines from the first remaining LRP to the last
--     IsLeftWith g M P front back      what remains of the two offsets at these LRPs, in decimetres
--     IsCut q s o c, IsClose q s a c      c is a value in the interval of an offset byte over the length s; c and a
--         differ by less than a 256th of it. c is in q-ths of a decimetre
--     IsStep a len      a length is in the interval of a distance to the next point
--     IsWeighted n d scale far M r      a measure that, from each LRP of r to each node with candidates, is between the
--         axes' maximum and their sum, with cosines of at least n / d
--     are_cosines n d scale cosine M r      these cosines are at least n / d and at most 1
--     are_spaced n d k s g cs      the other nodes are far enough from a candidate's node, so that it is the nearest at
--         LRP k
use Rattle.std.specs.Prelude.{◌≡◌, ℕ, ◌+◌, ◌-◌, ◌*◌, ◌<◌, ◌≤◌, ℤ, ◌-ℤ◌, nat_abs, Bool, ◌&&◌, ◌||◌, ◌==◌, nat_le, List, [], ◌∷◌}
use Rattle.std.specs.Prelude.{slice_index, slice_get, Option, Some, None, option_map, IsTrue}
use Rattle.std.specs.List.{list_all}
use Rattle.olr_spec.specs.Margins.{Margin, no_margin}
use Rattle.olr_spec.specs.Coordinates.{Coord}
use Rattle.olr_spec.specs.Map.{Map, has_line}
use Rattle.olr_spec.specs.Extension.{Path, first, last}
use Rattle.olr_spec.specs.Points.{stretch, OfPathWith}
use Rattle.olr_spec.specs.Bearings.{Leg, up_to}
use Rattle.olr_spec.specs.Reference.{Attrs, Reference, leg, legs, from_front, to_back, first_kept, last_kept, kept_points}
use Rattle.olr_spec.specs.Encoding.{Answer, Points, Refused}
use Rattle.olr_spec.specs.Decoded.{decoded_bound}
use Rattle.olr_spec.specs.Receiver.{Side, Outgoing, Incoming, node_on, coordinate_on, Measure, candidates, decoded_coord}
use Rattle.olr_spec.specs.Receiver.{last_number, is_nearest, has_no_twin}

-- the line that leaves position i, or the line that enters it
abbrev pub line_by : Side → List ℕ → ℕ → ℕ
line_by Outgoing ls i = slice_index ls i
line_by Incoming ls i = slice_index ls (i - 1)

abbrev pub IsLineAtWith : Margin → Map → Path → Side → ℕ → ℕ → Type 0
IsLineAtWith g M P s k x =
    OfPathWith g M P (λ E _ _ js. option_map (line_by s E.lines)
    (slice_get (kept_points (legs M E.lines) E.pos E.neg js) k) ≡ Some x)

-- at the LRPs ks of the extended path ls, the last of which its line enters
abbrev pub own_lines : List ℕ → List ℕ → List ℕ
own_lines ls [] = []
own_lines ls (i ∷ []) = line_by Incoming ls i ∷ []
own_lines ls (i ∷ j ∷ ks) = line_by Outgoing ls i ∷ own_lines ls (j ∷ ks)

abbrev pub OwnLinesWith : Margin → Map → Path → List ℕ → Type 0
OwnLinesWith g M P xs =
    OfPathWith g M P (λ E _ _ js. xs ≡ own_lines E.lines (kept_points (legs M E.lines) E.pos E.neg js))

abbrev pub OwnLinesOfWith : Margin → Map → Path → Answer → List ℕ → Type 0
OwnLinesOfWith g M P (Points r) xs = OwnLinesWith g M P xs
OwnLinesOfWith g M P (Refused refusal) xs = xs ≡ []

-- at LRP k, which is decoded as p
pub record DistinctAtWith (g : Margin) (far : Measure) (M : Map) (P : Path) (s : Side) (k : ℕ) (p : ℤ × ℤ) : Type 0 where
  pub nearest : (x : ℕ) → IsLineAtWith g M P s k x → IsTrue (is_nearest far s p (leg M x) (candidates M))
  pub alone : (x : ℕ) → IsLineAtWith g M P s k x → IsTrue (has_no_twin s x (leg M x) (candidates M))

-- at each LRP of the reference r
pub record DistinctWith (g : Margin) (far : Measure) (M : Map) (P : Path) (r : Reference) : Type 0 where
  pub outgoing : (k : ℕ) → k < last_number r → DistinctAtWith g far M P Outgoing k (decoded_coord r k)
  pub incoming : DistinctAtWith g far M P Incoming (last_number r) (decoded_coord r (last_number r))

-- ---- what is recovered

abbrev pub stretches : List ℕ → List ℕ → List (List ℕ)
stretches ls (p ∷ q ∷ ks) = stretch ls p q ∷ stretches ls (q ∷ ks)
stretches ls _ = []

abbrev pub IsStretchesWith : Margin → Map → Path → List (List ℕ) → Type 0
IsStretchesWith g M P ws = OfPathWith g M P (λ E _ _ js. ws ≡ stretches E.lines (kept_points (legs M E.lines) E.pos E.neg js))

abbrev pub IsKeptPartWith : Margin → Map → Path → List ℕ → Type 0
IsKeptPartWith g M P ls =
    OfPathWith g M P (λ E _ _ js.
    let ks = kept_points (legs M E.lines) E.pos E.neg js in
    ls ≡ stretch E.lines (first ks) (last ks))

-- ---- lengths

-- the offset minus the length that is cut off at its end
abbrev pub IsLeftWith : Margin → Map → Path → ℕ → ℕ → Type 0
IsLeftWith g M P front back =
    OfPathWith g M P (λ E _ _ js.
    (front ≡ E.pos - from_front (legs M E.lines) (first_kept (legs M E.lines) E.pos js))
    × (back ≡ E.neg - to_back (legs M E.lines) (last_kept (legs M E.lines) E.neg js)))

-- byte b means at least b / 256 of the length, and less than (b + 1) / 256; without a byte nothing is cut off
abbrev pub IsCut : ℕ → ℕ → Option ℕ → ℕ → Type 0
IsCut q s None c = c ≡ 0
IsCut q s (Some b) c = (b * (q * s) ≤ 256 * c) × (256 * c < b * (q * s) + q * s)

-- a is in decimetres
pub record IsClose (q s a c : ℕ) : Type 0 where
  pub below : 256 * c < 256 * (q * a) + q * s
  pub above : 256 * (q * a) < 256 * c + q * s

-- in steps of 586 decimetres
pub record IsStep (a : Attrs) (len : ℕ) : Type 0 where
  pub low : a.dnp * 586 ≤ len
  pub high : len < a.dnp * 586 + 586

-- ---- the nearest node

-- the difference on each axis, in units
abbrev pub lon_apart : ℤ × ℤ → Coord → ℕ
lon_apart p c = nat_abs (p.0 -ℤ c.lon)

abbrev pub lat_apart : ℤ × ℤ → Coord → ℕ
lat_apart p c = nat_abs (p.1 -ℤ c.lat)

-- in units divided by the scale, with a cosine of u / scale, which may differ from coordinate to coordinate
pub record Weighted (n d scale : ℕ) (far : Measure) (p : ℤ × ℤ) (c : Coord) : Type 0 where
  pub u : ℕ
  pub least : n * scale ≤ d * u
  pub most : u ≤ scale
  pub by_lon : u * lon_apart p c ≤ far p c
  pub by_lat : scale * lat_apart p c ≤ far p c
  pub by_both : far p c ≤ u * lon_apart p c + scale * lat_apart p c

-- a cosine of u / scale
abbrev pub is_cosine : ℕ → ℕ → ℕ → ℕ → Bool
is_cosine n d scale u = nat_le (n * scale) (d * u) && nat_le u scale

-- from each decoded LRP of r to each end of a line of M
pub record IsWeighted (n d scale : ℕ) (far : Measure) (M : Map) (r : Reference) : Type 0 where
  pub some : 0 < d
  pub unit : 0 < scale
  pub all : (s : Side) (k x : ℕ) → k ≤ last_number r → IsTrue (has_line M x) →
      Weighted n d scale far (decoded_coord r k) (coordinate_on s (leg M x))

abbrev pub are_cosines : ℕ → ℕ → ℕ → Measure → Map → Reference → Bool
are_cosines n d scale cosine M r =
    list_all (λ k. list_all (λ c. is_cosine n d scale (cosine (decoded_coord r k) c.1.begin)
    && is_cosine n d scale (cosine (decoded_coord r k) c.1.finish)) (candidates M)) (up_to (last_number r + 1))

-- in latitude, or in longitude times n / d, at least three times the bound within which LRP k is decoded
abbrev pub is_spaced : ℕ → ℕ → ℕ → Coord → Coord → Bool
is_spaced n d k a b =
    nat_le (3 * decoded_bound k) (nat_abs (a.lat -ℤ b.lat))
    || nat_le (3 * (d * decoded_bound k)) (n * nat_abs (a.lon -ℤ b.lon))

abbrev pub are_spaced : ℕ → ℕ → ℕ → Side → Leg → List (ℕ × Leg) → Bool
are_spaced n d k s g cs =
    list_all (λ c. node_on s c.1 == node_on s g || is_spaced n d k (coordinate_on s g) (coordinate_on s c.1)) cs

-- ---- without a margin, as the program encodes

abbrev pub Distinct : Measure → Map → Path → Reference → Type 0
Distinct = DistinctWith no_margin
