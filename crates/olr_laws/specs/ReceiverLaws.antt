-- Receivers that compare directions, and the laws of what each receiver decodes and recovers, and of strings in whose way
-- nothing stands.
--     SeesDirections apart reach      a difference of at most the reach for each direction in a sector, and of more than
--         the reach beyond its margin
--     Differences, DirectionReceiver      a measure and differences, such a one for the bearing; a receiver with them
--     TakesByDirection D M t x      it may choose line x for the LRP t
--     stands_out far slack s p x g cs      every other candidate is farther by more than the slack, or no nearer and
--         beyond the margin
--     AtEachLrp g M P r Q      Q holds of the path's own line at each LRP, with a margin of routes and classes
--     DistinctByDirection g far slack M P r      the path's own line at each LRP has a direction, and stands out
--     is_clear n d e k s x g cs      the same by the map alone, without the decoded coordinate
--     IsWeightedByLatitude scale far M r      a measure that, from each LRP of r to each node with candidates, is between
--         the axes' maximum and their sum, with cosines of at least the least one
--     StandsFor g M p e      e is an ambiguity of the path's string on M, with the margin g
use Rattle.std.specs.Prelude.{ℕ, ◌+◌, ◌*◌, ◌+ℤ◌, ◌-ℤ◌, ◌*ℤ◌, int_lt, if◌then◌else◌, ◌<◌, ◌≤◌, ℤ, pos, nat_abs, Bool, not, ◌&&◌}
use Rattle.std.specs.Prelude.{◌||◌, ◌==◌, nat_le, nat_lt, List, [], ◌∷◌, slice_index_or, IsTrue, IsFalse, ◌≡◌, map, Some}
use Rattle.std.specs.Prelude.{is_some, ◌↔◌, ◌≢◌, None, Contains, slice_get}
use Rattle.std.specs.List.{list_all, AllZip, concat}
use Rattle.olr_spec.specs.Coordinates.{Coord}
use Rattle.olr_spec.specs.Map.{Map, has_line, IsMap, coord_at, has}
use Rattle.olr_spec.specs.Extension.{Path, first, last}
use Rattle.olr_spec.specs.Margins.{Margin}
use Rattle.olr_spec.specs.Bearings.{Leg, Vector, vector, beyond, quarters, IsSector}
use Rattle.olr_spec.specs.Directions.{direction_on, is_direction, is_beyond}
use Rattle.olr_spec.specs.Points.{OfPathWith}
use Rattle.olr_spec.specs.Reference.{Reference, leg, legs, kept_points, Attrs}
use Rattle.olr_spec.specs.Decoded.{decoded_bound, decoded, IsNear}
use Rattle.olr_spec.specs.Receiver.{Side, Outgoing, Incoming, node_on, coordinate_on, sector_on, Lrp, Measure, Rating}
use Rattle.olr_spec.specs.Receiver.{NowhereWorse, SomewhereBetter, candidates, decoded_coord, last_number, RecoversBy}
use Rattle.olr_spec.specs.Receiver.{attributes, is_nearest, last_lrp, lrp_at, Receiver}
use Rattle.olr_spec.specs.Recovery.{IsLineAtWith, IsStretchesWith, stretches, IsKeptPartWith, OwnLinesWith, DistinctWith, are_cosines}
use Rattle.olr_spec.specs.Recovery.{IsLeftWith, IsCut, IsClose, IsStep, IsWeighted, are_spaced, Weighted, lon_apart, lat_apart}
use Rattle.olr_spec.specs.Routes.{dm_of}
use Rattle.olr_spec.specs.Encoding.{EncodesWith, IsPointWith, Points}
use Rattle.olr_spec.specs.Split.{chains, HasRoadsAlong, HasKeptRoads}
use Rattle.olr_spec.specs.Elsewhere.{HasAlong, HasClasses, KeptLines, KeptLegs, LegHasOurs, suffices}
use Rattle.olr_spec.specs.Ambiguity.{least_cosine, is_farther, usual_slack, obstacles}
use Rattle.olr_commands.specs.State.{Named, Content, IsContent}
use Rattle.olr_commands.specs.Ambiguities.{NamedObstacle, AskedAmbiguities}
use Rattle.olr_spec.specs.Laws.{OfReferences}

-- ---- the angle from the middle of a sector

-- 5.625 degrees after the boundaries 0 to 7
abbrev pub first_middle : List Vector
first_middle =
    vector (pos 98491) (pos 1000000) ∷ vector (pos 303347) (pos 1000000) ∷ vector (pos 534511) (pos 1000000)
    ∷ vector (pos 820679) (pos 1000000) ∷ vector (pos 1000000) (pos 820679) ∷ vector (pos 1000000) (pos 534511)
    ∷ vector (pos 1000000) (pos 303347) ∷ vector (pos 1000000) (pos 98491) ∷ []

abbrev pub middle : ℕ → Vector
middle k = slice_index_or (quarters 4 first_middle) k (vector (pos 0) (pos 0))

-- how far v leads along a direction m
abbrev pub along : Vector → Vector → ℤ
along m v = v.east *ℤ m.east +ℤ v.north *ℤ m.north

-- the angle between m and v has a tangent of at most t / 1000000
abbrev pub is_within : ℕ → Vector → Vector → Bool
is_within t m v = int_lt (pos 0) (along m v) && nat_le (1000000 * nat_abs (beyond m v)) (t * nat_abs (along m v))

abbrev pub count_where : (ℕ → Bool) → List ℕ → ℕ
count_where test [] = 0
count_where test (x ∷ xs) = (if test x then 1 else 0) + count_where test xs

-- the number of the limits ts, tangents in millionths, that the angle from the middle of sector k exceeds
abbrev pub exceeded : List ℕ → ℕ → Vector → ℕ
exceeded ts k v = count_where (λ t. not (is_within t (middle k) v)) ts

-- w is v, but for at most a 200th of each part: the direction with a slightly different cosine
pub record IsNearly (v w : Vector) : Type 0 where
  pub east : 200 * nat_abs (w.east -ℤ v.east) ≤ nat_abs v.east
  pub north : 200 * nat_abs (w.north -ℤ v.north) ≤ nat_abs v.north

-- ---- receivers

-- the difference of a direction from the sector of an LRP
pub record SeesDirections (apart : ℕ → Vector → ℕ) (reach : ℕ) : Type 0 where
  pub inside : (k : ℕ) (v : Vector) → IsSector v.east v.north k → apart k v ≤ reach
  pub outside : (k : ℕ) (v : Vector) → k < 32 → IsTrue (is_beyond k v) → reach < apart k v

-- any measure, any differences of FRC and FOW by which no other value is nearer than the same one, and a difference of
-- bearing that may depend on where the candidate is
pub record Differences : Type 0 where
  pub far : Measure
  pub slack : ℕ
  pub reach : ℕ
  pub frc_apart : ℕ → ℕ → ℕ
  pub fow_apart : ℕ → ℕ → ℕ
  pub bearing_apart : Coord → ℕ → Vector → ℕ
  pub frcs : (a b : ℕ) → frc_apart a a ≤ frc_apart a b
  pub fows : (a b : ℕ) → fow_apart a a ≤ fow_apart a b
  pub bearings : (c : Coord) → SeesDirections (bearing_apart c) reach

-- and any preference by which a candidate that is nowhere worse and somewhere better is preferred. One that is nearer by
-- more than the slack is preferred, too, if its FRC and FOW are no worse and its bearing differs by at most the reach: so
-- much the distance counts beside the bearing
pub record DirectionReceiver : Type 0 where
  pub by : Differences
  pub prefers : Rating → Rating → Bool
  pub monotone : (a b : Rating) → NowhereWorse a b → SomewhereBetter a b → IsTrue (prefers a b)
  pub nearer : (a b : Rating) → a.far + by.slack < b.far → a.frc ≤ b.frc → a.fow ≤ b.fow → a.bearing ≤ by.reach →
      IsTrue (prefers a b)
  pub strict : (a b : Rating) → IsTrue (prefers a b) → IsFalse (prefers b a)

abbrev pub rating_by : Differences → Lrp → Leg → Rating
rating_by d t g =
    let c = coordinate_on t.side g in
    let turn = d.bearing_apart c t.bearing (direction_on t.side g) in
    record { far = d.far t.place c; frc = d.frc_apart t.frc g.line.frc; fow = d.fow_apart t.fow g.line.fow; bearing = turn }

-- no candidate is preferred to line x
pub record TakesByDirection (D : DirectionReceiver) (M : Map) (t : Lrp) (x : ℕ) : Type 0 where
  pub known : IsTrue (has_line M x)
  pub best : (y : ℕ) → IsTrue (has_line M y) → IsFalse (D.prefers (rating_by D.by t (leg M y)) (rating_by D.by t (leg M x)))

-- a sum of the differences with weights
abbrev pub weighted : Rating → Rating → ℕ
weighted w a = w.far * a.far + w.frc * a.frc + w.fow * a.fow + w.bearing * a.bearing

-- ---- where the path's own candidate stands out

-- a candidate h beside the own one, g: it is farther from p by more than the slack, or it is no nearer, and its direction
-- is outside of the sector of g and its margin
abbrev pub is_outdone : Measure → ℕ → Side → ℤ × ℤ → Leg → Leg → Bool
is_outdone far slack s p g h =
    nat_lt (far p (coordinate_on s g) + slack) (far p (coordinate_on s h))
    || nat_le (far p (coordinate_on s g)) (far p (coordinate_on s h)) && is_beyond (sector_on s g) (direction_on s h)

abbrev pub stands_out : Measure → ℕ → Side → ℤ × ℤ → ℕ → Leg → List (ℕ × Leg) → Bool
stands_out far slack s p x g cs =
    is_direction (direction_on s g) && list_all (λ c. c.0 == x || is_outdone far slack s p g c.1) cs

-- Q holds of the path's own line at each LRP of the reference r
pub record AtEachLrp (g : Margin) (M : Map) (P : Path) (r : Reference) (Q : Side → ℕ → ℕ → Type 0) : Type 0 where
  pub outgoing : (k x : ℕ) → k < last_number r → IsLineAtWith g M P Outgoing k x → Q Outgoing k x
  pub incoming : (x : ℕ) → IsLineAtWith g M P Incoming (last_number r) x → Q Incoming (last_number r) x

abbrev pub DistinctByDirection : Margin → Measure → ℕ → Map → Path → Reference → Type 0
DistinctByDirection g far slack M P r =
    AtEachLrp g M P r (λ s k x. IsTrue (stands_out far slack s (decoded_coord r k) x (leg M x) (candidates M)))

-- ---- where the map alone shows it

-- by e units more than in is_spaced
abbrev pub is_spaced_by : ℕ → ℕ → ℕ → ℕ → Coord → Coord → Bool
is_spaced_by n d e k a b =
    nat_le (3 * decoded_bound k + e) (nat_abs (a.lat -ℤ b.lat))
    || nat_le (3 * (d * decoded_bound k) + d * e) (n * nat_abs (a.lon -ℤ b.lon))

-- the node of every other candidate is so far away, or it is the same node, and the candidate's direction is outside of the
-- sector of g and its margin
abbrev pub is_clear : ℕ → ℕ → ℕ → ℕ → Side → ℕ → Leg → List (ℕ × Leg) → Bool
is_clear n d e k s x g cs =
    is_direction (direction_on s g)
    && list_all (λ c. c.0 == x || is_spaced_by n d e k (coordinate_on s g) (coordinate_on s c.1)
    || node_on s c.1 == node_on s g && is_beyond (sector_on s g) (direction_on s c.1)) cs

-- ---- laws of a string, with a margin

pub record IsWeightedByLatitude (scale : ℕ) (far : Measure) (M : Map) (r : Reference) : Type 0 where
  pub unit : 0 < scale
  pub all : (s : Side) (k x : ℕ) → k ≤ last_number r → IsTrue (has_line M x) →
      Weighted (least_cosine (decoded_coord r k) (coordinate_on s (leg M x))) 1000000 scale far (decoded_coord r k)
      (coordinate_on s (leg M x))

-- the string is distinct for both kinds of receivers, whatever their differences and preferences are: for each such
-- measure, and each slack of at most the usual one
abbrev pub IsDistinctForAll : Margin → Map → Path → Reference → Type 0
IsDistinctForAll g M P r =
    (scale : ℕ) (far : Measure) → IsWeightedByLatitude scale far M r → (slack : ℕ) → slack ≤ scale * usual_slack →
    DistinctWith g far M P r × DistinctByDirection g far slack M P r

pub record StringLaws (g : Margin) : Type 0 where
  -- each LRP of an answer is decoded near its coordinate on the map, and nothing but these LRPs
  pub decoded_near : OfReferences g (λ M P r. (k v : ℕ) → IsPointWith g M P k v →
      (p : ℤ × ℤ) × (decoded r k ≡ Some p) × IsNear k p (coord_at M v))
  pub decoded_points : OfReferences g (λ M P r. (k : ℕ) → IsTrue (is_some (decoded r k)) → (v : ℕ) × IsPointWith g M P k v)
  -- together the legs are the lines from the first remaining LRP to the last
  pub stretches_join : (M : Map) (P : Path) (ws : List (List ℕ)) → IsStretchesWith g M P ws → IsKeptPartWith g M P (concat ws)
  -- an offset byte is off by less than a 256th of the first leg, or of the last
  pub offsets_close : OfReferences g (λ M P r. (ws : List (List ℕ)) → IsStretchesWith g M P ws → (front back : ℕ) →
      IsLeftWith g M P front back → (q : ℕ) → 0 < q →
      ((c : ℕ) → IsCut q (first (map (dm_of M) ws)) r.pos c → IsClose q (first (map (dm_of M) ws)) front c)
      × ((c : ℕ) → IsCut q (last (map (dm_of M) ws)) r.neg c → IsClose q (last (map (dm_of M) ws)) back c))
  -- the length of each leg is in the interval of its distance to the next point
  pub distances_close : OfReferences g (λ M P r. (ws : List (List ℕ)) → IsStretchesWith g M P ws →
      AllZip (λ a w. IsStep a (dm_of M w)) (attributes r) ws)
  -- an LRP's node is the nearest if the other nodes with candidates are three times the bound of decoding away
  pub own_is_nearest : OfReferences g (λ M P r. (n d scale : ℕ) (far : Measure) → IsWeighted n d scale far M r →
      AtEachLrp g M P r (λ s k x. IsTrue (are_spaced n d k s (leg M x) (candidates M)) →
      IsTrue (is_nearest far s (decoded_coord r k) (leg M x) (candidates M))))
  -- if at each LRP the path's own line stands out, every receiver that compares directions recovers the legs between the
  -- LRPs, and nothing else
  pub recovered_by_direction : (D : DirectionReceiver) → OfReferences g (λ M P r.
      DistinctByDirection g D.by.far D.by.slack M P r → (ws : List (List ℕ)) →
      RecoversBy (TakesByDirection D M) M r ws ↔ IsStretchesWith g M P ws)
  -- that the path's own line stands out can be tested without the decoded coordinates: the nodes of the other candidates
  -- are e units farther away than for own_is_nearest, and no other line at its node has a direction in its sector or the
  -- margin
  pub clear_stands_out : OfReferences g (λ M P r. (n d scale e : ℕ) (far : Measure) → IsWeighted n d scale far M r →
      AtEachLrp g M P r (λ s k x. IsTrue (is_clear n d e k s x (leg M x) (candidates M))) →
      DistinctByDirection g far (scale * e) M P r)
  -- if the path's own lines have no ambiguity, its string is distinct for both kinds of receivers
  pub clear_is_distinct : OfReferences g (λ M P r. (xs : List ℕ) → OwnLinesWith g M P xs → obstacles M r xs ≡ [] →
      IsDistinctForAll g M P r)

-- ---- laws of receivers, and of a content

-- the line that a receiver takes at each LRP of the reference r is the path's own
pub record TakesOwn (takes : Lrp → ℕ) (g : Margin) (M : Map) (P : Path) (r : Reference) : Type 0 where
  pub outgoing : (k x : ℕ) (a : Attrs) → slice_get (attributes r) k ≡ Some a → IsLineAtWith g M P Outgoing k x →
      takes (lrp_at r k a) ≡ x
  pub incoming : (x : ℕ) → IsLineAtWith g M P Incoming (last_number r) x → takes (last_lrp r) ≡ x

-- or the first line of the road that is the path's own line, at the last LRP the last line of it
pub record TakesRoads (takes : Lrp → ℕ) (chain : ℕ → List ℕ) (g : Margin) (M : Map) (P : Path) (r : Reference) : Type 0 where
  pub outgoing : (k x : ℕ) (a : Attrs) → slice_get (attributes r) k ≡ Some a → IsLineAtWith g M P Outgoing k x →
      takes (lrp_at r k a) ≡ first (chain x)
  pub incoming : (x : ℕ) → IsLineAtWith g M P Incoming (last_number r) x → takes (last_lrp r) ≡ last (chain x)

-- the roads of each leg
abbrev pub IsRoadsWith : Margin → Map → (ℕ → List ℕ) → Path → List (List ℕ) → Type 0
IsRoadsWith g M chain P ws =
    OfPathWith g M P (λ E _ _ js. ws ≡ map (chains chain) (stretches E.lines (kept_points (legs M E.lines) E.pos E.neg js)))

pub record StandsFor (g : Margin) (M : Map) (p : Named) (e : NamedObstacle) : Type 0 where
  pub reference : Reference
  pub lines : List ℕ
  pub encodes : EncodesWith g M p.path (Points reference)
  pub own : OwnLinesWith g M p.path lines
  pub name : e.name ≡ p.name
  pub stands : Contains (obstacles M reference lines) (e.lrp, e.obstacle)

pub record ReceiverLaws : Type 0 where
  -- each measure is that of some receiver
  pub some_receiver : (far : Measure) → (R : Receiver) × (R.far ≡ far)
  -- the weighted sum of both axes is such a measure, with any cosines that at these coordinates are in range
  pub some_weighted : (n d scale : ℕ) (cosine : Measure) (M : Map) (r : Reference) → 0 < d → 0 < scale →
      IsTrue (are_cosines n d scale cosine M r) →
      IsWeighted n d scale (λ p c. cosine p c * lon_apart p c + scale * lat_apart p c) M r
  -- a difference that counts which limits the angle from the middle of the sector exceeds, one of them between 5.94 and
  -- 8.08 degrees, by any direction that is nearly that of the candidate
  pub sees_by_limits : (ts : List ℕ) (t : ℕ) → IsTrue (has ts t) → 104000 ≤ t → t ≤ 142000 → (seen : Vector → Vector) →
      ((v : Vector) → IsNearly v (seen v)) →
      SeesDirections (λ k v. exceeded ts k (seen v)) (count_where (λ u. nat_lt u 104000) ts)
  -- any positive weights of the differences, by whose sum a candidate is preferred, are those of some receiver, if the
  -- weight of the slack is at least that of the reach
  pub some_by_weights : (d : Differences) (w : Rating) → 0 < w.far → 0 < w.frc → 0 < w.fow → 0 < w.bearing →
      w.bearing * d.reach ≤ w.far * d.slack → (D : DirectionReceiver) × (D.by ≡ d)
      × ((a b : Rating) → D.prefers a b ≡ nat_lt (weighted w a) (weighted w b))
  -- a partner's map has the lines of the path, and within reach of each leg no line that ours lacks; their lengths and
  -- classes differ from ours within the margin: there a receiver that takes the right line at each LRP of the path's string
  -- recovers the legs between them, and nothing else
  pub read_elsewhere : (c : Content) → IsContent c → (N : Map) → IsMap N → (a b : ℕ) → IsTrue (suffices c.margin a b) →
      (p : Named) → Contains c.paths p → (r : Reference) → EncodesWith c.margin c.map p.path (Points r) →
      KeptLines c.margin c.map p.path (HasAlong a c.map N) → KeptLines c.margin c.map p.path (HasClasses c.margin c.map N) →
      KeptLegs c.margin c.map p.path (LegHasOurs c.margin b c.map N) → (takes : Lrp → ℕ) →
      TakesOwn takes c.margin c.map p.path r → (ws : List (List ℕ)) →
      RecoversBy (λ t y. y ≡ takes t) N r ws ↔ IsStretchesWith c.margin c.map p.path ws
  -- and on one that splits roads it recovers the roads of the legs
  pub read_on_roads : (c : Content) → IsContent c → (N : Map) → IsMap N → (a b : ℕ) → IsTrue (suffices c.margin a b) →
      (chain : ℕ → List ℕ) → (p : Named) → Contains c.paths p → (r : Reference) → EncodesWith c.margin c.map p.path (Points r) →
      KeptLines c.margin c.map p.path (HasRoadsAlong c.margin a c.map N chain) →
      HasKeptRoads c.margin b c.map N chain p.path → (takes : Lrp → ℕ) →
      TakesRoads takes chain c.margin c.map p.path r → (ws : List (List ℕ)) →
      RecoversBy (λ t y. y ≡ takes t) N r ws ↔ IsRoadsWith c.margin c.map chain p.path ws
  -- a path with a string that the answer to the question about all paths doesn't name is distinct for both kinds of
  -- receivers
  pub unnamed_is_distinct : (c : Content) → IsContent c → (es : List NamedObstacle) → AskedAmbiguities c None es →
      (p : Named) → Contains c.paths p → ((e : NamedObstacle) → Contains es e → e.name ≢ p.name) → (r : Reference) →
      EncodesWith c.margin c.map p.path (Points r) → IsDistinctForAll c.margin c.map p.path r
  -- and each thing in the answer is an ambiguity of the string of one of the paths
  pub named_stands : (c : Content) (es : List NamedObstacle) → AskedAmbiguities c None es → (e : NamedObstacle) →
      Contains es e → (p : Named) × Contains c.paths p × StandsFor c.margin c.map p e
  -- no test of nodes names fewer for all these receivers: where a node isn't farther by more than e units, there is such a
  -- measure, for each map and each LRP, by which it isn't
  pub no_sharper_test : (e : ℕ) (p : ℤ × ℤ) (c d : Coord) → IsFalse (is_farther e p c d) →
      (far : Measure) × ((q : ℤ × ℤ) (v : Coord) → Weighted (least_cosine q v) 1000000 1000000 far q v)
      × (far p d ≤ far p c + 1000000 * e)
