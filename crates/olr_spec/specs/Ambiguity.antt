-- The ambiguities of a string, by the coordinates that are decoded from it.
--     cosine_up_to lat, least_cosine p c      a lower bound of the cosines of receivers between an LRP that is decoded as p and a node at c
--     is_farther e p c d      a node at d is farther from p than one at c, by more than e units, for each of them
--     usual_slack      3.4 m, by which a node may be farther and its candidates matter by their directions
--     is_outdone_for_all s p g h      the candidate h is outdone by g, for each receiver
--     lines_on s M v, all_nodes M      the candidates at a node; all nodes
--     is_twin_of, is_unclear, is_rival      another line that is a twin; one that isn't, by its direction; another node
--     Obstacle      an ambiguity at an LRP
--     obstacles_at M s p x      the ambiguities of line x at an LRP that is decoded as p
--     obstacles M r xs      the same of the lines xs at all LRPs of a reference, each with the number of the LRP
use Rattle.std.specs.Prelude.{ℕ, suc, ◌+◌, ◌-◌, ◌*◌, ◌/◌, max, ℤ, nat_abs, Bool, not, ◌&&◌, ◌||◌, ◌==◌, nat_lt, List}
use Rattle.std.specs.Prelude.{[], ◌∷◌, ◌++◌, map, filter, if◌then◌else◌}
use Rattle.std.specs.List.{list_any}
use Rattle.std.specs.FinMap.{entries}
use Rattle.olr_spec.specs.Coordinates.{Coord}
use Rattle.olr_spec.specs.Map.{Map, lines_in, lines_out}
use Rattle.olr_spec.specs.Bearings.{Leg}
use Rattle.olr_spec.specs.Reference.{Reference, leg}
use Rattle.olr_spec.specs.Receiver.{Side, Outgoing, Incoming, node_on, coordinate_on, sector_on, are_twins}
use Rattle.olr_spec.specs.Receiver.{decoded_coord, last_number}
use Rattle.olr_spec.specs.Recovery.{lon_apart, lat_apart}
use Rattle.olr_spec.specs.Directions.{direction_on, is_direction, is_beyond}

-- ---- nodes

-- an absolute latitude in whole thousandths of a degree, rounded up
abbrev pub thousandths_up : ℕ → ℕ
thousandths_up lat = lat / 327680000 + 1

-- in millionths: 98 hundredths of Bhaskara's cosine at this latitude (profile)
abbrev pub cosine_up_to : ℕ → ℕ
cosine_up_to lat =
    let m = thousandths_up lat in
    980000 * (4 * (8100000000 - m * m)) / (32400000000 + m * m)

-- at the greater of the two latitudes
abbrev pub least_cosine : ℤ × ℤ → Coord → ℕ
least_cosine p c = cosine_up_to (max (nat_abs p.1) (nat_abs c.lat))

-- the sum of both axes to c, and e, is less than the latitude's part to d, or than the longitude's, times the least cosine
abbrev pub is_farther : ℕ → ℤ × ℤ → Coord → Coord → Bool
is_farther e p c d =
    let near = lon_apart p c + lat_apart p c + e in
    nat_lt near (lat_apart p d) || nat_lt (1000000 * near) (least_cosine p d * lon_apart p d)

-- in units: so much nearer a node has to be before its bearing doesn't matter (profile)
abbrev pub usual_slack : ℕ
usual_slack = 10000000

-- it is farther by more than the slack, or it is farther, and its direction is outside of the sector of g and its margin
abbrev pub is_outdone_for_all : Side → ℤ × ℤ → Leg → Leg → Bool
is_outdone_for_all s p g h =
    is_farther usual_slack p (coordinate_on s g) (coordinate_on s h)
    || is_farther 0 p (coordinate_on s g) (coordinate_on s h) && is_beyond (sector_on s g) (direction_on s h)

-- ---- the candidates of a map, by node

abbrev pub lines_on : Side → Map → ℕ → List ℕ
lines_on Outgoing M v = lines_out M v
lines_on Incoming M v = lines_in M v

-- in ascending order
abbrev pub all_nodes : Map → List ℕ
all_nodes M = map (λ e. e.0) (entries M.nodes)

-- ---- one LRP

-- by their numbers
pub data Obstacle : Type 0 where
  Same_sector Other_bearing : (line : ℕ) → Obstacle
  Other_node : (node : ℕ) → Obstacle

-- line y is another one at the node of line x, and no receiver can tell them apart
abbrev pub is_twin_of : Map → Side → ℕ → ℕ → Bool
is_twin_of M s x y = not (y == x) && are_twins s (leg M x) (leg M y)

-- line y is another one at the node of line x, and its direction is not outside of the sector and the margin; or it is
-- line x, and has no direction
abbrev pub is_unclear : Map → Side → ℕ → ℕ → Bool
is_unclear M s x y =
    if y == x
    then not (is_direction (direction_on s (leg M x)))
    else not (are_twins s (leg M x) (leg M y)) && not (is_beyond (sector_on s (leg M x)) (direction_on s (leg M y)))

-- w is another node with a candidate that isn't outdone
abbrev pub is_rival : Map → Side → ℤ × ℤ → ℕ → ℕ → Bool
is_rival M s p x w =
    not (w == node_on s (leg M x))
    && list_any (λ y. not (is_outdone_for_all s p (leg M x) (leg M y))) (lines_on s M w)

-- each kind in ascending order
abbrev pub obstacles_at : Map → Side → ℤ × ℤ → ℕ → List Obstacle
obstacles_at M s p x =
    let ys = lines_on s M (node_on s (leg M x)) in
    map (λ y. Same_sector y) (filter (is_twin_of M s x) ys)
    ++ map (λ y. Other_bearing y) (filter (is_unclear M s x) ys)
    ++ map (λ w. Other_node w) (filter (is_rival M s p x) (all_nodes M))

-- ---- a reference

abbrev pub side_at : Reference → ℕ → Side
side_at r k = if nat_lt k (last_number r) then Outgoing else Incoming

-- from LRP k on
abbrev pub obstacles_from : Map → Reference → ℕ → List ℕ → List (ℕ × Obstacle)
obstacles_from M r k [] = []
obstacles_from M r k (x ∷ xs) =
    map (λ o. (k, o)) (obstacles_at M (side_at r k) (decoded_coord r k) x) ++ obstacles_from M r (suc k) xs

abbrev pub obstacles : Map → Reference → List ℕ → List (ℕ × Obstacle)
obstacles M r xs = obstacles_from M r 0 xs
