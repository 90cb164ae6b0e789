-- The values and the maps of the worked rows, calculated by hand.
--     Gives f rows, AllGive f xs y      what a function gives for some values
--     line_between v w ..      a line with its attributes and the coordinates of its ends
--     legs1, reference1, bytes1      the first worked path, of three lines; its reference with three LRPs, and the
--         bytes of it
--     offset_bytes_of, bytes2      the bytes of its first line alone, with an offset, and with other bytes
--     straight_leg, slanted_leg lat      lines of the rows on bearings
--     morning_lines, twin_lines      all lines of the first worked path's map, and those of one where line 20 has a
--         twin
--     axes_sum, by_cosine      measures: the sum of both axes, and the sum with the cosine of the latitude
--     map_of ns ls      the map of these nodes and lines, whose numbers ascend
--     morning_map, morning_path      the map of the first worked path, and this path
--     fork_map, fork_path, fork_reference      a map with two lines from node 1 in one sector, of other classes; a path
--         along one of them, and its reference
--     roads a b      from node 2 to node 3 line 20 of length a, on which the path is, and line 21 of length b
--     roads_path      the lines of the path
--     theirs      a partner's map of these roads, of 1,024 and 1,035 dm, with lines that ours lacks: 40 in another town, 41 of a
--         class below that of the reference, and 42, which begins behind the leg
--     split_roads, split_chain      a partner's map on which line 20 is split in two at node 5
--     loop_map, loop_path      a path that comes to node 2 twice, and goes on to node 3 by line 11, of 100 dm, and then by the
--         lines 14 and 15, of 49 and 51 dm
--     TakesOther      a receiver that compares directions takes the other one
use Rattle.std.specs.Prelude.{◌≡◌, ℕ, ◌+◌, ◌-◌, ◌*◌, ◌/◌, List, [], ◌∷◌, pos, neg_ℤ, nat_abs, map, Some, None}
use Rattle.std.specs.Prelude.{◌==◌, if◌then◌else◌}
use Rattle.olr_spec.specs.Coordinates.{Coord, coord}
use Rattle.olr_spec.specs.Map.{ShapePoint, Map, Line}
use Rattle.olr_spec.specs.Bearings.{Leg, thousandths}
use Rattle.olr_spec.specs.Reference.{Attrs, Reference}
use Rattle.olr_spec.specs.Receiver.{Measure, lrp_at}
use Rattle.olr_spec.specs.Recovery.{lon_apart, lat_apart}
use Rattle.std.specs.FinMap.{from_sorted}
use Rattle.olr_spec.specs.Extension.{Path}
use Rattle.olr_spec.specs.Margins.{Margin}
use Rattle.olr_laws.specs.ReceiverLaws.{DirectionReceiver, TakesByDirection, exceeded}

-- a value and what f gives for it, row by row
abbrev pub Gives : {X Y : Type 0} → (X → Y) → List (X × Y) → Type 0
Gives {X} {Y} f rows = map (λ (r : X × Y). f r.0) rows ≡ map (λ (r : X × Y). r.1) rows

-- for each of these values f gives y
abbrev pub AllGive : {X Y : Type 0} → (X → Y) → List X → Y → Type 0
AllGive {X} {Y} f xs y = map f xs ≡ map (λ (x : X). y) xs

-- a coordinate north of the equator and east of Greenwich
abbrev pub place : ℕ → ℕ → Coord
place lon lat = coord (pos lon) (pos lat)

abbrev pub bend : ℕ → Coord → ShapePoint
bend at p = record { at = at; place = p }

-- from node v to node w, of this class, form, length and shape, and the coordinates of its ends
abbrev pub line_between : ℕ → ℕ → ℕ → ℕ → ℕ → List ShapePoint → Coord → Coord → Leg
line_between v w frc fow len shape begin finish =
    record {
      line = record { from = v; to = w; frc = frc; fow = fow; len = len; shape = shape };
      begin = begin;
      finish = finish;
    }

-- ---- the first worked path

abbrev pub leg10 : Leg
leg10 =
    line_between 1 2 3 2 5610
    (bend 200 (place 2007698636800 16255673958400) ∷ bend 5410 (place 2008088576000 16254281318400) ∷ [])
    (place 2007639654400 16255719833600) (place 2008147558400 16254235443200)

abbrev pub leg20 : Leg
leg20 =
    line_between 2 3 3 3 2000 (bend 200 (place 2008088576000 16254202675200) ∷ []) (place 2008147558400 16254235443200)
    (place 2007990272000 16254074880000)

abbrev pub leg30 : Leg
leg30 =
    line_between 3 4 5 3 740 (bend 540 (place 2007996825600 16253947084800) ∷ []) (place 2007990272000 16254074880000)
    (place 2008078745600 16253930700800)

abbrev pub legs1 : List Leg
legs1 = leg10 ∷ leg20 ∷ leg30 ∷ []

abbrev attrs : ℕ → ℕ → ℕ → ℕ → ℕ → Attrs
attrs frc fow lfrc bearing dnp = record { frc = frc; fow = fow; lfrc = lfrc; bearing = bearing; dnp = dnp }

abbrev pub reference1 : Reference
reference1 =
    record {
      first = record { lon = pos 285531; lat = pos 2311925; attrs = attrs 3 2 3 12 9 };
      middle = record { dlon = pos 155; dlat = neg_ℤ (pos 453); attrs = attrs 3 3 5 20 4 } ∷ [];
      last = record { dlon = neg_ℤ (pos 21); dlat = neg_ℤ (pos 93); frc = 5; fow = 3; bearing = 25 };
      pos = Some 68;
      neg = None;
    }

-- the reference of the second worked path
abbrev pub reference2 : Reference
reference2 =
    record {
      first = reference1.first;
      middle = [];
      last = record { dlon = pos 155; dlat = neg_ℤ (pos 453); frc = 3; fow = 2; bearing = 28 };
      pos = None;
      neg = None;
    }

-- the first byte, the coordinate, the attributes and the DNP of line 10, the relative coordinate of its end, and further bytes
abbrev pub bytes_of : ℕ → ℕ → List ℕ → List ℕ
bytes_of status attribute rest =
    status ∷ 0x04 ∷ 0x5b ∷ 0x5b ∷ 0x23 ∷ 0x46 ∷ 0xf5 ∷ attribute ∷ 0x6c ∷ 0x09 ∷ 0x00 ∷ 0x9b ∷ 0xfe ∷ 0x3b ∷ rest

-- CwRbWyNG9RpsCQCb/jsbtAT/6/+jK1lE in base64
abbrev pub bytes1 : List ℕ
bytes1 = bytes_of 0x0b 0x1a (0x1b ∷ 0xb4 ∷ 0x04 ∷ 0xff ∷ 0xeb ∷ 0xff ∷ 0xa3 ∷ 0x2b ∷ 0x59 ∷ 0x44 ∷ [])

-- line 10 alone with a positive offset, whose byte is the last
abbrev pub offset_bytes_of : ℕ → List ℕ
offset_bytes_of byte = bytes_of 0x0b 0x1a (0x1a ∷ 0x5c ∷ byte ∷ [])

-- line 10 alone, with another version in the first byte, or another attribute byte: they decode to no reference
abbrev pub bytes2 : ℕ → ℕ → List ℕ
bytes2 status attribute = bytes_of status attribute (0x1a ∷ 0x1c ∷ [])

-- ---- lines for bearings

-- from (0, 0) to (0.001, 0) degrees
abbrev pub straight_leg : Leg
straight_leg = line_between 1 2 4 3 1000 [] (place 0 0) (place 327680000 0)

-- from (0, 60) to (0.001, lat), lat in units
abbrev pub slanted_leg : ℕ → Leg
slanted_leg lat = line_between 1 2 4 3 700 [] (place 0 19660800000000) (place 327680000 lat)

-- ---- candidates

-- from node 2 to node 3, as line 20, but shorter and of a lower class
abbrev pub leg99 : Leg
leg99 = line_between 2 3 4 3 1500 [] leg20.begin leg20.finish

abbrev pub morning_lines : List (ℕ × Leg)
morning_lines = (10, leg10) ∷ (20, leg20) ∷ (30, leg30) ∷ (99, leg99) ∷ []

abbrev pub twin_lines : List (ℕ × Leg)
twin_lines = (10, leg10) ∷ (20, leg20) ∷ (21, leg20) ∷ (30, leg30) ∷ []

abbrev pub axes_sum : Measure
axes_sum p c = lon_apart p c + lat_apart p c

-- the cosine of the latitude of c in millionths, rounded down, by the formula of the bearings
abbrev pub cosine : Measure
cosine p c =
    let m = nat_abs (thousandths c.lat) in
    1000000 * (4 * (8100000000 - m * m)) / (32400000000 + m * m)

-- the difference in longitude times this cosine, and that in latitude
abbrev pub by_cosine : Measure
by_cosine p c = cosine p c * lon_apart p c + 1000000 * lat_apart p c

-- ---- maps

abbrev pub map_of : List (ℕ × Coord) → List (ℕ × Line) → Map
map_of ns ls = record { nodes = from_sorted ns; lines = from_sorted ls }

-- over these lines, with these offsets
abbrev pub path_of : List ℕ → ℕ → ℕ → Path
path_of lines positive negative = record { lines = lines; pos = positive; neg = negative }

abbrev pub morning_nodes : List (ℕ × Coord)
morning_nodes = (1, leg10.begin) ∷ (2, leg10.finish) ∷ (3, leg20.finish) ∷ (4, leg30.finish) ∷ []

abbrev pub morning_records : List (ℕ × Line)
morning_records = (10, leg10.line) ∷ (20, leg20.line) ∷ (30, leg30.line) ∷ (99, leg99.line) ∷ []

abbrev pub morning_map : Map
morning_map = map_of morning_nodes morning_records

abbrev pub morning_path : Path
morning_path = path_of (10 ∷ 20 ∷ 30 ∷ []) 1500 0

-- ---- two lines in one sector

-- in sector 4, which begins at 45 degrees: at 46 degrees, and at its middle
abbrev pub fork10 : Leg
fork10 = line_between 1 2 3 3 4890 [] (place 0 0) (place 1035500000 1000000000)

abbrev pub fork11 : Leg
fork11 = line_between 1 3 2 3 5360 [] (place 0 0) (place 1218503000 1000000000)

abbrev pub fork_nodes : List (ℕ × Coord)
fork_nodes = (1, fork10.begin) ∷ (2, fork10.finish) ∷ (3, fork11.finish) ∷ []

abbrev pub fork_records : List (ℕ × Line)
fork_records = (10, fork10.line) ∷ (11, fork11.line) ∷ []

abbrev pub fork_map : Map
fork_map = map_of fork_nodes fork_records

abbrev pub fork_lines : List (ℕ × Leg)
fork_lines = (10, fork10) ∷ (11, fork11) ∷ []

abbrev pub fork_path : Path
fork_path = path_of (10 ∷ []) 0 0

abbrev pub fork_reference : Reference
fork_reference =
    record {
      first = record { lon = pos 0; lat = pos 0; attrs = record { frc = 3; fow = 3; lfrc = 3; bearing = 4; dnp = 8 } };
      middle = [];
      last = record { dlon = pos 316; dlat = pos 305; frc = 3; fow = 3; bearing = 20 };
      pos = None;
      neg = None;
    }

-- the tangents of 1 to 10 degrees, in millionths
abbrev pub degrees10 : List ℕ
degrees10 = 17455 ∷ 34921 ∷ 52408 ∷ 69927 ∷ 87489 ∷ 105104 ∷ 122785 ∷ 140541 ∷ 158384 ∷ 176327 ∷ []

-- a receiver that counts the degrees from the middle of the sector, at the first LRP
abbrev pub TakesOther : Type 0
TakesOther =
    (D : DirectionReceiver) × (D.by.far ≡ axes_sum) × (D.by.bearing_apart ≡ (λ c. exceeded degrees10))
    × TakesByDirection D fork_map (lrp_at fork_reference 0 fork_reference.first.attrs) 11
    × ¬ TakesByDirection D fork_map (lrp_at fork_reference 0 fork_reference.first.attrs) 10

-- ---- margins, in decimetres

-- 50 thousandths and one class
abbrev pub fifty : Margin
fifty = record { routes = 50; classes = 1 }

abbrev pub row_line : ℕ → ℕ → ℕ → Line
row_line v w len = record { from = v; to = w; frc = 3; fow = 3; len = len; shape = [] }

abbrev pub row_nodes : List (ℕ × Coord)
row_nodes =
    (1, place 0 0) ∷ (2, place 100000000 0) ∷ (3, place 200000000 0) ∷ (4, place 300000000 0) ∷ (5, place 150000000 100000000)
    ∷ (6, place 400000000 0) ∷ []

abbrev pub roads_records : ℕ → ℕ → List (ℕ × Line)
roads_records a b = (10, row_line 1 2 100) ∷ (20, row_line 2 3 a) ∷ (21, row_line 2 3 b) ∷ (30, row_line 3 4 100) ∷ []

abbrev pub roads : ℕ → ℕ → Map
roads a b = map_of row_nodes (roads_records a b)

abbrev pub roads_path : List ℕ
roads_path = 10 ∷ 20 ∷ 30 ∷ []

abbrev pub theirs_records : List (ℕ × Line)
theirs_records =
    (10, row_line 1 2 100) ∷ (20, row_line 2 3 1024) ∷ (21, row_line 2 3 1035) ∷ (30, row_line 3 4 100) ∷ (40, row_line 5 6 7)
    ∷ (41, record (row_line 2 3 10) { frc = 7 }) ∷ (42, row_line 4 2 1) ∷ []

abbrev pub theirs : Map
theirs = map_of row_nodes theirs_records

abbrev pub split_records : List (ℕ × Line)
split_records =
    (10, row_line 1 2 100) ∷ (21, row_line 2 3 1035) ∷ (30, row_line 3 4 100) ∷ (201, row_line 2 5 512)
    ∷ (202, row_line 5 3 512) ∷ []

abbrev pub split_roads : Map
split_roads = map_of row_nodes split_records

abbrev pub split_chain : ℕ → List ℕ
split_chain x = if x == 20 then 201 ∷ 202 ∷ [] else x ∷ []

abbrev pub loop_records : List (ℕ × Line)
loop_records =
    (10, row_line 1 2 100) ∷ (11, row_line 2 3 100) ∷ (12, row_line 3 4 300) ∷ (13, row_line 4 2 300) ∷ (14, row_line 2 5 49)
    ∷ (15, row_line 5 3 51) ∷ (16, row_line 3 6 200) ∷ []

abbrev pub loop_map : Map
loop_map = map_of row_nodes loop_records

abbrev pub loop_path : List ℕ
loop_path = 10 ∷ 11 ∷ 12 ∷ 13 ∷ 14 ∷ 15 ∷ 16 ∷ []
