-- Nodes in the cells of a grid.
--     cells_from low z      the number of cells between two coordinates, of which z is the higher one
--     cell_of c      the number of a coordinate's cell, row by row
--     ArePlaced M es      each is a node of the map, with its coordinate and its cell
--     IsGridOf M F es, IsGrid M es      among them each of the nodes F, in ascending order of cells; of all nodes
--     HasRivals M s p x es      a grid with each rival of line x at an LRP that is decoded as p
--     AreAdded rival es old new      those of these nodes that are rivals were added
--     is_in w c      a coordinate is within these latitudes and longitudes
--     IsWindow p c w      each coordinate of a map that isn't farther from p than c, by more than the slack, is in the window
--     Covers bounds ws      the latitudes of these windows are within bounds
--     AreWindows M r xs ws      those of the lines xs at the LRPs of r
--     AreNodes M ids places      the nodes in their slots, and beside each its coordinate
use Rattle.std.specs.Prelude.{◌≡◌, ℕ, ◌+◌, ◌*◌, ◌/◌, ◌≤◌, ℤ, pos, ◌-ℤ◌, ◌≤ℤ◌, neg_ℤ, nat_abs, Bool, ◌&&◌, List, All, Contains, ◌⊎◌, ◌↔◌, IsTrue, IsFalse}
use Rattle.std.specs.Prelude.{Option, Some, slice_get}
use Rattle.std.specs.FinMap.{get}
use Rattle.std.specs.List.Sorted.{IsNonDecreasingBy}
use Rattle.olr_spec.specs.Coordinates.{Coord, is_coord, within}
use Rattle.olr_spec.specs.Map.{Map, has_node, coord_at}
use Rattle.olr_spec.specs.Reference.{Reference, leg}
use Rattle.olr_spec.specs.Receiver.{Side, coordinate_on, decoded_coord}
use Rattle.olr_spec.specs.Ambiguity.{is_farther, is_rival, side_at, usual_slack}
use Rattle.olr_bearing.specs.Ranges.{degree_units}
use Rattle.olr_ambiguity.specs.declared.grid.Placed.{Placed}
use Rattle.olr_ambiguity.specs.declared.rivals.Window.{Window}

-- the number of cells in a row, and the last row and column
abbrev pub columns : ℕ
columns = 2097152

abbrev pub last_cell : ℕ
last_cell = 2097151

-- a cell is 67,108,864 units wide, 23 m of latitude
abbrev pub cells_from : ℤ → ℤ → ℕ
cells_from low z = nat_abs (z -ℤ low) / 67108864

abbrev pub cell_at : ℕ → ℕ → ℕ
cell_at row column = row * columns + column

abbrev pub cell_of : Coord → ℕ
cell_of c = cell_at (cells_from (neg_ℤ (pos (degree_units 90))) c.lat) (cells_from (neg_ℤ (pos (degree_units 180))) c.lon)

abbrev pub ArePlaced : Map → List Placed → Type 0
ArePlaced M es = (e : Placed) → Contains es e →
    IsTrue (has_node M e.node) × (e.place ≡ coord_at M e.node) × (e.cell ≡ cell_of e.place)

pub record IsGridOf (M : Map) (F : ℕ → Type 0) (es : List Placed) : Type 0 where
  pub right : ArePlaced M es
  pub whole : (v : ℕ) → F v → (e : Placed) × Contains es e × (e.node ≡ v)
  pub sorted : IsNonDecreasingBy (λ e. e.cell) es

abbrev pub IsGrid : Map → List Placed → Type 0
IsGrid M es = IsGridOf M (λ v. IsTrue (has_node M v)) es

abbrev pub HasRivals : Map → Side → ℤ × ℤ → ℕ → List Placed → Type 0
HasRivals M s p x es = IsGridOf M (λ v. IsTrue (is_rival M s p x v)) es

abbrev pub is_in : Window → Coord → Bool
is_in w c = within w.lat.0 w.lat.1 c.lat && within w.lon.0 w.lon.1 c.lon

pub record IsWindow (p : ℤ × ℤ) (c : Coord) (w : Window) : Type 0 where
  pub whole : (d : Coord) → IsTrue (is_coord d) → IsFalse (is_farther usual_slack p c d) → IsTrue (is_in w d)
  pub lat : (nat_abs w.lat.0 ≤ degree_units 90) × (nat_abs w.lat.1 ≤ degree_units 90)
  pub lon : (nat_abs w.lon.0 ≤ degree_units 180) × (nat_abs w.lon.1 ≤ degree_units 180)

abbrev pub Covers : ℤ × ℤ → List Window → Type 0
Covers bounds ws = All (λ w. (bounds.0 ≤ℤ w.lat.0) × (w.lat.1 ≤ℤ bounds.1)) ws

abbrev pub AreWindows : Map → Reference → List ℕ → List Window → Type 0
AreWindows M r xs ws =
    (k x : ℕ) → slice_get xs k ≡ Some x →
    (w : Window) × Contains ws w × IsWindow (decoded_coord r k) (coordinate_on (side_at r k) (leg M x)) w

-- a free slot has no node
abbrev pub AreNodes : Map → List (Option ℕ) → List Coord → Type 0
AreNodes M ids places = (v : ℕ) (c : Coord) →
    (get M.nodes v ≡ Some c) ↔ ((k : ℕ) × (slice_get ids k ≡ Some (Some v)) × (slice_get places k ≡ Some c))

-- those of these nodes that are rivals were added
pub record AreAdded (rival : ℕ → Bool) (es : List Placed) (old new : List ℕ) : Type 0 where
  pub sound : (v : ℕ) → Contains new v → Contains old v ⊎ IsTrue (rival v)
  pub kept : (v : ℕ) → Contains old v → Contains new v
  pub whole : (e : Placed) → Contains es e → IsTrue (rival e.node) → Contains new e.node
