-- The nodes of a range of cells, and of a window.
use Rattle.olr_ambiguity.proofs.Common.{◌≡◌, length, get_or, IsTrue, arith, Placed, Window, cell_at, IsWindow, AreAdded, nat_lt, true, false}
use Rattle.olr_ambiguity.proofs.Common.{ℕ, ◌+◌, ◌-◌, ◌<◌, ◌≤◌, inl, inr, ℤ, Bool, List, take, drop, ◌∙◌, subst, Map, Coord}
use Rattle.olr_ambiguity.proofs.Common.{Contains, ap, cases_lt, ltb-true, ltb-false, coord_at, cells_from, IsGridOf}
use Rattle.olr_ambiguity.proofs.Common.{IsFalse, get_or-drop, get_or-take, length-drop, length-take-le, is_farther, usual_slack}
use Rattle.olr_ambiguity.proofs.Common.{IsMap, is_coord, within, neg_ℤ, pos, and_parts, degree_units}
use Rattle.olr_ambiguity.proofs.Windows.{cells_within}
use Rattle.std.specs.List.Sorted.{IsPartitionPoint}

-- the position of the first element in the cell `first` or a later one
abbrev pub Starts : List Placed → ℕ → ℕ → Type 0
Starts es first i = IsPartitionPoint (λ e. nat_lt e.cell first ≡ true) (λ e. nat_lt e.cell first ≡ false) es i

-- an element whose cell is within is between the two positions
between : (es : List Placed) (first end i j k : ℕ) (e : Placed) → Starts es first i → Starts es end j → k < length es →
    get_or es k e ≡ e → first ≤ e.cell → e.cell < end → (i ≤ k) × (k < j)
between es first end i j k e s f lt at low high = grind (arith, s.0 k e, f.1 k e, cases_lt, ltb-true, ltb-false)

-- from position i on, or from an earlier one
pub in_range : (es : List Placed) (first end i n j : ℕ) → Starts es first i → Starts es end j → n ≤ i → j ≤ length es →
    (e : Placed) → Contains es e → first ≤ e.cell → e.cell < end → Contains (take (j - n) (drop n es)) e
in_range es first end i n j s f few more e h low high =
    let b = between es first end i j h.0 e s f h.1 h.2 low high in
    let k = h.0 - n in
    let on : n + k ≡ h.0 = omega (arith, b.0, few) in
    let long : length (take (j - n) (drop n es)) ≡ j - n = length-take-le (j - n) (drop n es) (omega (arith, length-drop n es, more)) in (
      k,
      omega (arith, long, b.0, b.1, few),
      get_or-take (j - n) (drop n es) k e (omega (arith, b.0, b.1, few)) ∙ get_or-drop n es k e ∙ ap (λ (m : ℕ). get_or es m e) on ∙ h.2,
    )

-- a grid of other nodes, each of which it has
pub grid_more : (M : Map) (F G : ℕ → Type 0) (es : List Placed) → IsGridOf M F es → ((v : ℕ) → G v → F v) → IsGridOf M G es
grid_more M F G es g more = grind (arith, more, g.whole)

-- ---- rows of a window

-- what was found in the rows from `start` up to this one, in the columns from c0 to c1
pub record Rows (rival : ℕ → Bool) (es : List Placed) (start c0 c1 row : ℕ) (found : List ℕ) : Type 0 where
  pub sound : (v : ℕ) → Contains found v → IsTrue (rival v)
  pub whole : (e : Placed) (r : ℕ) → Contains es e → IsTrue (rival e.node) → start ≤ r → r < row →
      cell_at r c0 ≤ e.cell → e.cell ≤ cell_at r c1 → Contains found e.node

pub rows_more : (rival : ℕ → Bool) (es near : List Placed) (start c0 c1 row : ℕ) (old new : List ℕ) → Rows rival es start c0 c1 row old →
    AreAdded rival near old new →
    ((e : Placed) → Contains es e → cell_at row c0 ≤ e.cell → e.cell ≤ cell_at row c1 → Contains near e) →
    Rows rival es start c0 c1 (row + 1) new
rows_more rival es near start c0 c1 row old new h n all =
    record {
      sound = λ v there. elim (n.sound v there) [ inl before ↦ h.sound v before | inr is ↦ is ];
      whole = λ e r there is low high a b. elim (cases_lt r row) [
        | inl before ↦ n.kept e.node (h.whole e r there is low before a b)
        | inr last ↦
            let here : r ≡ row = omega (arith, high, last) in
            let first = subst (λ (q : ℕ). cell_at q c0 ≤ e.cell) here a in
            let end = subst (λ (q : ℕ). e.cell ≤ cell_at q c1) here b in
            n.whole e (all e there first end) is
      ];
    }

-- each rival was looked at: it isn't farther by more than the slack
pub whole_window : (M : Map) (rival : ℕ → Bool) (es : List Placed) (w : Window) (p : ℤ × ℤ) (c : Coord) (row : ℕ) (found : List ℕ) →
    (start first last : ℕ) → IsMap M → IsGridOf M (λ v. IsTrue (rival v)) es → IsWindow p c w → Rows rival es start first last row found →
    start ≡ cells_from (neg_ℤ (pos (degree_units 90))) w.lat.0 → cells_from (neg_ℤ (pos (degree_units 90))) w.lat.1 < row →
    first ≡ cells_from (neg_ℤ (pos (degree_units 180))) w.lon.0 → last ≡ cells_from (neg_ℤ (pos (degree_units 180))) w.lon.1 →
    ((v : ℕ) → IsTrue (rival v) → IsFalse (is_farther usual_slack p c (coord_at M v))) →
    (v : ℕ) → IsTrue (rival v) → Contains found v
whole_window M rival es w p c row found start first last m g win h from past left until near v is =
    let e = (g.whole v is).0 in
    let there = (g.whole v is).1 in
    let same : e.node ≡ v = (g.whole v is).2 in
    let right = g.right e there in
    let is_e : IsTrue (rival e.node) = ap rival same ∙ is in
    let valid : IsTrue (is_coord e.place) = ap is_coord right.1 ∙ m.places e.node right.0 in
    let close : IsFalse (is_farther usual_slack p c e.place) =
    ap (is_farther usual_slack p c) right.1 ∙ near e.node is_e in
    let inside = and_parts (within w.lat.0 w.lat.1 e.place.lat) (within w.lon.0 w.lon.1 e.place.lon) (win.whole e.place valid close) in
    let rows = cells_within (degree_units 90) w.lat.0 w.lat.1 e.place.lat win.lat.0 inside.0 in
    let columns = cells_within (degree_units 180) w.lon.0 w.lon.1 e.place.lon win.lon.0 inside.1 in
    let r = cells_from (neg_ℤ (pos (degree_units 90))) e.place.lat in
    subst (λ (u : ℕ). Contains found u) same
    (h.whole e r there is_e (omega (arith, from, rows.0)) (omega (arith, rows.1, past)) (omega (arith, left, columns.0, right.2)) (omega (arith, until, columns.1, right.2)))
