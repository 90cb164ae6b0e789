use Rattle.olr_ambiguity.proofs.Common.{◌≡◌, false, subst, sym, arith, ints, coord_at, Coord, is_farther, is_rival, usual_slack}
use Rattle.olr_ambiguity.proofs.Common.{side_of, place_of}
use Rattle.olr_ambiguity.proofs.Cells.{rows_more, whole_window}
use Rattle.olr_ambiguity.proofs.Lists.{all_found, rival_known, close}
use Rattle.olr_ambiguity.proofs.rivals.rivals.Goals as goal

pub loop-row-preserved : goal.loop-row-preserved
loop-row-preserved g c =
    let M = g.M.MapRead.map c.args.map.now in
    let o = c.args.own.now in
    rows_more (is_rival M (side_of o.side) (place_of o.place) o.id) c.args.grid.now.nodes.items c.within-nodes.result.now
    c.cells_from-row.result c.cells_from-first.result c.cells_from-last.result c.loop-row.row c.loop-row.found c.add_rivals.new.found c.loop-row.invariant
    c.in_ok-add_rivals.ensures (λ e h low high. c.within-nodes.ensures.all e h (omega (arith, c.cell_at.ensures, low))
    (omega (arith, c.cell_at-in-loop-row.ensures, high)))

pub returns : goal.returns
returns g c =
    let M = g.M.MapRead.map c.args.map.now in
    let m = g.met.M.MapRead.sound c.args.map.now in
    let o = c.args.own.now in
    let s = side_of o.side in
    let p = place_of o.place in
    let rows = c.loop-row.invariant in
    let own = c.requires.own in
    let window = c.window_of-window.ensures in
    all_found M (is_rival M s p o.id) c.loop-row.found c.as_slice-ascending.ensures.ascending
    (λ v h. (rows.sound v h, rival_known M s p o.id v m (rows.sound v h)))
    (λ v known is. whole_window M (is_rival M s p o.id) c.args.grid.now.nodes.items c.window_of-window.result p o.here c.loop-row.row
    c.loop-row.found c.cells_from-row.result c.cells_from-first.result c.cells_from-last.result m c.requires.grid
    window rows (omega (arith, ints, c.cells_from-row.ensures.value, window.lat))
    (omega (arith, ints, window.lat)) (omega (arith, ints, c.cells_from-first.ensures.value, window.lon))
    (omega (arith, ints, c.cells_from-last.ensures.value, window.lon))
    (λ u rival. subst (λ (q : Coord). is_farther usual_slack p q (coord_at M u) ≡ false) (sym own.here_is) (close M s p o.id u rival))
    v is)
