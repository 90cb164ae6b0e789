use Rattle.olr_ambiguity.proofs.Common.{is_rival, side_of, place_of}
use Rattle.olr_ambiguity.proofs.Cells.{Rows}
use Rattle.olr_ambiguity.proofs.rivals.rivals.Given as goal

-- those of the rows so far
abbrev pub invariant-loop-row : goal.invariant-loop-row
invariant-loop-row g l =
    Rows (is_rival (g.M.MapRead.map l.map) (side_of l.own.side) (place_of l.own.place) l.own.id) l.grid.nodes.items
    l.initial.row l.first l.last l.row l.found
