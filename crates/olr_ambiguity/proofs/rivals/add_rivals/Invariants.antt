use Rattle.olr_ambiguity.proofs.Common.{take, is_rival, AreAdded, side_of, place_of}
use Rattle.olr_ambiguity.proofs.rivals.add_rivals.Given as goal

-- those of the nodes so far
abbrev pub invariant-loop-near : goal.invariant-loop-near
invariant-loop-near g l =
    AreAdded (is_rival (g.M.MapRead.map l.map) (side_of l.own.side) (place_of l.own.place) l.own.id) (take l.near-index l.nodes)
    l.initial.found l.found
