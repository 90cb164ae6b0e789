use Rattle.olr_ambiguity.proofs.Common.{◌≡◌, false, not, take, leg, list_any, is_outdone_for_all, side_of, place_of}
use Rattle.olr_ambiguity.proofs.rivals.has_rival.Given as goal

-- each line so far is outdone
abbrev pub invariant-loop-line : goal.invariant-loop-line
invariant-loop-line g l =
    list_any (λ y. not (is_outdone_for_all (side_of l.own.side) (place_of l.own.place) (leg (g.M.MapRead.map l.map) l.own.id)
    (leg (g.M.MapRead.map l.map) y))) (take l.line-index l.lines) ≡ false
