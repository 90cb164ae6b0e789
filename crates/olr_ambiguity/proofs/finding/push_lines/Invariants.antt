use Rattle.olr_ambiguity.proofs.Common.{◌≡◌, ◌++◌, map, filter, take, found_of, side_of}
use Rattle.olr_ambiguity.specs.Causes.{applies, named}
use Rattle.olr_ambiguity.proofs.finding.push_lines.Given as goal

-- those of the lines so far
abbrev pub invariant-loop-line : goal.invariant-loop-line
invariant-loop-line g l =
    map found_of l.found.items ≡ map found_of l.initial.found.items ++ map (λ o. (l.lrp, o)) (map (named l.cause)
    (filter (applies l.cause (g.M.MapRead.map l.map) (side_of l.own.side) l.own.id) (take l.line-index l.lines)))
