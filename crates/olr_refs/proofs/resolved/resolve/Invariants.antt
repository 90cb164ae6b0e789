use Rattle.olr_refs.proofs.Common.{◌≡◌, take, drop, first_unknown, records_of}
use Rattle.olr_refs.proofs.resolved.resolve.Given as goal

-- the lines so far are on the map, and these are their records
abbrev pub invariant-loop-line : goal.invariant-loop-line
invariant-loop-line g l =
    record {
      known : first_unknown (g.M.MapRead.map l.map) (drop l.line-index l.lines)
          ≡ first_unknown (g.M.MapRead.map l.map) l.lines;
      are : l.records.items ≡ records_of (g.M.MapRead.map l.map) (g.M.MapRead.node_slot l.map) (take l.line-index l.lines);
    }
