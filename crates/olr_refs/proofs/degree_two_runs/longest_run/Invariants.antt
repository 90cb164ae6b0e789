use Rattle.olr_refs.proofs.Common.{◌-◌, reverse, limit, ids}
use Rattle.olr_refs.proofs.Runs.{Grows}
use Rattle.olr_refs.proofs.degree_two_runs.longest_run.Given as goal

-- the run is stored from the list outwards
abbrev pub invariant-loop-record : goal.invariant-loop-record
invariant-loop-record g l =
    Grows (g.M.MapRead.map l.map) (g.M.MapRead.node_slot l.map) l.direction (ids l.records) (reverse l.run.items) l.len l.at.passing l.at.line

abbrev pub decreases-loop-record : goal.decreases-loop-record
decreases-loop-record g l = limit - l.len
