use Rattle.olr_renewal.proofs.Common.{All, take, AreDetours, changed_of, IsClear}
use Rattle.olr_renewal.proofs.detours.are_clear.Given as goal

-- the coverage queries so far are clear
abbrev pub invariant-loop-query : goal.invariant-loop-query
invariant-loop-query g l =
    All (IsClear (g.M.MapRead.map l.update.map.now) (changed_of l.update.touched.now)) (take l.query-index l.queries)
    × AreDetours (g.M.MapRead.map l.update.map.now) (g.M.MapRead.node_slot l.update.map.now) l.update.touched.now l.detours
