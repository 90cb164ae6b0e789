use Rattle.olr_renewal.proofs.Common.{AreDetours, changed_of, StayKnown}
use Rattle.olr_renewal.proofs.detours.clear_known.Given as goal

-- the clear ones so far stay right
abbrev pub invariant-loop-one : goal.invariant-loop-one
invariant-loop-one g l =
    StayKnown (g.M.MapRead.map l.update.map.now) (changed_of l.update.touched.now) l.known l.clear.items
    × AreDetours (g.M.MapRead.map l.update.map.now) (g.M.MapRead.node_slot l.update.map.now) l.update.touched.now l.detours
