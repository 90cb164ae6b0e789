use Rattle.olr_renewal.proofs.Common.{shown_items, length, items, ◌<◌}
use Rattle.olr_renewal.specs.Updates.{AreReadyIfFew}
use Rattle.olr_renewal.proofs.RenewedPrefix.{Renewing}
use Rattle.olr_renewal.proofs.renewal.renewal_by.Given as goal

-- the paths before the next position are renewed, reported and counted;  the searches for detours are right
abbrev pub invariant-loop-position : goal.invariant-loop-position
invariant-loop-position g l =
    Renewing l.update.margin (g.M.MapRead.map l.update.map.now) l.update.touched.now (items l.overlaid.before.now)
    (shown_items l.overlaid) l.positions l.renewal l.position-index
    × (0 < length l.positions → AreReadyIfFew g.M.MapRead.map g.M.MapRead.node_slot l.update l.detours)
