use Rattle.olr_renewal.proofs.Common.{to_renew, changed_of, items, lines_of, nodes_of, shown_items, take, true, ChangeSet}
use Rattle.olr_renewal.proofs.RenewedPrefix.{SoFar}
use Rattle.olr_renewal.proofs.renewal.renewal_of_all.Given as goal

-- the paths so far are renewed, reported and counted, whatever was touched
abbrev pub invariant-loop-position : goal.invariant-loop-position
invariant-loop-position g l =
    (t : ChangeSet) → SoFar l.update.margin (g.M.MapRead.map l.update.map.now) (nodes_of t) (lines_of t) (changed_of t) (items l.overlaid.before.now)
    (to_renew true (shown_items l.overlaid)) (take l.position (to_renew true (shown_items l.overlaid))) l.renewal
