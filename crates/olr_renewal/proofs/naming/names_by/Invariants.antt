use Rattle.olr_renewal.proofs.Common.{shown_items, take, map, string_bytes, AreAffectedNames}
use Rattle.olr_renewal.proofs.Passing.{Walked}
use Rattle.olr_renewal.proofs.naming.names_by.Given as goal

-- the names are those of the affected paths before the next position
abbrev pub invariant-loop-position : goal.invariant-loop-position
invariant-loop-position g l =
    Walked (shown_items l.overlaid) l.positions (λ p. AreAffectedNames g.M.MapRead.map l.update (take p (shown_items l.overlaid))
    (map string_bytes l.names.items)) l.position-index
