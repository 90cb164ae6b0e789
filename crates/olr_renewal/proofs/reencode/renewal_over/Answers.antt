use Rattle.olr_renewal.proofs.Common.{◌∙◌, items, overlay_changes, none_removed_by}
use Rattle.olr_renewal.proofs.reencode.renewal_over.Goals as goal

-- if a path is removed: for the list under the changes
pub invariant_of-overlaid-2 : goal.invariant_of-overlaid-2
invariant_of-overlaid-2 g c =
    let none = c.new-none in
    record { none_removed = none_removed_by (overlay_changes none.result) (items none.result.added) none.ensures }

pub renewal_of-requires-2 : goal.renewal_of-requires-2
renewal_of-requires-2 g c =
    rw (c.new-none.ensures (items c.in_ok-copy.copy) ∙ c.in_ok-copy.ensures) c.requires.renewable

pub returns-clause-renewed : goal.returns-clause-renewed
returns-clause-renewed g c =
    rw (c.new-none.ensures (items c.in_ok-copy.copy), c.in_ok-copy.ensures) at c.in_ok-renewal-2.ensures.renewed
