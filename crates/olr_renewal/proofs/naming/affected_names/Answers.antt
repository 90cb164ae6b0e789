use Rattle.olr_renewal.proofs.Common.{items, none_removed_by}
use Rattle.olr_renewal.proofs.RetainedLemmas.{are_short}
use Rattle.olr_renewal.proofs.naming.affected_names.Goals as goal

pub invariant_of-overlaid : goal.invariant_of-overlaid
invariant_of-overlaid g c = record {
  none_removed = none_removed_by _ _ c.new-overlay.ensures;
}

pub find_candidates-requires : goal.find_candidates-requires
find_candidates-requires g c = rw (c.new-overlay.ensures (items c.args.list.now))
    (record { bounds = c.requires.bounds; short = are_short c.requires.before })

pub names_by-requires-clause-candidates : goal.names_by-requires-clause-candidates
names_by-requires-clause-candidates g c = rw c.deref.ensures.value c.in_ok-found.ensures

pub returns-clause-names : goal.returns-clause-names
returns-clause-names g c = rw (c.new-overlay.ensures (items c.args.list.now)) at c.names_by.ensures
