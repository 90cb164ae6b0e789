use Rattle.olr_paths.proofs.EntryLists.{all_some, all_left}
use Rattle.olr_paths.proofs.path_list.PathList.iter.Goals as goal

pub invariant_of-result : goal.invariant_of-result
invariant_of-result c =
    rw c.iter.ensures.rest (record { encoded = all_some c.args.self.now.paths.entries c.requires.encoded })

pub returns : goal.returns
returns c = rw c.iter.ensures.rest (all_left c.args.self.now.paths.entries)
