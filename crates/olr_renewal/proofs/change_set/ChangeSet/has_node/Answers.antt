use Rattle.olr_renewal.proofs.Common.{◌∙◌, found_has}
use Rattle.olr_renewal.proofs.change_set.ChangeSet.has_node.Goals as goal

pub returns : goal.returns
returns c = c.is_ok.ensures.value ∙ found_has _ c.args.node c.binary_search.result c.args.self.now.nodes_ascend
    (rw c.deref.ensures.value at c.binary_search.ensures.position)
