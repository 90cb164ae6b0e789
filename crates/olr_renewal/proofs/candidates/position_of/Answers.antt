use Rattle.olr_renewal.proofs.Common.{◌∙◌}
use Rattle.olr_paths.proofs.PathIdLemmas.{position_by}
use Rattle.olr_renewal.proofs.candidates.position_of.Goals as goal

pub returns : goal.returns
returns c =
    λ k lt is. c.ok.ensures.value ∙ position_by c.args.path_ids.now c.args.path_id c.binary_search.result c.requires
    c.binary_search.ensures.position k lt is
