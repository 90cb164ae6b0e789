use Rattle.olr_refs.proofs.Common.{◌∙◌}
use Rattle.olr_refs.proofs.Sets.{found}
use Rattle.olr_refs.proofs.degree_two_runs.is_listed.Goals as goal

pub returns : goal.returns
returns c =
    c.is_ok.ensures.value
    ∙ found c.args.sorted.now c.args.line c.binary_search.result c.requires c.binary_search.ensures.position
