use Rattle.olr_paths.proofs.Common.{sym, arith}
use Rattle.olr_paths.proofs.PathIdLemmas.{below_next}
use Rattle.olr_paths.proofs.path_list.next_path_id.Goals as goal

pub returns : goal.returns
returns c =
    below_next c.args.path_ids.now c.in-Some.last.now c.in_ok-path_id.path_id c.requires (sym c.in-Some.ensures.value)
    (grind arith)
