use Rattle.olr_input.proofs.Common.{ℕ, List, ap, ◌∙◌}
use Rattle.std.proofs.Common.{Bor}
use Rattle.olr_input.proofs.CsvBytes.{without_mark}
use Rattle.olr_input.proofs.machine.without_mark.Goals as goal

pub returns : goal.returns
returns c =
    ap (λ (b : Bor (List ℕ)). b.now) c.unwrap_or.ensures
    ∙ without_mark c.args.text c.as_slice.result.now c.strip_prefix.result c.as_slice.ensures c.strip_prefix.ensures.cases
