use Rattle.olr_records.proofs.Common.{Field, number, Reads, subst}
use Rattle.olr_records.proofs.paths.line_ids.Goals as goal

pub returns : goal.returns
returns c = c.items_from.ensures number (λ f r h. subst (λ (x : Field). Reads (λ n. n) (number x) r) h.shows h.says.met)
