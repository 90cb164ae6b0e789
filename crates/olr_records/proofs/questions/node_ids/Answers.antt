use Rattle.olr_records.proofs.Common.{Field, number, Reads, rules, subst}
use Rattle.olr_records.proofs.questions.node_ids.Goals as goal

pub returns : goal.returns
returns c = c.items_from.ensures number (λ f r h. subst (λ (x : Field). Reads (λ n. n) (number x) r) h.shows (search rules))
