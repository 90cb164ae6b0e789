use Rattle.olr_route.proofs.Common.{sym, ◌∙◌, none-some, limit_of}
use Rattle.olr_route.proofs.LabelLemmas.{label_of, last_is, near_of}
use Rattle.olr_route.proofs.labels.Labels.last_line.Goals as goal

pub returns-in_err-line : goal.returns-in_err-line
returns-in_err-line c = λ M slot s x a. (
  λ e. absurd (none-some x (sym c.from_residual.ensures ∙ e)),
  λ k. absurd (c.in_err-line.ensures M slot s a (near_of M slot s c.args.self.now a c.args.node x k.0 k.1)),
)

pub returns : goal.returns
returns c = λ M slot s x a.
    last_is M a.sound s (limit_of c.args.self.now) (label_of M slot s c.args.self.now a)
    c.args.node x _ (c.in_ok-line.ensures M slot s a)
