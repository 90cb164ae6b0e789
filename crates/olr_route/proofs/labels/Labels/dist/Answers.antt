use Rattle.olr_route.proofs.Common.{◌≡◌, ℕ, Some, ap, ◌∙◌, sym, arith, none-some}
use Rattle.olr_route.proofs.labels.Labels.dist.Goals as goal

pub returns-in_err-dist : goal.returns-in_err-dist
returns-in_err-dist c = λ M slot s d a. (
  λ e. absurd (none-some d (sym c.from_residual.ensures ∙ e)),
  λ k. absurd (c.in_err-dist.ensures M slot s a (d, k.0, k.1)),
)

pub returns : goal.returns
returns c = λ M slot s d a.
    let k = c.in_ok-dist.ensures M slot s a in (
      λ e. let same : c.in_ok-dist.dist ≡ d = cc in rw (sym same) (k.dist, k.within),
      λ r.
          let low = r.0.least c.in_ok-dist.dist k.dist.leads in
          let high = k.dist.least d r.0.leads in
          ap (λ (n : ℕ). Some n) (omega arith),
    )
