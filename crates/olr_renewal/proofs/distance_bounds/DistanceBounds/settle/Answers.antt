use Rattle.olr_renewal.proofs.Common.{◌∙◌, sym, true≢false}
use Rattle.olr_renewal.proofs.distance_bounds.DistanceBounds.settle.Goals as goal

pub returns-then-is_err-clause-sources : goal.returns-then-is_err-clause-sources
returns-then-is_err-clause-sources g c = λ v w was valid. absurd (true≢false (sym valid ∙ c.forget.ensures))

pub returns-then-is_err-clause-same : goal.returns-then-is_err-clause-same
returns-then-is_err-clause-same g c = λ valid. absurd (true≢false (sym valid ∙ c.forget.ensures))

pub returns-then-is_err-clause-right : goal.returns-then-is_err-clause-right
returns-then-is_err-clause-right g c = λ under valid. absurd (true≢false (sym valid ∙ c.forget.ensures))

pub returns-then-is_err-clause-reached : goal.returns-then-is_err-clause-reached
returns-then-is_err-clause-reached g c = λ valid. absurd (true≢false (sym valid ∙ c.forget.ensures))
