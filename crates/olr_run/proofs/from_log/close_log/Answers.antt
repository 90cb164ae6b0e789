use Rattle.olr_run.proofs.Common.{◌∙◌, inl, inr, sym}
use Rattle.olr_run.proofs.from_log.close_log.Goals as goal

pub returns-then-is_ok : goal.returns-then-is_ok
returns-then-is_ok g c = λ t left. elim (c.close.ensures.cut t left) [
  | inl before ↦ inl (rw (← c.into_journal-log.ensures) before)
  | inr all ↦ inr (sym c.is_ok.ensures.value ∙ c.if-is_ok.true, rw (← c.into_journal-log.ensures) all)
]
