-- The records of the register are given if they are asked for.
use Rattle.olr_run.proofs.Common.{◌∙◌, sym, subst, ℕ, List, Unasked, Given, Lacking, AreReplacement}
use Rattle.olr_run.proofs.answers.compact_log.Goals as goal

pub returns-then-not-wants_records : goal.returns-then-not-wants_records
returns-then-not-wants_records g c = (Unasked, λ t h. tt, c.wants_records.ensures.unasked c.if-not-wants_records.true)

pub returns-in-Err : goal.returns-in-Err
returns-in-Err g c = (
  Lacking,
  λ t h. tt,
  c.lack_records.ensures.asked (sym c.wants_records.ensures.asked ∙ c.if-not-wants_records.false),
)

pub returns-in-Ok : goal.returns-in-Ok
returns-in-Ok g c = (
  Given c.as_slice.result.now,
  subst (λ (x : List ℕ). AreReplacement c.args.register.now (Given x)) (sym c.as_slice.ensures.value) c.in-Ok.ensures.records,
  c.compact_log.ensures.asked (sym c.wants_records.ensures.asked ∙ c.if-not-wants_records.false),
)
