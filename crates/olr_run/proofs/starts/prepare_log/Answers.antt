-- A log that is due, from the contracts of its parts.
use Rattle.olr_run.proofs.Common.{◌∙◌, inl, inr}
use Rattle.olr_run.proofs.starts.prepare_log.Goals as goal

pub returns-in_err-is_done-clause-cut : goal.returns-in_err-is_done-clause-cut
returns-in_err-is_done-clause-cut g c = λ t left. elim (c.put_records.ensures.cut t left) [
  | inl old ↦ inl old
  | inr records ↦ inr (inr records)
]

pub returns-then-is_done-clause-durable : goal.returns-then-is_done-clause-durable
returns-then-is_done-clause-durable g c = λ before. c.in_ok-is_done.ensures.durable before

pub returns-then-is_native-2-clause-cut : goal.returns-then-is_native-2-clause-cut
returns-then-is_native-2-clause-cut g c = λ t left. elim (c.wipe_rest-then-is_native-2.ensures.cut t left) [
  | inl before ↦ elim (c.put_records.ensures.cut t before) [
    | inl old ↦ inl old
    | inr records ↦ inr (inr records)
  ]
  | inr all ↦ inr (inl (all ∙ c.in_ok-is_done.ensures.left c.if-is_done.false))
]
