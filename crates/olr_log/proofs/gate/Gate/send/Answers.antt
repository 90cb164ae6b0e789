use Rattle.olr_log.proofs.Common.{[], refl, both_ways}
use Rattle.olr_log.proofs.Passing.{passes_sent, passes_stored}
use Rattle.olr_log.proofs.gate.Gate.send.Goals as goal

pub returns-then-not-store-clause-passes : goal.returns-then-not-store-clause-passes
returns-then-not-store-clause-passes g c =
    passes_stored (c.store.ensures.storing [] (λ _. refl)) c.store.ensures.others c.store.ensures.due

pub returns-clause-passes : goal.returns-clause-passes
returns-clause-passes g c =
    passes_sent (λ sent. c.store.ensures.storing sent (λ no. absurd (both_ways c.store.result no c.if-not-store.false)))
    c.store.ensures.others c.store.ensures.due c.send_all.ensures.device
