use Rattle.olr_search.proofs.Common.{arith, inl, inr}
use Rattle.olr_search.proofs.HeapLemmas.{pushed_kept, pushed_once, pushed_added}
use Rattle.olr_search.proofs.queue.Queue.push.Goals as goal

pub invariant_of-self-clause-once : goal.invariant_of-self-clause-once
invariant_of-self-clause-once c =
    pushed_once _ c.push.result _ _ _ c.args.dist c.args.slot (omega arith) c.push.ensures.permutation
    c.push.ensures.unchanged (λ there. c.requires (record { small = c.ranges.slot.fits; there = there })) c.args.self.now.once

pub returns-clause-kept : goal.returns-clause-kept
returns-clause-kept c =
    λ d p w. record { small = w.small; there = pushed_kept _ _ _ _ c.in_ok-push.ensures.permutation w.there }

pub returns-clause-added : goal.returns-clause-added
returns-clause-added c = λ d p w.
    elim (pushed_added _ _ _ c.args.dist c.args.slot d p (omega arith) c.ranges.slot.fits w.small
    c.in_ok-push.ensures.permutation w.there) [
      | inl there ↦ inl (record { small = w.small; there = there })
      | inr is ↦ inr is
    ]
