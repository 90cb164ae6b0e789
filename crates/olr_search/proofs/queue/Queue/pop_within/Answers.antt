use Rattle.olr_search.proofs.Common.{rules, arith, inl, inr, IsPermutation-sym}
use Rattle.olr_search.proofs.HeapLemmas.{popped_others, popped_least, popped_there, popped_once, popped_gone, pushed_kept}
use Rattle.olr_search.proofs.queue.Queue.pop_within.Goals as goal

pub invariant_of-self-clause-once : goal.invariant_of-self-clause-once
invariant_of-self-clause-once c =
    popped_once _ c.pop.result _ _ c.pop.ensures.permutation c.pop.ensures.unchanged c.args.self.now.once

pub returns-clause-popped : goal.returns-clause-popped
returns-clause-popped c =
    let x = c.in_ok-nearest.field-0 in
    let moved = c.in_ok-nearest.ensures.permutation in
    record {
      within = search rules;
      there = record { small = omega arith; there = popped_there _ _ x _ _ (omega arith) moved };
      least = λ d p w. popped_least _ _ x d p w.small moved (c.in_ok-nearest.ensures.below_top c.args.self.now.ordered) w.there;
      others = λ d p w. elim (popped_others _ _ x d p w.small moved w.there) [
        | inl still ↦ inl (record { small = w.small; there = still })
        | inr is ↦ inr is
      ];
      gone = λ w. popped_gone _ _ x _ _ (omega arith) moved c.args.self.now.once w.there;
      len = search rules;
    }

pub returns-clause-fewer : goal.returns-clause-fewer
returns-clause-fewer c = λ d p w. record {
  small = w.small;
  there = pushed_kept _ _ c.in_ok-nearest.field-0 _ (IsPermutation-sym _ _ c.in_ok-nearest.ensures.permutation) w.there;
}
