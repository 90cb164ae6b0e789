use Rattle.olr_search.proofs.Common.{subst, arith, AreAllReached}
use Rattle.olr_search.proofs.NoteLemmas.{noted_less, noted_past, none_queued}
use Rattle.olr_search.proofs.frontier.Frontier.clear.Goals as goal

pub invariant_of-self-then-slot-len : goal.invariant_of-self-then-slot-len
invariant_of-self-then-slot-len c =
    let h = c.in-Some.ensures.items in
    record {
      noted = noted_less c.loop-reached.self.table.items c.pop.new.self.items c.in-Some.reached
          (omega (arith, c.loop-reached.self.table.ok.0))
          (subst (AreAllReached c.loop-reached.self.table.items) h c.loop-reached.self.noted);
      low = λ d p w. absurd (none_queued c.loop-reached.self.queue c.loop-reached.invariant d p w);
    }

pub invariant_of-self-else-slot-len : goal.invariant_of-self-else-slot-len
invariant_of-self-else-slot-len c =
    record {
      noted = noted_past c.loop-reached.self.table.items c.pop.new.self.items c.in-Some.reached
          (omega (arith, c.loop-reached.self.table.ok.0))
          (subst (AreAllReached c.loop-reached.self.table.items) c.in-Some.ensures.items c.loop-reached.self.noted);
      low = c.loop-reached.self.low;
    }
