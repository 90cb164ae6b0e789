use Rattle.olr_renewal.proofs.Common.{results_of, begins_set}
use Rattle.olr_renewal.proofs.add_and_set.set.Goals as goal

pub returns-clause-set : goal.returns-clause-set
returns-clause-set g c =
    let put = rw (c.in_ok-named.ensures.path, c.in_ok-named.ensures.results) at c.in_ok-replace.ensures.ok in
    record {
      results = results_of c.in_ok-published.published.value;
      right = c.in_ok-published.ensures;
      list = put;
      entries = rw c.in_ok-renewed.ensures.entries
          (rw (c.deref.ensures, c.new-entries.ensures.items) at c.in_ok-push_if_changed.ensures);
      counted = c.in_ok-renewed.ensures.counted;
      queries = λ l b. rw (c.in_ok-renewed.ensures.queries, c.deref-2.ensures) (begins_set _ _ _ _ l (rw put at b));
    }
