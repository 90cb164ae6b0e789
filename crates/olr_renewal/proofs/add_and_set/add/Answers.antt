use Rattle.olr_renewal.proofs.Common.{results_of, begins_add}
use Rattle.olr_renewal.proofs.add_and_set.add.Goals as goal

pub returns-clause-added : goal.returns-clause-added
returns-clause-added g c =
    let put = rw (c.in_ok-named.ensures.path, c.in_ok-named.ensures.results) at c.in_ok-push.ensures.ok in
    record {
      results = results_of c.in_ok-published.published.value;
      right = c.in_ok-published.ensures;
      list = put;
      entries = rw c.in_ok-renewed.ensures.entries (rw (c.as_str.ensures.value, c.deref.ensures) at c.in_ok-entries.ensures);
      counted = c.in_ok-renewed.ensures.counted;
      queries = λ l b. rw (c.in_ok-renewed.ensures.queries, c.deref-2.ensures) (begins_add _ _ l (rw put at b));
    }
