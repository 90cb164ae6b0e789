use Rattle.olr_refs.proofs.Common.{rules}
use Rattle.olr_refs.proofs.chosen.query_after.Goals as goal

pub returns : goal.returns
returns g c =
    let here = c.in_ok-tested.ensures in
    record {
      reach = here.reach;
      query = (c.in_ok-tested.tested.last, here.last, search rules);
      own = c.own_query.ensures;
    }
