use Rattle.olr_refs.proofs.Common.{◌≡◌, ◌++◌, arith, append-nil, sym, option_to_list}
use Rattle.olr_refs.proofs.Querying.{queried_more, queried_none}
use Rattle.olr_refs.proofs.Reaching.{reach_near_end}
use Rattle.olr_refs.proofs.chosen.reach_of.Goals as goal

pub returns-then-resolved-i-le2 : goal.returns-then-resolved-i-le2
returns-then-resolved-i-le2 g c = record {
  reach = reach_near_end _ _ (g.met.M.MapRead.sound c.args.resolved.now.map.now) _ _
      c.last_within_limit.result c.args.resolved.now.joined c.last_within_limit.ensures c.requires.some (omega arith);
  queried = λ before x. queried_none _ _ _ _ before _ _ (omega arith) x;
}

pub returns-in_ok-push-2-clause-queried : goal.returns-in_ok-push-2-clause-queried
returns-in_ok-push-2-clause-queried g c = λ before x.
    queried_more _ _ _ _ before _ _ _ c.in_ok-found.found (omega arith) x c.in_ok-found.ensures (grind arith)
    (rw c.in-Some.is c.in_ok-push-2.ensures.items)

pub returns-in_default-clause-queried : goal.returns-in_default-clause-queried
returns-in_default-clause-queried g c = λ before x.
    queried_more _ _ _ _ before _ _ _ c.in_ok-found.found (omega arith) x c.in_ok-found.ensures (grind arith)
    (rw c.in_default.is (sym (append-nil _)))
