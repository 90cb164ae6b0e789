use Rattle.olr_route.proofs.routes.settled_search.Goals as goal

pub returns-clause-search : goal.returns-clause-search
returns-clause-search g c =
    c.in_ok-settle_to.ensures.search c.args.direction c.args.from.now c.in_ok-begin.ensures.search
