use Rattle.olr_search.proofs.frontier.Frontier.pop_within.Goals as goal

pub invariant_of-self-clause-low : goal.invariant_of-self-clause-low
invariant_of-self-clause-low c = λ d p w. c.args.self.now.low d p (c.pop_within.ensures.fewer d p w)
