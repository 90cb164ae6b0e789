use Rattle.olr_search.proofs.Common.{◌≡◌, inl, inr, arith, cases_lt, label_in, get_or_past, length, UNREACHED, common_steps}
use Rattle.olr_search.proofs.frontier.Frontier.make_room.Goals as goal

pub invariant_of-self-clause-low : goal.invariant_of-self-clause-low
invariant_of-self-clause-low c = λ d p w.
    let le = c.args.self.now.low d p w in
    let table = c.args.self.now.table in
    elim (cases_lt p (length table.items)) [
      | inl lt ↦ omega (arith, c.resize.ensures.by_index.0 p UNREACHED (omega (arith, table.ok.0)) (omega (arith, table.ok.0)))
      | inr past ↦
          let was : label_in table.items p ≡ UNREACHED = get_or_past table.items p UNREACHED past in
          let now : label_in c.resize.new.self.items p ≡ UNREACHED = grind (arith, common_steps) in
          omega arith
    ]
