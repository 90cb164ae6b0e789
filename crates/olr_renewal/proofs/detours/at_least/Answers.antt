use Rattle.olr_renewal.proofs.Common.{inl, inr, ◌≡◌, ℕ, Option, Some, None, arith, cases_lt, sym, ◌∙◌, label_at, is_distance}
use Rattle.olr_renewal.proofs.detours.at_least.Goals as goal

pub returns-in-Some : goal.returns-in-Some
returns-in-Some c = λ M slot direction from v e search there at leads.
    ((c.dist_at.ensures M slot direction from v c.in-Some.dist search there at).0 c.in-Some.is).0.least e leads

pub returns-in-None : goal.returns-in-None
returns-in-None c = λ M slot direction from v e search there at leads.
    let s = c.args.search.now in
    elim (cases_lt s.limit e) [
      | inl lt ↦ omega (arith, c.limit.ensures)
      | inr le ↦
          let near = search.settled v e there le leads in
          let some = (c.dist_at.ensures M slot direction from v (label_at s (slot v)) search there at).1
          (is_distance M slot direction from s search v there (omega arith), omega arith) in
          let never : ◌≡◌ {A = Option ℕ} None (Some (label_at s (slot v))) = sym c.in-None.is ∙ some in
          absurd cc
    ]
