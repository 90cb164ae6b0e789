use Rattle.olr_renewal.proofs.Common.{ℕ, List, [], IsTrue, inr, sym, subst, refl, has}
use Rattle.olr_renewal.proofs.BoundLemmas.{due_more, in_both}
use Rattle.olr_renewal.proofs.distance_bounds.DistanceBounds.reopen.Goals as goal

pub returns-in-Ok-clause-under_way : goal.returns-in-Ok-clause-under_way
returns-in-Ok-clause-under_way c = λ M s under known.
    due_more M s _ [] _ (record c.args.self.now { opened = c.extend_from_slice.new.self }) refl refl
    (λ v due. inr (subst (λ (vs : List ℕ). IsTrue (has vs v)) (sym c.in-Ok.ensures.items)
    (in_both _ _ v due)))
    (under known)
