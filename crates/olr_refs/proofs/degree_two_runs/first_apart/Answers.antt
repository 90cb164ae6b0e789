use Rattle.olr_refs.proofs.Common.{◌≡◌, ◌≢◌, ℕ, sym, ◌∙◌, subst, arith, IsTrue, has_line, near_end, far_end}
use Rattle.olr_refs.proofs.Common.{get_or_default_zero, has_end, entry_is}
use Rattle.olr_refs.proofs.degree_two_runs.first_apart.Goals as goal

pub returns-then-end-other : goal.returns-then-end-other
returns-then-end-other c = λ M slot d v lines ends.
    let e = entry_is M slot d v _ _ lines ends c.loop-index.index c.loop-index-test.true in
    let same = c.index-lines-index.is ∙ get_or_default_zero _ _ _ e.within in
    subst (λ (x : ℕ). IsTrue (has_line M x) × (near_end M d x ≡ v) × (slot (far_end M d x) ≢ c.args.other)) (sym same)
    (e.known, e.leads, λ is. c.if-end-other.true (e.there ∙ is))

pub returns : goal.returns
returns c = λ M slot d v lines ends x known near.
    let k = has_end M slot d v x _ ends known near in
    sym k.there ∙ c.loop-index.invariant k.index (omega arith)
