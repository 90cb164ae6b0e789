use Rattle.olr_refs.proofs.Common.{◌≡◌, ◌-◌, true, false, sym, ◌∙◌, subst, arith, passing, node_at}
use Rattle.olr_refs.proofs.Choosing.{fit, fit_read, Scanned, scan_unfit, scan_passing, next_valid}
use Rattle.olr_refs.proofs.choice.next_of.Given.{Over}
use Rattle.olr_refs.proofs.choice.next_of.Goals.{After-is_fit-in-loop-k}
use Rattle.olr_refs.proofs.choice.next_of.Goals as goal

-- whether the position before k fits is what the test says
fits_read : (g : Over) (c : After-is_fit-in-loop-k g) →
    fit (g.M.MapRead.map c.args.resolved.now.map.now) c.args.resolved.now.lines.now c.args.i (c.loop-k.k - 1)
    ≡ c.is_fit-in-loop-k.result
fits_read g c = fit_read _ _ _ (c.loop-k.k - 1) _ _ _
    c.place-here.ensures.at c.place-in-loop-k.ensures.at c.is_fit-in-loop-k.ensures

pub returns-then-not-is_passing : goal.returns-then-not-is_passing
returns-then-not-is_passing g c =
    let M = g.M.MapRead.map c.args.resolved.now.map.now in
    let fits = fits_read g (goal.at.returns-then-not-is_passing g c).After-is_fit-in-loop-k ∙ c.if-is_fit-2.true in
    let valid : passing M (node_at M c.args.resolved.now.lines.now (c.loop-k.k - 1)) ≡ false =
    sym c.is_passing.ensures ∙ c.if-not-is_passing.true in
    next_valid _ M _ _ _ c.loop-k.k _ (omega arith) (omega arith)
    (omega arith) c.requires.reach c.loop-k.invariant fits valid

pub loop-k-preserved-then-is_fit-2 : goal.loop-k-preserved-then-is_fit-2
loop-k-preserved-then-is_fit-2 g c =
    let M = g.M.MapRead.map c.args.resolved.now.map.now in
    let fits = fits_read g (goal.at.loop-k-preserved-then-is_fit-2 g c).After-is_fit-in-loop-k ∙ c.if-is_fit-2.true in
    let through : passing M (node_at M c.args.resolved.now.lines.now (c.loop-k.k - 1)) ≡ true =
    sym c.is_passing.ensures ∙ c.if-not-is_passing.false in
    subst (Scanned _ M _ _ _ (c.loop-k.k - 1)) (sym c.or-last.ensures)
    (scan_passing _ M _ _ _ c.loop-k.k _ (omega arith) (omega arith)
    (omega arith) c.requires.reach c.loop-k.invariant fits through)

pub loop-k-preserved : goal.loop-k-preserved
loop-k-preserved g c =
    let M = g.M.MapRead.map c.args.resolved.now.map.now in
    let fits = fits_read g (goal.at.loop-k-preserved g c).After-is_fit-in-loop-k ∙ c.if-is_fit-2.false in
    scan_unfit _ M _ _ _ c.loop-k.k _ (omega arith) c.loop-k.invariant fits
