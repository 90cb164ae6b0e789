use Rattle.olr_renewal.proofs.Common.{subst, arith, take_all, CoverageQuery, changed_of, all_more, IsClear}
use Rattle.olr_renewal.proofs.detours.are_clear.Goals as goal

pub loop-query-preserved : goal.loop-query-preserved
loop-query-preserved g c =
    let P : CoverageQuery → Type 0 = IsClear (g.M.MapRead.map c.args.update.now.map.now) (changed_of c.args.update.now.touched.now) in (
      all_more P _ _ c.query-item.result c.loop-query-test.true c.loop-query.invariant.0
          (subst P c.query-item.is (c.in_ok-is_clear.ensures.clear c.if-not-branch.false)),
      c.in_ok-is_clear.ensures.detours,
    )

pub returns-clause-clear : goal.returns-clause-clear
returns-clause-clear g c = λ yes.
    rw (take_all c.loop-query.query-index c.args.queries.now (omega (arith, c.loop-query-test.false))) at
    c.loop-query.invariant.0
