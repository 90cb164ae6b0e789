use Rattle.olr_renewal.proofs.Common.{Map, All, Contains, sym, subst, ◌∙◌, ◌≡◌, arith, min, true≢false, false≢true, ChangeSet}
use Rattle.olr_renewal.proofs.Common.{take_all, All-contains, GREATEST_LIMIT, Near, CoverageQuery, nodes_of, all_more}
use Rattle.olr_renewal.proofs.SearchedLemmas.{searched_less}
use Rattle.olr_renewal.proofs.affected.is_query_touched.Goals as goal

abbrev Far : Map → ChangeSet → CoverageQuery → Type 0
Far N t k = ¬ Near N (nodes_of t) k.from (min k.within GREATEST_LIMIT)

pub is_near-requires : goal.is_near-requires
is_near-requires g c =
    let item : CoverageQuery = c.query-item.result in
    let on : Contains c.args.queries.now item = (c.loop-query.query-index, c.loop-query-test.true, sym c.query-item.is) in
    searched_less _ _ _ _
    (Contains c.args.queries.now) (λ l. l ≡ item) (λ l is. subst (Contains c.args.queries.now) (sym is) on) c.requires

pub loop-query-preserved : goal.loop-query-preserved
loop-query-preserved g c =
    let P = Far (g.M.MapRead.map c.args.update.now.map.now) c.args.update.now.touched.now in
    let no : P c.query-item.result = λ near. true≢false (sym (c.is_near.ensures.1 near) ∙ c.if-is_near.false) in
    all_more P _ _ c.query-item.result c.loop-query-test.true c.loop-query.invariant (subst P c.query-item.is no)

pub returns : goal.returns
returns g c =
    let P = Far (g.M.MapRead.map c.args.update.now.map.now) c.args.update.now.touched.now in
    let all : All P c.args.queries.now =
    subst (All P) (take_all c.loop-query.query-index _ (omega (arith, c.loop-query-test.false)))
    c.loop-query.invariant in (
      (λ no. absurd (false≢true no)),
      (λ h. absurd (All-contains P _ h.0 all h.1 h.2)),
    )
