use Rattle.olr_route.proofs.Common.{Against, ℕ, Some, get_or, arith, sym, subst, ◌∙◌, ◌↔◌, IsTrue, IsFound, IsLast, EndsRoute}
use Rattle.olr_route.proofs.Common.{get_or_default_zero, below_more, false≢true}
use Rattle.olr_search.proofs.ReadLemmas.{read_at}
use Rattle.olr_route.proofs.EndLemmas.{first_is_last, none_is_last}
use Rattle.olr_route.proofs.routes.last_line.Given.{Over}
use Rattle.olr_route.proofs.routes.last_line.Goals.{After-ends_route}
use Rattle.olr_route.proofs.routes.last_line.Goals as goal

-- whether the line ends such a route
ends : (g : Over) (c : After-ends_route g) (s : ℕ) →
    IsFound (g.M.MapRead.map c.args.map.now) (g.M.MapRead.node_slot c.args.map.now) s c.args.settled.now c.args.node c.args.length →
    IsTrue c.ends_route.result ↔ EndsRoute (g.M.MapRead.map c.args.map.now) s c.args.node c.args.length
    (get_or c.in_lines-line-items.result.now c.loop-line.line-index 0)
ends g c s f =
    let M = g.M.MapRead.map c.args.map.now in
    let lines = c.in_lines-line-items.result.now in
    let i = c.loop-line.line-index in
    let k = read_at M Against c.args.node lines i c.line-item.result c.in_lines-line-items.ensures c.loop-line-test.true c.line-item.is in
    subst (λ (x : ℕ). IsTrue c.ends_route.result ↔ EndsRoute M s c.args.node c.args.length x)
    (c.line-item.is ∙ get_or_default_zero lines i c.line-item.result c.loop-line-test.true)
    (c.ends_route.ensures s c.args.node f k.0 k.1)

pub returns-then-ends_route : goal.returns-then-ends_route
returns-then-ends_route g c = λ s f.
    let M = g.M.MapRead.map c.args.map.now in
    let lines = c.in_lines-line-items.result.now in
    let i = c.loop-line.line-index in
    subst (λ (x : ℕ). IsLast M s c.args.node c.args.length (Some x))
    (sym (c.line-item.is ∙ get_or_default_zero lines i c.line-item.result c.loop-line-test.true))
    (first_is_last M s c.args.node c.args.length lines c.in_lines-line-items.ensures i c.loop-line-test.true
    ((ends g (goal.at.returns-then-ends_route g c).After-ends_route s f).0 c.if-ends_route.true)
    (c.loop-line.invariant s f))

pub loop-line-preserved : goal.loop-line-preserved
loop-line-preserved g c = λ s f.
    let lines = c.in_lines-line-items.result.now in
    below_more (λ j. ¬ EndsRoute (g.M.MapRead.map c.args.map.now) s c.args.node c.args.length (get_or lines j 0))
    c.loop-line.line-index (c.loop-line.invariant s f) (λ e.
    false≢true (sym c.if-ends_route.false ∙ (ends g (goal.at.loop-line-preserved g c).After-ends_route s f).1 e))

pub returns : goal.returns
returns g c = λ s f.
    none_is_last (g.M.MapRead.map c.args.map.now) s c.args.node c.args.length c.in_lines-line-items.result.now
    c.in_lines-line-items.ensures (λ j lt. c.loop-line.invariant s f j (omega (arith, c.loop-line-test.false)))
