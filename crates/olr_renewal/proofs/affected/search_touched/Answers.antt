use Rattle.olr_renewal.proofs.Common.{shown_items, Begins, IsTrue, sym, ◌∙◌, arith, Against, sources}
use Rattle.olr_renewal.proofs.SearchedLemmas.{searched_from_none, searched_from_touched, source_under}
use Rattle.olr_renewal.proofs.BoundLemmas.{edit_same}
use Rattle.olr_renewal.proofs.affected.search_touched.Goals.{then-are_unbounded-via-then-are_unbounded}
use Rattle.olr_renewal.proofs.affected.search_touched.Goals.{then-are_unbounded-via-else-are_unbounded+then-is_without_queries}
use Rattle.olr_renewal.proofs.affected.search_touched.Goals as goal

pub returns-then-are_unbounded : goal.returns-then-are_unbounded
returns-then-are_unbounded g c =
    let N = g.M.MapRead.map c.args.update.now.map.now in
    let slot = g.M.MapRead.node_slot c.args.update.now.map.now in
    let same = edit_same _ N slot (g.met.M.MapRead.sound c.args.update.now.map.now) in
    searched_from_none N slot _ c.begin.new.self (Begins (shown_items c.args.overlaid))
    c.in_ok-begin.ensures.search (elim c.then-are_unbounded.branch [
      | then-are_unbounded-via-then-are_unbounded w ↦ λ l b.
          (rw c.nodes-nodes.ensures at c.are_unbounded.ensures.unbounded) w.if-are_unbounded.true N slot l.from l.within same c.requires.bounds.right
          (c.requires.bounds.sources l b)
      | then-are_unbounded-via-else-are_unbounded+then-is_without_queries w ↦ λ l b. absurd (w.is_without_queries.ensures w.if-is_without_queries.true l b)
    ])

-- as far as the bounds let it
pub returns-then-is_valid : goal.returns-then-is_valid
returns-then-is_valid g c =
    let N = g.M.MapRead.map c.args.update.now.map.now in
    let f = c.args.bounds.now in
    let from = sources c.args.update.now.touched.now in
    let begun = rw c.nodes-nodes.ensures at c.in_ok-begin_at.ensures in
    let known : IsTrue f.valid = sym c.is_valid.ensures ∙ c.if-is_valid.true in
    searched_from_touched _ _ _ c.settle_under.new.self (g.met.M.MapRead.sound c.args.update.now.map.now)
    (Begins (shown_items c.args.overlaid)) (c.in_ok-settle_under.ensures.labelled Against from begun)
    (λ l b d le there way. c.in_ok-settle_under.ensures.settled Against from begun (c.requires.bounds.right known).closed
    l.from d there
    (source_under N _ f l.from l.within d known c.requires.bounds.right (c.requires.bounds.sources l b) there le) way)

-- as far as a query can reach
pub returns : goal.returns
returns g c =
    let begun = rw c.nodes-nodes.ensures at c.in_ok-begin_at.ensures in
    let h = c.in_ok-settle_to.ensures.search Against (sources c.args.update.now.touched.now) begun in
    searched_from_touched _ _ _ c.settle_to.new.self (g.met.M.MapRead.sound c.args.update.now.map.now)
    (Begins (shown_items c.args.overlaid)) h.under_way.labelled
    (λ l b d le there way. let short = c.requires.short l b in
    h.settled l.from d there (omega (arith, c.in_ok-settle_to.ensures.limit, c.farthest.ensures)) way)
