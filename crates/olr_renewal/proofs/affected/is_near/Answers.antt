use Rattle.olr_renewal.proofs.Common.{GREATEST_LIMIT, CoverageQuery, label_at, nodes_of, IsTrue, arith, subst, Near, min, ◌↔◌, ap}
use Rattle.olr_renewal.proofs.Distances.{near_absent}
use Rattle.olr_renewal.proofs.affected.is_near.Goals as goal

pub returns-in-Some : goal.returns-in-Some
returns-in-Some g c =
    let N = g.M.MapRead.map c.args.update.now.map.now in
    let T = nodes_of c.args.update.now.touched.now in
    let s = c.requires in
    let l : CoverageQuery = record { from = c.query.inside.from; to = c.query.inside.to; within = c.query.inside.within } in
    let there = c.in-Some.ensures.0 in
    let at = c.is_within.ensures in
    let same = ap (label_at c.args.near.now) c.in-Some.ensures.1 in
    let least = c.min.ensures in
    subst (λ (k : CoverageQuery). IsTrue c.is_within.result ↔ Near N T k.from (min k.within GREATEST_LIMIT)) c.query.view_is (
      (λ yes. let low = at.0 yes in s.reaches l.from (min l.within GREATEST_LIMIT) there (omega arith) (omega arith)),
      (λ near. let low = s.found l c.query.view_is there near in at.1 (omega arith)),
    )

pub returns-in-None : goal.returns-in-None
returns-in-None g c =
    let N = g.M.MapRead.map c.args.update.now.map.now in
    let T = nodes_of c.args.update.now.touched.now in
    subst (λ (k : CoverageQuery). IsTrue c.has_node.result ↔ Near N T k.from (min k.within GREATEST_LIMIT)) c.query.view_is
    (rw c.has_node.ensures (near_absent N (g.met.M.MapRead.sound c.args.update.now.map.now) T c.query.inside.from _ c.in-None.ensures))
