use Rattle.olr_search.proofs.Common.{arith, label_of}
use Rattle.olr_search.proofs.DistinctLemmas.{slots_distinct}
use Rattle.olr_search.proofs.SearchLemmas.{is_distance, labelled_listed, near_listed, listed_reached}
use Rattle.olr_search.proofs.distances.Dijkstra.labelled_slots.Goals as goal

pub returns-clause-near : goal.returns-clause-near
returns-clause-near c = λ M slot way from v h near.
    rw c.labelled_slots.ensures (near_listed M slot way from c.args.self.now h v near)

pub returns-clause-labelled : goal.returns-clause-labelled
returns-clause-labelled c = λ M slot way from v h known low.
    rw c.labelled_slots.ensures (labelled_listed c.args.self.now.frontier (slot v) low)

pub returns-clause-once : goal.returns-clause-once
returns-clause-once c = grind (arith, slots_distinct)

pub returns-clause-reached : goal.returns-clause-reached
returns-clause-reached c = λ M slot way from p h there.
    listed_reached M slot way from c.args.self.now h p (rw c.labelled_slots.ensures at there)

pub returns-clause-exactly : goal.returns-clause-exactly
returns-clause-exactly c = λ M slot way from v h far known there.
    let low = h.under_way.labelled.listed (slot v) (rw c.labelled_slots.ensures at there) in
    let s = c.args.self.now in
    (label_of s.frontier (slot v), is_distance M slot way from s h v known (omega (arith, low, far)), low)
