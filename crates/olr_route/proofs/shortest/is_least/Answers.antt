use Rattle.olr_route.proofs.Common.{arith, limit_of, LeastWithin, dm_of, empty_least, rules, tests}
use Rattle.std.proofs.lemmas.Iterator.{cases_from_all, YieldsList-from_slice}
use Rattle.olr_route.proofs.ExtendLemmas.{Extends, Stops, tested, prefix_within}
use Rattle.olr_route.proofs.shortest.is_least.Goals as goal

pub returns : goal.returns
returns g c = λ s t a w.
    let M = g.M.MapRead.map c.args.map.now in
    let limit = limit_of c.args.labels.now in
    let lines = c.args.lines.now in
    let short = LeastWithin M s limit in
    let prefix = prefix_within M s limit in
    tested M s (dm_of M lines) short prefix _ t lines
    (record { least = empty_least M s; within = omega arith }) w (omega arith)
    (cases_from_all _ _ _ (Extends M s (dm_of M lines) short prefix) (Stops M s (dm_of M lines) short prefix) c.all.ensures.ran
    (YieldsList-from_slice lines cc) (λ x q k. search (rules, tests)) (λ x q k. search (rules, tests)))
