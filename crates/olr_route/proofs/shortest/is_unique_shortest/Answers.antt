use Rattle.olr_route.proofs.Common.{limit_of, UniqueShortest, rules, tests, empty_unique, prefix_of_unique}
use Rattle.std.proofs.lemmas.Iterator.{cases_from_all, YieldsList-from_slice}
use Rattle.olr_route.proofs.ExtendLemmas.{Extends, Stops, tested}
use Rattle.olr_route.proofs.shortest.is_unique_shortest.Goals as goal

pub returns-then-is_least : goal.returns-then-is_least
returns-then-is_least g c = λ s t a w.
    let M = g.M.MapRead.map c.args.map.now in
    let limit = limit_of c.args.labels.now in
    let lines = c.args.lines.now in
    let unique = UniqueShortest M s in
    let prefix = prefix_of_unique M s in
    let short = (c.is_least.ensures s t a w).0 c.if-is_least.true in
    let k =
    tested M s limit unique prefix _ t lines (empty_unique M a.sound s) w short.within
    (cases_from_all _ _ _ (Extends M s limit unique prefix) (Stops M s limit unique prefix) c.all.ensures.ran
    (YieldsList-from_slice lines cc) (λ x q k. search (rules, tests)) (λ x q k. search (rules, tests))) in
    (λ yes. (k.0 yes, short.within), λ whole. k.1 whole.0)
