use Rattle.olr_route.proofs.Common.{◌∷◌, [], ◌++◌, ◌+◌, ◌≤◌, ◌↔◌, ℕ, IsTrue, ap, subst, arith, sym, ◌∙◌, start, end, dm}
use Rattle.olr_route.proofs.Common.{UniqueShortest, dm_of, limit_of, no_margin, ResolvedLine}
use Rattle.olr_search.proofs.ReadLemmas.{resolved_as}
use Rattle.olr_route.proofs.shortest.extends_unique.Goals as goal

pub extends_unique_shortest-requires : goal.extends_unique_shortest-requires
extends_unique_shortest-requires g c =
    let M = g.M.MapRead.map c.args.map.now in
    let slot = g.M.MapRead.node_slot c.args.map.now in
    let r = resolved_as M slot c.args.line _ c.in-Some.ensures.0 c.in-Some.ensures.1 in
    record {
      known = r.known;
      from = ap (λ (q : ResolvedLine). q.from_slot) r.is;
      to = ap (λ (q : ResolvedLine). q.to_slot) r.is;
    }

pub returns-in-Some : goal.returns-in-Some
returns-in-Some g c = λ s route a.
    let M = g.M.MapRead.map c.args.map.now in
    let is = c.in-Some.ensures.1 in
    subst (λ (y : ℕ). UniqueShortest M s (start M y) route → dm_of M route + dm M y ≤ limit_of c.args.labels.now →
    (IsTrue c.extends_unique_shortest.result ↔ UniqueShortest M s (end M y) (route ++ y ∷ [])))
    (ap (λ (r : ResolvedLine). r.id) is)
    (λ unique short.
    let len = ap (λ (r : ResolvedLine). r.len) is ∙ ap (λ (r : ResolvedLine). dm M r.id) (sym is) in
    c.extends_unique_shortest.ensures no_margin s 0 route a.search len unique (omega (arith, len)))
