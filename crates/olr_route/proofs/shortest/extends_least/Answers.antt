use Rattle.olr_route.proofs.Common.{◌∷◌, [], ◌++◌, ℕ, List, sym, subst, ap, ◌∙◌, LeastWithin, arith, limit_of, ResolvedLine}
use Rattle.olr_route.proofs.EndLemmas.{option_is}
use Rattle.olr_route.proofs.ExtendLemmas.{same_front}
use Rattle.olr_search.proofs.RouteEnds.{last_step}
use Rattle.olr_route.proofs.shortest.extends_least.Goals as goal

pub returns-in-Some : goal.returns-in-Some
returns-in-Some g c = λ s route a l.
    let M = g.M.MapRead.map c.args.map.now in
    let x = c.args.line in
    let At : ℕ → List ℕ → Type 0 = LeastWithin M s (limit_of c.args.labels.now) in
    let k = c.last_line.ensures M (g.M.MapRead.node_slot c.args.map.now) s x a in
    let equal = option_is c.last_line.result x in
    let to = ap (λ (r : ResolvedLine). r.to) (c.resolved.view_is ∙ c.in-Some.ensures.1) in (
      λ yes.
          let p = k.0 (equal.0 (sym c.eq.ensures ∙ yes)) in
          same_front M a.sound s (limit_of c.args.labels.now) x route p.0 l
          (subst (λ (v : ℕ). At v (p.0 ++ x ∷ [])) to p.1),
      λ whole. c.eq.ensures ∙ equal.1 (k.1 (route, subst (λ (v : ℕ). At v (route ++ x ∷ [])) (sym to) whole)),
    )

pub returns-in-None : goal.returns-in-None
returns-in-None g c = grind (arith, last_step)
