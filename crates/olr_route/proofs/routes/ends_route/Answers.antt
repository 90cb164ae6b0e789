use Rattle.olr_route.proofs.Common.{◌≡◌, ◌∷◌, [], ℕ, sym, subst, ◌∙◌, arith, Along, IsDistance, ap, Option, Line, no_line}
use Rattle.std.proofs.Common.{◌-◌, unwrap_or}
use Rattle.olr_route.proofs.EndLemmas.{option_is}
use Rattle.olr_route.proofs.routes.ends_route.Goals as goal

pub returns-then-record-length : goal.returns-then-record-length
returns-then-record-length g c = λ s v f known to.
    let from = ap (λ (l : Line). l.from) c.record.view_is ∙ ap (λ (o : Option Line). (unwrap_or o no_line).from) c.in-Some.ensures in
    let len = ap (λ (l : Line). l.len) c.record.view_is ∙ ap (λ (o : Option Line). (unwrap_or o no_line).len) c.in-Some.ensures in
    let rest : ℕ = c.args.length - c.record.inside.len in
    let At : ℕ → ℕ → Type 0 = λ u n. IsDistance (g.M.MapRead.map c.args.map.now) Along ((s, 0) ∷ []) u n in
    let k = c.dist.ensures Along ((s, 0) ∷ []) rest f.search in
    let equal = option_is c.dist.result rest in (
      λ yes. record {
        known = known;
        to = to;
        before = rest;
        near = subst (λ (u : ℕ). At u rest) from (k.0 (equal.0 (sym c.eq.ensures ∙ yes))).0;
        long = omega (arith, len);
      },
      λ r.
          let is : r.before ≡ rest = omega (arith, len, r.long) in
          c.eq.ensures ∙ equal.1 (k.1 (coe 1 0 (i. At (from i) (sym is i)) r.near, omega (arith, f.within))),
    )
