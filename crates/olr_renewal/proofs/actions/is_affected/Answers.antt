use Rattle.olr_renewal.proofs.Common.{inr, ap, option_map, results_of, subst, Option, Results, BeginsIn, IsSearchedFor}
use Rattle.olr_renewal.proofs.Touching.{untouched}
use Rattle.olr_renewal.proofs.actions.is_affected.Goals as goal

pub is_query_touched-requires : goal.is_query_touched-requires
is_query_touched-requires g c =
    rw c.queries.ensures (subst (λ (o : Option Results). IsSearchedFor (g.M.MapRead.map c.args.update.now.map.now)
    (g.M.MapRead.node_slot c.args.update.now.map.now) c.args.update.now.touched.now c.args.near.now (BeginsIn o))
    (ap (option_map (λ p. results_of p.now)) c.in-Some.is) c.requires)

pub returns-else-is_path_touched-clause-stays : goal.returns-else-is_path_touched-clause-stays
returns-else-is_path_touched-clause-stays g c = λ off. (
  results_of c.in-Some.published.now,
  ap (option_map (λ p. results_of p.now)) c.in-Some.is,
  untouched _ (results_of c.in-Some.published.now) c.args.shown.path.now.value (rw c.deref.ensures at c.is_path_touched.ensures)
      (rw c.queries.ensures at c.is_query_touched.ensures) c.if-is_path_touched.false off,
)

pub returns-else-is_path_touched-clause-affected : goal.returns-else-is_path_touched-clause-affected
returns-else-is_path_touched-clause-affected g c = λ yes. inr (
  results_of c.in-Some.published.now,
  ap (option_map (λ p. results_of p.now)) c.in-Some.is,
  inr (inr ((rw c.queries.ensures at c.is_query_touched.ensures).0 yes)),
)
