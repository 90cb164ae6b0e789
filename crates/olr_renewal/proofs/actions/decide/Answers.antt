use Rattle.olr_renewal.proofs.Common.{inl, inr, sym, ◌∙◌, ap, option_map, results_of, true≢false, subst, Option, Results, BeginsIn}
use Rattle.olr_renewal.proofs.Common.{IsSearchedFor}
use Rattle.olr_renewal.proofs.Touching.{untouched, touched_itself}
use Rattle.olr_renewal.proofs.actions.decide.Goals as goal

pub is_query_touched-requires : goal.is_query_touched-requires
is_query_touched-requires g c =
    rw c.queries.ensures (subst (λ (o : Option Results). IsSearchedFor (g.M.MapRead.map c.args.update.now.map.now)
    (g.M.MapRead.node_slot c.args.update.now.map.now) c.args.update.now.touched.now c.args.near.now (BeginsIn o))
    (ap (option_map (λ p. results_of p.now)) c.in-Some.is) c.requires.searched)

pub returns-then-is_path_touched-clause-action : goal.returns-then-is_path_touched-clause-action
returns-then-is_path_touched-clause-action g c =
    let m : Results = results_of c.in-Some.published.now in
    let some = ap (option_map (λ p. results_of p.now)) c.in-Some.is in (
      inr (
        m,
        some,
        touched_itself _ m c.args.shown.path.now.value
            ((rw c.deref.ensures at c.is_path_touched.ensures).0 c.if-is_path_touched.true),
      ),
      rw (some, ← c.known.ensures) c.in_ok-known.ensures.clear,
    )

pub returns-then-not-is_query_touched-clause-action : goal.returns-then-not-is_query_touched-clause-action
returns-then-not-is_query_touched-clause-action g c =
    let m : Results = results_of c.in-Some.published.now in (
      m,
      ap (option_map (λ p. results_of p.now)) c.in-Some.is,
      untouched _ m c.args.shown.path.now.value (rw c.deref.ensures at c.is_path_touched.ensures)
          (rw c.queries.ensures at c.is_query_touched.ensures) c.if-is_path_touched.false c.if-not-is_query_touched.true,
    )

pub returns-then-branch-clause-action : goal.returns-then-branch-clause-action
returns-then-branch-clause-action g c =
    let own = rw c.deref.ensures at c.is_path_touched.ensures in
    let off = c.if-is_path_touched.false in (
      results_of c.in-Some.published.now,
      ap (option_map (λ p. results_of p.now)) c.in-Some.is,
      inr (inr ((rw c.queries.ensures at c.is_query_touched.ensures).0 c.if-not-is_query_touched.false)),
      record {
        traversed = λ t. true≢false (sym (own.1 (inl t)) ∙ off);
        lines = λ x. true≢false (sym (own.1 (inr x)) ∙ off);
        clear = (rw c.queries-then-are_few.ensures at c.in_ok-are_clear.ensures.clear) c.if-branch.true;
      },
    )

pub returns-clause-action : goal.returns-clause-action
returns-clause-action g c =
    let m : Results = results_of c.in-Some.published.now in
    let some = ap (option_map (λ p. results_of p.now)) c.in-Some.is in (
      inr (m, some, inr (inr ((rw c.queries.ensures at c.is_query_touched.ensures).0 c.if-not-is_query_touched.false))),
      rw (some, ← c.known-2.ensures) c.in_ok-known-2.ensures.clear,
    )
