use Rattle.olr_refs.proofs.Common.{◌≡◌, ◌≤◌, ◌+◌, ◌*◌, ℕ, List, Contains, length, sym, subst, arith, inl, inr, take_all}
use Rattle.olr_refs.proofs.Common.{SeenBy, CoverageQuery, ◌↔◌, ◌⊎◌}
use Rattle.std.proofs.Math.Nat.{mul-le-mul_left}
use Rattle.olr_refs.proofs.Noting.{seen_more, noted_more}
use Rattle.olr_refs.proofs.footprints.note_queries.Goals as goal

pub note_query-requires-clause-begins : goal.note_query-requires-clause-begins
note_query-requires-clause-begins g c =
    (c.requires c.query-item.result (c.loop-query.query-index, c.loop-query-test.true, sym c.query-item.is)).0

pub note_query-requires-clause-small : goal.note_query-requires-clause-small
note_query-requires-clause-small g c =
    (c.requires c.query-item.result (c.loop-query.query-index, c.loop-query-test.true, sym c.query-item.is)).1

pub loop-query-init : goal.loop-query-init
loop-query-init g c = record {
  noted = λ v. (inl, λ w. elim w [ inl old ↦ old | inr seen ↦ absurd (omega (arith, seen.1.1)) ]);
  few = omega arith;
}

pub loop-query-preserved : goal.loop-query-preserved
loop-query-preserved g c =
    let n = c.loop-query.query-index in
    let inv = c.loop-query.invariant in
    let e = c.in_ok-nodes.ensures in
    let old = length c.loop-query.footprint in
    let new = length c.note_query.new.footprint in
    record {
      noted = λ v. noted_more _ _ _ _ _ _ (inv.noted v) (e.noted v)
          (seen_more (g.M.MapRead.map c.args.map.now) c.args.queries.now n c.query-item.result c.loop-query-test.true
          c.query-item.is v);
      few =
          let more : n * old ≤ n * new = mul-le-mul_left n e.grows in
          let parts : (n + 1) * new ≡ n * new + new = omega arith in
          let few = e.few in
          omega (arith, inv.few);
    }

pub returns-clause-noted : goal.returns-clause-noted
returns-clause-noted g c = λ v.
    let M = g.M.MapRead.map c.args.map.now in
    subst (λ (ls : List CoverageQuery). Contains c.loop-query.footprint v ↔ (Contains c.args.footprint.now v ⊎ SeenBy M ls v))
    (take_all c.loop-query.query-index c.args.queries.now (omega (arith, c.loop-query-test.false)))
    (c.loop-query.invariant.noted v)

pub returns-clause-few : goal.returns-clause-few
returns-clause-few g c =
    let all : c.loop-query.query-index ≡ length c.args.queries.now = omega (arith, c.loop-query-test.false) in
    subst (λ (n : ℕ). c.loop-query.settled ≤ n * length c.loop-query.footprint) all c.loop-query.invariant.few
