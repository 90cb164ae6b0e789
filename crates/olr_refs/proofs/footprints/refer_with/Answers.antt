use Rattle.olr_refs.proofs.Common.{answer_of, List, Contains, CoverageQuery, arith, ap, subst}
use Rattle.olr_spec.proofs.LocalLemmas.{local_answer_with}
use Rattle.olr_search.specs.declared.work.Work.{Work}
use Rattle.olr_refs.proofs.Referring.{recovered_of, searches_queried}
use Rattle.olr_refs.proofs.Noting.{noted_foot}
use Rattle.olr_refs.proofs.QueryRange.{query_begins, query_short}
use Rattle.olr_refs.proofs.footprints.refer_with.Goals as goal

pub note_queries-requires : goal.note_queries-requires
note_queries-requires g c = λ l on.
    let M = g.M.MapRead.map c.args.map.now in
    let e = c.in_ok-encoding.ensures in
    let there = subst (λ (ls : List CoverageQuery). Contains ls l) c.deref.ensures.value on in
    let most = c.routes-routes.ensures.margin in
    let short = query_short c.args.margin most M c.args.path.now _ e.encoding.queries l there in
    (query_begins c.args.margin most M c.args.path.now _ e.encoding.queries l there (g.met.M.MapRead.sound c.args.map.now) e.path, omega (arith, short.1))

pub returns-clause-recovered : goal.returns-clause-recovered
returns-clause-recovered g c = grind (arith, recovered_of, g.met.M.MapRead.sound c.args.map.now)

pub returns-clause-footprint : goal.returns-clause-footprint
returns-clause-footprint g c =
    let M = g.M.MapRead.map c.args.map.now in
    let e = c.in_ok-encoding.ensures in
    noted_foot c.args.margin M (g.met.M.MapRead.sound c.args.map.now) c.args.path.now e.path _ e.encoding.queries _ _
    e.encoding.traversed (λ v. rw c.deref.ensures.value at (c.in_ok-settled.ensures.noted v))

pub returns-clause-local : goal.returns-clause-local
returns-clause-local g c = λ N n a.
    local_answer_with c.args.margin (g.M.MapRead.map c.args.map.now) N (g.met.M.MapRead.sound c.args.map.now) n c.args.path.now
    c.in_ok-encoding.ensures.path
    (record { nodes = λ v h. a.nodes v ((returns-clause-footprint g c v).1 h); lines = a.lines })
    (answer_of c.in_ok-encoding.encoding.answer) c.in_ok-encoding.ensures.encoding.answer

pub returns-clause-searches : goal.returns-clause-searches
returns-clause-searches g c = (
  _,
  searches_queried c.args.margin (g.M.MapRead.map c.args.map.now) c.args.path.now _ c.in_ok-encoding.ensures.encoding.queries,
  omega (arith, ap (λ (w : Work). w.searches) c.plus.ensures),
)

pub returns-clause-settled : goal.returns-clause-settled
returns-clause-settled g c =
    let few = rw c.deref.ensures.value at c.in_ok-settled.ensures.few in (
      _,
      searches_queried c.args.margin (g.M.MapRead.map c.args.map.now) c.args.path.now _ c.in_ok-encoding.ensures.encoding.queries,
      omega (arith, ap (λ (w : Work). w.settled) c.plus.ensures),
    )
