use Rattle.olr_register.proofs.Common.{◌≡◌, false, All, List, take, subst, arith, CoverageQuery, IsSource, take_all}
use Rattle.olr_register.proofs.Common.{All-contains, All-weaker, all_more}
use Rattle.olr_register.proofs.bounds.add_sources.Goals as goal

pub returns-then-not-is_valid : goal.returns-then-not-is_valid
returns-then-not-is_valid c = record {
  under_way = λ M s T h. h;
  before = λ s w h. h;
  sources = λ l on known.
      let off : c.is_valid.result ≡ false = cc in
      let never : ⊥ = cc (c.is_valid.ensures, off, known) in
      absurd never;
}

pub loop-query-init : goal.loop-query-init
loop-query-init c = record { under_way = λ M s T h. h; before = λ s w h. h; added = λ j d lt. absurd (omega arith) }

pub loop-query-preserved : goal.loop-query-preserved
loop-query-preserved c =
    let inv = c.loop-query.invariant in
    let P : CoverageQuery → Type 0 = λ k. IsSource c.loop-query.bounds k.from k.within in
    let Q : CoverageQuery → Type 0 = λ k. IsSource c.add.new.self k.from k.within in
    let item : CoverageQuery = c.query-item.result in
    record {
      under_way = λ M s T h. c.add.ensures.under_way M s T (inv.under_way M s T h);
      before = λ s w h. c.add.ensures.sources s w (inv.before s w h);
      added =
          all_more Q c.args.queries.now c.loop-query.query-index item c.loop-query-test.true
          (All-weaker P Q (λ k h. c.add.ensures.sources k.from k.within h)
          (take c.loop-query.query-index c.args.queries.now) inv.added)
          (subst Q c.query-item.is (subst Q c.query.view_is c.add.ensures.source));
    }

pub returns : goal.returns
returns c =
    let inv = c.loop-query.invariant in
    let P : CoverageQuery → Type 0 = λ k. IsSource c.loop-query.bounds k.from k.within in
    let all : All P c.args.queries.now =
    subst (λ (ls : List CoverageQuery). All P ls)
    (take_all c.loop-query.query-index c.args.queries.now (omega (arith, c.loop-query-test.false))) inv.added in
    record {
      under_way = inv.under_way;
      before = inv.before;
      sources = λ l on. All-contains P c.args.queries.now l all on;
    }
