use Rattle.olr_renewal.proofs.Common.{Along, Against, sources_in, changed_of, on_ok_weaker}
use Rattle.olr_renewal.proofs.detours.settle_both.Goals as goal

pub settle_to-requires-in-Some-None-clause-begun : goal.settle_to-requires-in-Some-None-clause-begun
settle_to-requires-in-Some-None-clause-begun g c =
    let C = changed_of c.args.update.now.touched.now in
    (Along, sources_in Along C, c.in_ok-settle_to-2.ensures.search Along _ c.requires.searches.after)

pub settle_to-requires-in-None-Some-clause-begun : goal.settle_to-requires-in-None-Some-clause-begun
settle_to-requires-in-None-Some-clause-begun g c =
    let C = changed_of c.args.update.now.touched.now in
    (Against, sources_in Against C, c.in_ok-settle_to.ensures.search Against _ c.requires.searches.before)

pub returns-in-Some-None : goal.returns-in-Some-None
returns-in-Some-None g c = on_ok_weaker c.settle_to-in-Some-None.result (λ search. record {
  before = c.in_ok-settle_to.ensures.search Against _ c.requires.searches.before;
  after = search Along _ (c.in_ok-settle_to-2.ensures.search Along _ c.requires.searches.after);
}) c.settle_to-in-Some-None.ensures.search

pub returns-in-None-Some : goal.returns-in-None-Some
returns-in-None-Some g c = on_ok_weaker c.settle_to-in-None-Some.result (λ search. record {
  before = search Against _ (c.in_ok-settle_to.ensures.search Against _ c.requires.searches.before);
  after = c.in_ok-settle_to-2.ensures.search Along _ c.requires.searches.after;
}) c.settle_to-in-None-Some.ensures.search

pub returns-in_default : goal.returns-in_default
returns-in_default g c = record {
  before = c.in_ok-settle_to.ensures.search Against _ c.requires.searches.before;
  after = c.in_ok-settle_to-2.ensures.search Along _ c.requires.searches.after;
}

pub returns-in_default-2 : goal.returns-in_default-2
returns-in_default-2 g c = record {
  before = c.in_ok-settle_to.ensures.search Against _ c.requires.searches.before;
  after = c.in_ok-settle_to-2.ensures.search Along _ c.requires.searches.after;
}
