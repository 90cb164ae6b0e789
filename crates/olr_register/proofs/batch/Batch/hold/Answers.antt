use Rattle.olr_register.proofs.Common.{refl, sym, arith, err_from_is_err_and, full, ByContent, leb-false}
use Rattle.olr_register.proofs.batch.Batch.hold.Goals as goal

pub returns-then-is_full : goal.returns-then-is_full
returns-then-is_full c = record {
  before = refl;
  made = tt;
  room = tt;
  count = tt;
  reply = tt;
  refused = ByContent (rw (← c.if-is_full.ensures));
  unchanged = refl;
  held = c.requires;
  margin = λ g k. k;
  under_way = λ f h. h;
}

pub returns-in_err-make : goal.returns-in_err-make
returns-in_err-make c =
    let p = err_from_is_err_and c.from_residual.result c.from_residual.ensures.1 in
    let m = c.in_err-make.ensures in
    rw (p.1, p.2) (record {
      before = m.before;
      made = tt;
      room = tt;
      count = tt;
      reply = tt;
      refused = rw (← c.if-is_full.ensures) m.refused;
      unchanged = m.unchanged;
      held = m.held c.requires;
      margin = m.margin;
      under_way = m.under_way;
    })

pub returns : goal.returns
returns c =
    let few = leb-false full c.args.self.now.count (sym c.if-is_full.ensures) in
    let m = c.in_ok-make.ensures in
    let same = m.count in
    record {
      before = m.before;
      made = m.made;
      room = sym c.if-is_full.ensures;
      count = omega arith;
      reply = refl;
      refused = tt;
      unchanged = tt;
      held = m.held c.requires;
      margin = m.margin;
      under_way = m.under_way;
    }
