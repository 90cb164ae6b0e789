use Rattle.olr_renewal.proofs.Common.{arith, take_all}
use Rattle.olr_renewal.proofs.sources.begin_at.Goals as goal

pub returns : goal.returns
returns g c =
    let all = take_all c.loop-item.item-index c.args.items.now (omega (arith, c.loop-item-test.false)) in
    rw (c.deref.ensures.value, c.loop-item.invariant, all) at c.begin.ensures.search
