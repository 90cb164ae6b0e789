use Rattle.olr_renewal.proofs.Common.{arith, put_ascends, put_has, stays_has}
use Rattle.olr_renewal.proofs.change_set.put_line.Goals as goal

pub returns-in-Err-clause-ascend : goal.returns-in-Err-clause-ascend
returns-in-Err-clause-ascend c =
    let items = rw c.unwrap.ensures at c.insert-inserted.ensures.items in
    rw items (put_ascends c.args.lines.now.items c.args.line c.in-Err.place c.requires.ascend
    (rw c.deref-2.ensures.value at c.in-Err.ensures.position))

pub returns-in_default-clause-holds : goal.returns-in_default-clause-holds
returns-in_default-clause-holds c v =
    stays_has c.args.lines.now.items c.args.line c.in_default.field-0 v c.requires.ascend
    (rw c.deref-2.ensures.value at c.in_default.ensures.position)

pub returns-in-Err-clause-holds : goal.returns-in-Err-clause-holds
returns-in-Err-clause-holds c = grind (arith, put_has)
