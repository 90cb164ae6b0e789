use Rattle.olr_map.proofs.Common.{some_of, Out, In}
use Rattle.olr_map.proofs.ColumnLemmas.{relinked}
use Rattle.olr_map.proofs.slots.NodeSlots.reserve_link.Goals as goal

pub returns-in-Out-clause-turns : goal.returns-in-Out-clause-turns
returns-in-Out-clause-turns c =
    let e = some_of _ c.requires in
    rw c.in-Out.is (relinked c.args.self.now c.args.slot e.0 e.1 Out _ _ c.index_mut.ensures.value
    (c.reserve.ensures.same, c.reserve.ensures.room))

pub returns-in-In-clause-turns : goal.returns-in-In-clause-turns
returns-in-In-clause-turns c =
    let e = some_of _ c.requires in
    rw c.in-In.is (relinked c.args.self.now c.args.slot e.0 e.1 In _ _ c.index_mut-in-In.ensures.value
    (c.reserve-in-In.ensures.same, c.reserve-in-In.ensures.room))
