use Rattle.olr_map.proofs.Common.{is_some_of, Out, In}
use Rattle.olr_map.proofs.ColumnLemmas.{inside_outs, inside_ins, relinked}
use Rattle.olr_map.proofs.slots.NodeSlots.put_end.Goals as goal

pub index_mut-requires : goal.index_mut-requires
index_mut-requires c = inside_outs c.args.self.now c.args.slot (is_some_of _ _ c.requires.1)

pub index_mut-requires-in-In : goal.index_mut-requires-in-In
index_mut-requires-in-In c = inside_ins c.args.self.now c.args.slot (is_some_of _ _ c.requires.1)

pub returns-in-Out-clause-turns : goal.returns-in-Out-clause-turns
returns-in-Out-clause-turns c =
    rw c.in-Out.is (relinked c.args.self.now c.args.slot c.requires.0 c.requires.1 Out _ _ c.index_mut.ensures.value
    c.put.ensures)

pub returns-in-In-clause-turns : goal.returns-in-In-clause-turns
returns-in-In-clause-turns c =
    rw c.in-In.is (relinked c.args.self.now c.args.slot c.requires.0 c.requires.1 In _ _ c.index_mut-in-In.ensures.value
    c.put-in-In.ensures)
