use Rattle.olr_map.proofs.Common.{arith, some_of}
use Rattle.olr_map.proofs.ColumnLemmas.{place_turned, place_at}
use Rattle.olr_map.proofs.slots.NodeSlots.move_node.Goals as goal

pub returns-clause-turns : goal.returns-clause-turns
returns-clause-turns c =
    let s = c.args.self.now in
    let p = c.args.slot in
    let e = some_of _ c.requires in
    (e.0, grind (arith, place_at), rw c.replace.ensures.after (place_turned s p e.0 e.1 c.args.place))
