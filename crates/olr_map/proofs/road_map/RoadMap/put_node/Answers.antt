use Rattle.olr_map.proofs.Common.{node_slots, PutNode, TakeNode}
use Rattle.olr_map.proofs.ColumnLemmas.{node_fits}
use Rattle.olr_map.proofs.Making.{TablesMade}
use Rattle.olr_map.proofs.NodeChanges.{put_made}
use Rattle.olr_map.proofs.road_map.RoadMap.put_node.Goals as goal

pub put-requires-clause-fits : goal.put-requires-clause-fits
put-requires-clause-fits c =
    node_fits c.put-slot.new.self (node_slots c.args.self.now.nodes) c.put-slot.result _ c.put-slot.ensures.inserts

all : (c : goal.After-put) → TablesMade c.args.self.now c.put.new.self c.put-slot.new.self c.args.self.now.lines
    (PutNode c.args.id c.args.place c.args.outs c.args.ins) (TakeNode c.args.id)
all c =
    put_made c.args.self.now c.put.new.self c.put-slot.new.self c.put-slot.result _ c.args.id c.args.place c.args.outs
    c.args.ins c.in_empty-outs.result c.in_empty-ins.result c.in_empty-outs.ensures c.in_empty-ins.ensures
    c.put-slot.ensures.inserts c.number.ensures.same c.put.ensures.put c.requires.can
    c.put-slot.ensures.room c.put.ensures.spare

pub invariant_of-self : goal.invariant_of-self
invariant_of-self c = record { kept = (all c).kept }

pub returns : goal.returns
returns c = (all c.before).made _
