use Rattle.olr_map.proofs.NodeChanges.{move_made}
use Rattle.olr_map.proofs.road_map.RoadMap.move_node.Goals as goal

pub invariant_of-self : goal.invariant_of-self
invariant_of-self c =
    let w = c.move_node.ensures.turns in
    record {
      kept = (move_made c.args.self.now c.move_node.new.self c.args.slot c.args.id w.0 c.args.place w.2 c.requires.here
          c.requires.can c.move_node.ensures.room).kept;
    }

pub returns : goal.returns
returns c =
    let w = c.move_node.ensures.turns in
    rw (← w.1) ((move_made c.args.self.now c.move_node.new.self c.args.slot c.args.id w.0 c.args.place w.2 c.requires.here
    c.requires.can c.move_node.ensures.room).made _)
