use Rattle.std.proofs.lemmas.Result.{on_ok_weaker}
use Rattle.olr_map.proofs.Capacity.{roomier_kept, roomier_reserved, roomier_here}
use Rattle.olr_map.proofs.road_map.RoadMap.reserve_link.Goals as goal

pub invariant_of-self : goal.invariant_of-self
invariant_of-self c =
    let w = c.reserve_link.ensures.turns in
    record { kept = roomier_kept c.args.self.now c.reserve_link.new.self c.args.side c.args.slot _ w c.requires.1 w.holds.0 }

pub returns-clause-same : goal.returns-clause-same
returns-clause-same c =
    let w = c.reserve_link.ensures.turns in
    roomier_reserved c.args.self.now c.reserve_link.new.self c.args.side c.args.slot _ w c.requires.1 w.holds.0 _
    c.reserve_link.ensures.room

pub returns-clause-room : goal.returns-clause-room
returns-clause-room c =
    let w = c.reserve_link.ensures.turns in
    on_ok_weaker c.reserve_link.result (roomier_here c.args.self.now c.reserve_link.new.self c.args.side c.args.slot _ w
    c.requires.1 w.holds.0) w.holds.1
