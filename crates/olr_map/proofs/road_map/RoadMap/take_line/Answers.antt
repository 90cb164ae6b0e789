use Rattle.olr_map.proofs.Common.{tables_map, ◌∙◌, PutLine, TakeLine, line_at, None, refl}
use Rattle.olr_map.proofs.LineChanges.{can_put_in, can_put_out, is_held, line_take}
use Rattle.olr_map.proofs.Making.{made_as, TablesMade}
use Rattle.olr_map.proofs.road_map.RoadMap.take_line.Goals as goal

pub put_end-requires : goal.put_end-requires
put_end-requires c =
    let t = c.args.self.now in
    can_put_out t c.args.id c.args.from (made_as (tables_map t) (TakeLine c.args.id) c.requires.can.accepted).0 c.requires.begin

pub put_end-requires-2 : goal.put_end-requires-2
put_end-requires-2 c =
    let t = c.args.self.now in
    can_put_in t c.args.id c.args.from (made_as (tables_map t) (TakeLine c.args.id) c.requires.can.accepted).0 c.requires.begin
    c.put_end.new.self c.args.to c.put_end.ensures.turns c.requires.end

pub take-requires : goal.take-requires
take-requires c =
    let t = c.args.self.now in
    is_held t c.args.id _ (made_as (tables_map t) (TakeLine c.args.id) c.requires.can.accepted).0 c.number.ensures.same

all : (c : goal.After-take) → TablesMade c.args.self.now c.args.self.now.index c.put_end-2.new.self c.take.new.self
    (TakeLine c.args.id) (PutLine c.args.id c.take.result)
all c =
    line_take c.args.self.now c.put_end.new.self c.put_end-2.new.self c.take.new.self _ c.args.id c.args.from c.args.to
    c.number.ensures.same (line_at (tables_map c.args.self.now) c.args.id) c.requires.begin c.requires.end None None
    c.put_end.ensures.turns c.put_end-2.ensures.turns c.take.result refl c.take.ensures.was refl refl c.take.ensures.taken
    c.requires.can (c.put_end-2.ensures.room ∙ c.put_end.ensures.room) c.take.ensures.spare

pub invariant_of-self : goal.invariant_of-self
invariant_of-self c = record { kept = (all c).kept }

pub returns : goal.returns
returns c = (all c.before).made _
