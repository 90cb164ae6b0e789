use Rattle.olr_map.proofs.Common.{tables_map, ◌∙◌, SetLine, line_at, Some, ap, refl}
use Rattle.olr_map.proofs.LineChanges.{can_put_in, can_put_out, is_held, line_reset}
use Rattle.olr_map.proofs.Making.{made_as, TablesMade}
use Rattle.olr_map.proofs.road_map.RoadMap.set_line.Goals as goal

pub put_end-requires : goal.put_end-requires
put_end-requires c =
    let t = c.args.self.now in
    can_put_out t c.args.id c.args.from (made_as (tables_map t) (SetLine c.args.id c.args.line) c.requires.can.accepted).0 c.requires.begin

pub put_end-requires-2 : goal.put_end-requires-2
put_end-requires-2 c =
    let t = c.args.self.now in
    can_put_in t c.args.id c.args.from (made_as (tables_map t) (SetLine c.args.id c.args.line) c.requires.can.accepted).0 c.requires.begin
    c.put_end.new.self c.args.to c.put_end.ensures.turns c.requires.end

pub replace-requires : goal.replace-requires
replace-requires c =
    let t = c.args.self.now in
    is_held t c.args.id _ (made_as (tables_map t) (SetLine c.args.id c.args.line) c.requires.can.accepted).0 c.number.ensures.same

all : (c : goal.After-replace) → TablesMade c.args.self.now c.args.self.now.index c.put_end-2.new.self c.replace.new.self
    (SetLine c.args.id c.args.line) (SetLine c.args.id c.replace.result)
all c =
    line_reset c.args.self.now c.put_end.new.self c.put_end-2.new.self c.replace.new.self _ c.args.id c.args.from c.args.to
    c.number.ensures.same (line_at (tables_map c.args.self.now) c.args.id) c.requires.begin c.requires.end _ _
    c.put_end.ensures.turns c.put_end-2.ensures.turns c.replace.result refl c.replace.ensures.was c.args.line
    (ap (λ s. Some s) c.far_end.ensures) (ap (λ s. Some s) c.far_end-2.ensures) c.replace.ensures.put c.requires.can
    (c.put_end-2.ensures.room ∙ c.put_end.ensures.room) c.replace.ensures.spare

pub invariant_of-self : goal.invariant_of-self
invariant_of-self c = record { kept = (all c).kept }

pub returns : goal.returns
returns c = (all c.before).made _
