use Rattle.olr_map.proofs.Common.{refl, ap, ◌∙◌, node_slots, PutLine, TakeLine, Out, In, Some}
use Rattle.olr_map.proofs.Indexing.{relisted}
use Rattle.olr_map.proofs.LineChanges.{can_put, line_put}
use Rattle.olr_map.proofs.Making.{TablesMade}
use Rattle.olr_map.proofs.road_map.RoadMap.put_line.Goals as goal

pub put_end-requires : goal.put_end-requires
put_end-requires c =
    let t = c.args.self.now in
    can_put t (node_slots t.nodes) t.kept.indexed Out (λ k. refl) c.args.line.from c.args.from c.args.id c.requires.begin
    (λ _. c.requires.can.fits Out)

pub put_end-requires-2 : goal.put_end-requires-2
put_end-requires-2 c =
    let t = c.args.self.now in
    let r =
    relisted t.index (node_slots t.nodes) t.kept.indexed _ Out c.args.from _ c.put_end.ensures.turns c.requires.begin in
    can_put t (node_slots c.put_end.new.self) r.indexed In (r.now In) c.args.line.to c.args.to c.args.id c.requires.end
    (λ _. c.requires.can.fits In)

all : (c : goal.After-put) → TablesMade c.args.self.now c.args.self.now.index c.put_end-2.new.self c.put.new.self
    (PutLine c.args.id c.args.line) (TakeLine c.args.id)
all c =
    line_put c.args.self.now c.put_end.new.self c.put_end-2.new.self c.put.new.self _ c.args.id c.args.from c.args.to
    c.number.ensures.same c.args.line c.requires.begin c.requires.end _ _ c.put_end.ensures.turns c.put_end-2.ensures.turns
    (ap (λ s. Some s) c.far_end.ensures) (ap (λ s. Some s) c.far_end-2.ensures) c.put.ensures.put c.requires.can
    (c.put_end-2.ensures.room ∙ c.put_end.ensures.room) c.put.ensures.spare

pub invariant_of-self : goal.invariant_of-self
invariant_of-self c = record { kept = (all c).kept }

pub returns : goal.returns
returns c = (all c.before).made _
