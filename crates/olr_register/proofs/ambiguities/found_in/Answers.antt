use Rattle.olr_register.proofs.Common.{map_of, All, IsTrue, has_line, length, ◌≡◌, ◌+◌}
use Rattle.olr_spec.specs.Ambiguity.{side_at}
use Rattle.olr_spec.specs.Receiver.{decoded_coord, last_number}
use Rattle.olr_ambiguity.proofs.Cells.{grid_more}
use Rattle.olr_ambiguity.proofs.Lists.{rival_known}
use Rattle.olr_register.proofs.Ambiguous.{own_lines}
use Rattle.olr_register.proofs.ambiguities.found_in.Goals.{In-Points}
use Rattle.olr_register.proofs.ambiguities.found_in.Goals as goal

-- the own lines are on the map, one at each LRP
own : (c : In-Points) → All (λ x. IsTrue (has_line (map_of c.args.roads.now) x)) c.as_slice-own.result.now
    × (length c.as_slice-own.result.now ≡ last_number c.in-Points.reference + 1)
own c =
    let e = c.requires.encoding in
    rw c.as_slice-own.ensures.value (own_lines e.0 (map_of c.args.roads.now) e.1 c.args.encoding.now e.3 c.args.roads.now.kept.sound e.2
    c.in-Points.reference c.in-Points.is)

pub obstacles-requires-clause-grid : goal.obstacles-requires-clause-grid
obstacles-requires-clause-grid c = λ k x at.
    let M = map_of c.args.roads.now in
    let r = c.in-Points.reference in
    grid_more M _ _ c.in-Some.grid.now.nodes.items (rw c.in-Some.is at c.requires.grid)
    (λ v is. rival_known M (side_at r k) (decoded_coord r k) x v c.args.roads.now.kept.sound is)

pub obstacles-requires-clause-own : goal.obstacles-requires-clause-own
obstacles-requires-clause-own c = (own (goal.at.obstacles-requires-clause-own c).In-Points).0

pub obstacles-requires-clause-count : goal.obstacles-requires-clause-count
obstacles-requires-clause-count c = (own (goal.at.obstacles-requires-clause-count c).In-Points).1

pub obstacles_near-requires-clause-own : goal.obstacles_near-requires-clause-own
obstacles_near-requires-clause-own c = (own (goal.at.obstacles_near-requires-clause-own c).In-Points).0

pub obstacles_near-requires-clause-count : goal.obstacles_near-requires-clause-count
obstacles_near-requires-clause-count c = (own (goal.at.obstacles_near-requires-clause-count c).In-Points).1

pub returns-in-Refused : goal.returns-in-Refused
returns-in-Refused c = rw (c.new.ensures.items, c.in-Refused.is)

pub returns-in-Some : goal.returns-in-Some
returns-in-Some c = rw (c.in-Points.is, ← c.as_slice-own.ensures.value) c.obstacles.ensures

pub returns-in-None : goal.returns-in-None
returns-in-None c = rw (c.in-Points.is, ← c.as_slice-own.ensures.value) c.obstacles_near.ensures
