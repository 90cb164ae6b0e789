use Rattle.olr_refs.proofs.Common.{rules, arith, and_parts, to_z-of_z, ap, ◌∙◌, Coord, abs24, legs, w32}
use Rattle.olr_refs.proofs.PointLemmas.{first_read, stored}
use Rattle.olr_refs.proofs.lrp_fields.first_point.Goals as goal

pub abs24-requires : goal.abs24-requires
abs24-requires g c = grind (arith, and_parts, to_z-of_z)

pub abs24-requires-2 : goal.abs24-requires-2
abs24-requires-2 g c = grind (arith, and_parts, to_z-of_z)

pub returns : goal.returns
returns g c =
    let gs = legs (g.M.MapRead.map c.args.resolved.now.map.now) c.args.resolved.now.lines.now in
    first_read c.args.resolved.now.margin gs c.args.i c.args.j _ _ _
    (stored w32 abs24 _ _ _ (search rules) (c.lon.ensures.value
    ∙ ap (λ (p : Coord). p.lon) c.place-place.ensures.position) (search rules) c.abs24.ensures)
    (stored w32 abs24 _ _ _ (search rules) (c.lat.ensures.value
    ∙ ap (λ (p : Coord). p.lat) c.place-place.ensures.position) (search rules) c.abs24-2.ensures)
    c.attrs.ensures
