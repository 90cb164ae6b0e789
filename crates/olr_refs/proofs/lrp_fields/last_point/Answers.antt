use Rattle.olr_refs.proofs.Common.{rules, ◌-◌, ◌∙◌, arith, to_z-of_z, legs, w16}
use Rattle.olr_refs.proofs.LegLemmas.{leg_read}
use Rattle.olr_refs.proofs.PointLemmas.{last_read}
use Rattle.olr_refs.proofs.lrp_fields.last_point.Goals as goal

pub returns : goal.returns
returns g c =
    let M = g.M.MapRead.map c.args.resolved.now.map.now in
    let gs = legs M c.args.resolved.now.lines.now in
    let read =
    leg_read M _ (c.args.i - 1) _ c.ends_of.result (omega arith) c.line-line.ensures.value
    c.ends_of.ensures.from c.ends_of.ensures.to in
    last_read gs _ _ _ _ _ _ _ _ _ _ read c.place.ensures.position c.place-2.ensures.position
    (to_z-of_z w16 c.differences-dlon.result.0 (search rules) ∙ c.differences-dlon.ensures.lon)
    (to_z-of_z w16 c.differences-dlon.result.1 (search rules) ∙ c.differences-dlon.ensures.lat)
    (search rules) (search rules) (search rules)
