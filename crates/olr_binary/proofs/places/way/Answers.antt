use Rattle.olr_binary.proofs.Common.{common_steps, arith, w16, ints, to_z-of_z, from_abs24, w32, w64, w128}
use Rattle.olr_binary.proofs.PlaceLemmas.{add_none, place-more}
use Rattle.olr_binary.proofs.places.way.Goals as goal

pub loop-point-init : goal.loop-point-init
loop-point-init c = grind (arith, w32, w64, to_z-of_z, add_none, ints)

pub loop-point-preserved : goal.loop-point-preserved
loop-point-preserved c =
    let points = c.args.points.now in
    let lon_more =
    place-more (from_abs24 c.args.first.lon) (λ m. m.dlon) points _ _ c.loop-point-test.true c.point-item.is in
    let lat_more =
    place-more (from_abs24 c.args.first.lat) (λ m. m.dlat) points _ _ c.loop-point-test.true c.point-item.is in
    record {
      lon = grind (arith, common_steps, to_z-of_z, w16, w128, lon_more);
      lat = grind (arith, common_steps, to_z-of_z, w16, w128, lat_more);
      lon_bound = omega (arith, ints, c.after_steps-lon.ensures.bound);
      lat_bound = omega (arith, ints, c.after_steps-lat.ensures.bound);
    }

pub returns : goal.returns
returns c = grind (arith, common_steps)
