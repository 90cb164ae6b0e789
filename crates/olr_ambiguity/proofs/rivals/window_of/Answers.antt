use Rattle.olr_ambiguity.proofs.Common.{◌≡◌, ◌∙◌, ◌+◌, ◌*◌, ◌≤◌, ◌-ℤ◌, ◌/◌, nat_abs, ap, arith, ints, sym, lon_apart, neg_ℤ, pos, degree_units}
use Rattle.olr_ambiguity.proofs.Common.{lat_apart, cosine_up_to, usual_slack, place_of, div-le_self}
use Rattle.olr_ambiguity.proofs.Windows.{inside, coord_small, lat_within, near_by_cosine, held_small}
use Rattle.olr_ambiguity.proofs.rivals.window_of.Goals as goal

pub returns-then-cosine-eq0 : goal.returns-then-cosine-eq0
returns-then-cosine-eq0 c =
    let p = place_of c.args.place in
    let far : c.lon_apart.result + c.lat_apart.result + usual_slack ≡ lon_apart p c.args.here + lat_apart p c.args.here + usual_slack = omega arith in
    record {
      whole = λ d valid near.
          let small = coord_small d valid in
          let lat = c.around-lat.ensures.around d.lat small.0 (lat_within p c.args.here d near _ _ (held_small c.args.place.lat c.requires.lat) far) in
          inside _ _ (neg_ℤ (pos (degree_units 180))) (pos (degree_units 180)) d lat (omega (arith, ints, small.1), omega (arith, ints, small.1));
      lat = c.around-lat.ensures.within;
      lon = (omega arith, omega arith);
    }

pub around-lon-requires-clause-reach : goal.around-lon-requires-clause-reach
around-lon-requires-clause-reach c =
    omega (arith, div-le_self (1000000 * (c.lon_apart.result + c.lat_apart.result + usual_slack)) c.cosine_up_to-cosine.result)

pub returns-else-cosine-eq0 : goal.returns-else-cosine-eq0
returns-else-cosine-eq0 c =
    let p = place_of c.args.place in
    let reach = c.lon_apart.result + c.lat_apart.result + usual_slack in
    let far : reach ≡ lon_apart p c.args.here + lat_apart p c.args.here + usual_slack = omega arith in
    let cosine = c.cosine_up_to-cosine.result in
    let steep : c.unsigned_abs.result ≡ nat_abs c.args.place.lat = c.unsigned_abs.ensures.value ∙ ap nat_abs (held_small c.args.place.lat c.requires.lat) in
    let by : cosine ≡ cosine_up_to (nat_abs p.1 + (lon_apart p c.args.here + lat_apart p c.args.here + usual_slack)) =
    c.cosine_up_to-cosine.ensures.value ∙ (λ i. cosine_up_to (steep i + far i)) in
    record {
      whole = λ d valid near.
          let small = coord_small d valid in
          let lat = c.around-lat.ensures.around d.lat small.0 (lat_within p c.args.here d near _ _ (held_small c.args.place.lat c.requires.lat) far) in
          let wide = near_by_cosine p c.args.here d near cosine (omega arith) by in
          let held = held_small c.args.place.lon c.requires.lon in
          let lon = c.around-lon.ensures.around d.lon small.1 (coe 0 1 (i. nat_abs (sym held i -ℤ d.lon) ≤ 1000000 * sym far i / cosine) wide) in
          inside _ _ _ _ d lat lon;
      lat = c.around-lat.ensures.within;
      lon = c.around-lon.ensures.within;
    }
