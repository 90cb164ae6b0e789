use Rattle.olr_binary.proofs.Common.{◌≡◌, ◌+◌, ◌*◌, ◌^◌, ◌≤◌, ◌+ℤ◌, take, map, nat_abs, from_abs24, steps_sum}
use Rattle.olr_binary.proofs.places.way.Given as goal

abbrev pub invariant-loop-point : goal.invariant-loop-point
invariant-loop-point l =
    record {
      lon : l.lon ≡ from_abs24 l.fn.first.lon +ℤ steps_sum (map (λ m. m.dlon) (take l.point-index l.points));
      lat : l.lat ≡ from_abs24 l.fn.first.lat +ℤ steps_sum (map (λ m. m.dlat) (take l.point-index l.points));
      lon_bound : nat_abs l.lon ≤ 2 ^ 63 + l.point-index * 2 ^ 37;
      lat_bound : nat_abs l.lat ≤ 2 ^ 63 + l.point-index * 2 ^ 37;
    }
