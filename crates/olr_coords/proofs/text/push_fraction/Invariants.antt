use Rattle.olr_spec.proofs.Common.{◌≡◌, ◌<◌, ◌≤◌, ◌^◌, ◌++◌}
use Rattle.olr_coords.specs.DegreesText.{decimals}
use Rattle.olr_coords.proofs.text.push_fraction.Given as goal

-- the rest has at most as many digits as there are decimals left
abbrev pub invariant-loop-rest : goal.invariant-loop-rest
invariant-loop-rest l = record {
  few : l.places ≤ 7;
  left : l.rest < 10 ^ l.places;
  written : l.text.items ++ decimals l.places l.rest ≡ l.initial.text.items ++ decimals 7 l.fraction;
}

abbrev pub decreases-loop-rest : goal.decreases-loop-rest
decreases-loop-rest l = l.places
