-- A line with its ends, as the definitions of bearings use it.
use Rattle.olr_spec.specs.Map.{Line}
use Rattle.olr_spec.specs.Bearings.{Leg}
use Rattle.olr_bearing.specs.declared.places.Ends.{Ends}

abbrev pub leg_between : Line → Ends → Leg
leg_between l e = record { line = l; begin = e.from; finish = e.to }
