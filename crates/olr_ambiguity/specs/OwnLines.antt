-- The path's own line at an LRP as the code has it.
--     side_of s      a side as that of the specification
--     IsOwnLine M o      what is stored of the line is as the map has it
use Rattle.std.specs.Prelude.{◌≡◌, ◌<◌, IsTrue}
use Rattle.olr_spec.specs.Map.{Map, has_line, line_at}
use Rattle.olr_spec.specs.Reference.{leg}
use Rattle.olr_spec.specs.Receiver as spec
use Rattle.olr_ambiguity.specs.Places.{IsPlaced}
use Rattle.olr_ambiguity.specs.declared.own_line.Side.{Side}
use Rattle.olr_ambiguity.specs.declared.own_line.Side.TheVariants.{Outgoing, Incoming}
use Rattle.olr_ambiguity.specs.declared.own_line.OwnLine.{OwnLine}

abbrev pub side_of : Side → spec.Side
side_of Outgoing = spec.Outgoing
side_of Incoming = spec.Incoming

pub record IsOwnLine (M : Map) (o : OwnLine) : Type 0 where
  pub known : IsTrue (has_line M o.id)
  pub placed : IsPlaced o.place
  pub node_is : o.node ≡ spec.node_on (side_of o.side) (leg M o.id)
  pub here_is : o.here ≡ spec.coordinate_on (side_of o.side) (leg M o.id)
  pub frc_is : o.frc ≡ (line_at M o.id).frc
  pub fow_is : o.fow ≡ (line_at M o.id).fow
  pub sector_is : o.sector ≡ spec.sector_on (side_of o.side) (leg M o.id)
  pub below : o.sector < 32
