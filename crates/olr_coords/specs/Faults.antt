-- The faults of a text of degrees, as those of the definition of `read_degrees`.
use Rattle.olr_spec.specs.Degrees.{CoordFault as Fault, Text as No_degrees, Range as Too_far}
use Rattle.olr_coords.specs.declared.degrees.CoordFault.{CoordFault}
use Rattle.olr_coords.specs.declared.degrees.CoordFault.TheVariants.{Text, Range}

abbrev pub coord_fault_of : CoordFault → Fault
coord_fault_of Text = No_degrees
coord_fault_of Range = Too_far
