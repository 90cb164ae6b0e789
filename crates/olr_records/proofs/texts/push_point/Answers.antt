use Rattle.olr_records.proofs.Common.{length-drop, take_all, arith, ℤ, to_z, of_z, w32}
use Rattle.olr_records.proofs.TextLemmas.{fields_line_of}
use Rattle.olr_records.proofs.texts.push_point.Goals as goal

pub returns : goal.returns
returns c = grind (arith, to_z, w32, of_z, ℤ, take_all, length-drop, fields_line_of)
