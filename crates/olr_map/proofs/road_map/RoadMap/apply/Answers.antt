use Rattle.olr_map.proofs.Common.{edited, tables_map, edit_of}
use Rattle.olr_map.proofs.Verdicts.{refused_as}
use Rattle.olr_map.proofs.road_map.RoadMap.apply.Goals as goal

pub returns-in-Err-clause-refused : goal.returns-in-Err-clause-refused
returns-in-Err-clause-refused c =
    refused_as _ _ (edited (tables_map c.args.self.now) (edit_of c.args.edit)) c.in-Err.fault c.in-Err.ensures.fault
