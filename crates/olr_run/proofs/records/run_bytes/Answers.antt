use Rattle.olr_run.proofs.Common.{Some, records_of}
use Rattle.olr_run.proofs.records.run_bytes.Goals as goal

pub returns : goal.returns
returns g c = record { ended = c.run_source.ensures.ended (Some (records_of c.args.bytes.now)) c.new.ensures.left }
