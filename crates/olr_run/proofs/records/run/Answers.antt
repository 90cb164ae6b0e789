-- There was no memory for the input.
use Rattle.olr_run.proofs.Common.{false, input_records, err_from_is_err_and}
use Rattle.olr_run.proofs.InputRuns.{cut_at_first}
use Rattle.olr_run.proofs.records.run.Goals as goal

pub returns : goal.returns
returns g c =
    record { ended = c.run_source.ensures.ended (input_records false (g.R.Read.remaining c.args.input)) c.in_ok-source.ensures }

pub returns-in_err-source : goal.returns-in_err-source
returns-in_err-source g c =
    let p = err_from_is_err_and c.from_residual.result c.from_residual.ensures.1 in
    record {
      ended = rw p.1
          (rw p.2
          (cut_at_first c.args.stop c.args.register.now (g.W.Write.contents c.args.output.now)
          (input_records false (g.R.Read.remaining c.args.input)) c.is_sound.ensures));
    }
