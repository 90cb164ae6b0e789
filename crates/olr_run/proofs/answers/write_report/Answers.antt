use Rattle.olr_run.proofs.Common.{◌∙◌, ◌++◌, ap, true, false, ℕ, List, fields_of, reply_text, Paths}
use Rattle.olr_run.proofs.Reports.{reports, lacks}
use Rattle.olr_run.proofs.answers.write_report.Goals as goal

pub returns-in-Ok : goal.returns-in-Ok
returns-in-Ok g c =
    record {
      text = c.as_slice.result.now;
      accepts = true;
      writes = c.write_text.ensures;
      outcome = reports c.args.register.now (fields_of c.args.row.now.fields) c.as_slice.result.now c.requires.report
          (λ s represents.
          let r = c.in-Ok.ensures s represents in (
            r.0,
            r.1,
            c.as_slice.ensures.value ∙ r.2 ∙ ap (λ (x : List ℕ). x ++ reply_text (Paths r.0)) c.clear.ensures.items,
          ));
    }

pub returns-in-Err : goal.returns-in-Err
returns-in-Err g c =
    record {
      text = c.as_bytes.result.now;
      accepts = false;
      writes = c.write_text-in-Err.ensures;
      outcome = lacks c.args.register.now (fields_of c.args.row.now.fields) c.as_bytes.result.now c.requires.report c.requires.some
          (c.as_bytes.ensures.value ∙ c.fault_text-line.ensures);
    }
