use Rattle.olr_run.proofs.Common.{is_ok, answer_text}
use Rattle.olr_run.proofs.Answering.{answer_is}
use Rattle.olr_run.proofs.answers.write_outcome.Goals as goal

pub returns : goal.returns
returns g c =
    record {
      text = answer_text c.carry_out-answer.result;
      accepts = is_ok c.carry_out-answer.result;
      writes = c.write_answer.ensures;
      outcome = λ s represents sound.
          let h = c.carry_out-answer.ensures s represents sound in
          (h.0, h.1, h.2, h.3, answer_is c.carry_out-answer.result h.1 h.4);
    }
