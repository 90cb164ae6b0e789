-- How a run without a log ends, once its answers were sent or could not be.
use Rattle.olr_run.proofs.Common.{◌∙◌, ◌≤◌, ℕ, ap, subst, nothing_registered, Claims, EndedOn, Registered, exit_code, once_sent}
use Rattle.olr_run.proofs.Common.{written}
use Rattle.olr_run.proofs.Sending.{ended_sent, held_sent, on_low, on_ok}
use Rattle.olr_run.proofs.streams.without_log.Goals as goal

pub returns-clause-ends : goal.returns-clause-ends
returns-clause-ends g c = λ records begins.
    let r = c.run_source-ended in
    let s = c.send_all-sent in
    let before = written g.W.Write.contents c.args.output.now in
    record {
      new = r.new.register;
      end = once_sent r.result s.result;
      ended = ended_sent Claims Claims Claims Claims c.args.stop nothing_registered before r.new.register
          (written g.W.Write.contents r.new.output) (written g.W.Write.contents s.new.self) s.ensures.bytes records r.result
          s.result (on_ok _ s.result (λ s rs os t h. h)) (λ s rs os t h. h) (λ s rs os t h. h) s.ensures.fault
          (subst (λ (old : Registered).
          EndedOn Claims Claims c.args.stop old records before r.new.register (written g.W.Write.contents r.new.output)
          r.result) c.new-register.ensures (r.ensures.ended records begins));
      status = c.end_status.ensures.code ∙ ap exit_code c.end_sent.ensures;
    }

pub returns-clause-sent : goal.returns-clause-sent
returns-clause-sent g c = λ low.
    let r = c.run_source-ended in
    let s = c.send_all-sent in
    on_low _ (once_sent r.result s.result)
    (subst (λ (n : ℕ). n ≤ 1) (c.end_status.ensures.code ∙ ap exit_code c.end_sent.ensures) low)
    (held_sent _ r.result s.result s.ensures.sent)
