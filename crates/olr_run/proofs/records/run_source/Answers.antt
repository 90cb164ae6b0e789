-- A run over a source, from its session.
use Rattle.olr_run.proofs.Common.{subst, sym, Claims, IfSome}
use Rattle.olr_run.proofs.InputRuns.{OfPlain, left_at, on_records, plain_sees, written_at}
use Rattle.olr_run.proofs.records.run_source.Goals as goal

pub returns : goal.returns
returns g c =
    let left = g.S.Source.left in
    let failed = g.S.Source.failed in
    let contents = g.W.Write.contents in
    record {
      ended = λ records begins.
          on_records (left_at left failed contents) (written_at contents) (OfPlain left failed contents)
          (plain_sees left failed contents) c.args.stop c.args.register.now c.run_session.new.register
          (c.new-session.result, c.args.output.now) (c.run_session.new.session, c.run_session.new.output) Claims Claims
          (λ all end h s t rest os is claims run. claims) (λ all e h s t rest os is claims run. claims) records
          c.run_session.result c.is_sound.ensures
          (subst (λ (s : g.row.S.Denot). IfSome records (left s)) (sym c.new-session.ensures) begins) c.run_session.ensures.ran
          c.run_session.ensures.cut;
    }
