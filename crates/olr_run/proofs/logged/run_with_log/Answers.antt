-- A run with a log over a source, from its session.
use Rattle.olr_run.proofs.Common.{◌≡◌, ◌∙◌, [], ap, subst, Compaction, Passes, waiting, Gate, is_closed}
use Rattle.std.specs.Prelude.{is_some}
use Rattle.olr_input.specs.declared.buffered.Buffered.{Buffered}
use Rattle.olr_log.specs.declared.logged.Logged.{Logged}
use Rattle.olr_log.specs.Gates.{compaction}
use Rattle.olr_run.proofs.GateRuns.{gate_cut, gate_ran, run_length}
use Rattle.olr_run.proofs.LoggedRuns.{lasting}
use Rattle.olr_run.proofs.Sending.{held_sent}
use Rattle.olr_run.proofs.logged.run_with_log.Goals as goal

pub returns-clause-ended : goal.returns-clause-ended
returns-clause-ended g c = λ records begins.
    let r = c.run_session-ended in
    let s = c.send-sent in
    let of = c.new-session.ensures.gate in
    rw c.end_sent.ensures
    (lasting g.S.Source.left g.W.Write.contents g.J.Journal (c.new-session.result, c.args.output.now)
    (r.new.session, r.new.output) c.args.journal s.new.self s.new.output
    (ap (λ (x : Gate g.row.J.Denot). x.journal) of ∙ c.new-gate.ensures.journal)
    (ap (λ (x : Gate g.row.J.Denot). waiting x.unstored) of ∙ c.new-gate.ensures.waiting)
    (subst (λ (x : Gate g.row.J.Denot).
    Passes g.J.Journal.stored g.J.Journal.may_leave g.W.Write.contents x r.new.output s.new.self s.new.output [])
    c.into_gate-gate.ensures s.ensures.passes) c.args.stop c.args.register.now r.new.register c.args.source r.result s.result
    c.new-session.ensures.source s.ensures.stored s.ensures.fault c.is_sound.ensures r.ensures.ran r.ensures.cut records
    begins)

pub returns-clause-sent : goal.returns-clause-sent
returns-clause-sent g c =
    rw c.end_sent.ensures (held_sent _ c.run_session-ended.result c.send-sent.result c.send-sent.ensures.sent)

pub returns-clause-through : goal.returns-clause-through
returns-clause-through g c =
    let r = c.run_session-ended in
    let gate = Gate g.row.J.Denot in
    let is : c.new-session.result.gate ≡ c.new-gate.result = c.new-session.ensures.gate in
    let a : Logged g.row.S.Denot g.row.J.Denot × Buffered g.row.W.Denot = (c.new-session.result, c.args.output.now) in
    let b : Logged g.row.S.Denot g.row.J.Denot × Buffered g.row.W.Denot = (r.new.session, r.new.output) in
    record {
      first = c.new-session.result.gate;
      is_new = record {
        journal = ap (λ (x : gate). x.journal) is ∙ c.new-gate.ensures.journal;
        none = ap (λ (x : gate). waiting x.unstored) is ∙ c.new-gate.ensures.waiting;
        works = ap (λ (x : gate). is_closed x) is ∙ ap is_some c.new-gate.ensures.open;
        due = ap (λ (x : gate). compaction x) is ∙ c.new-gate.ensures.due;
      };
      last = r.new.session.gate;
      mid = r.new.output;
      ended = r.result;
      ran = gate_ran g.S.Source.left g.W.Write.contents g.J.Journal c.args.stop c.args.register.now r.new.register a b r.result r.ensures.ran;
      cut = gate_cut g.S.Source.left g.W.Write.contents g.J.Journal c.args.stop c.args.register.now r.new.register a b r.result r.ensures.cut;
      sent = c.send-sent.result;
      sends = subst (λ (x : gate). Passes g.J.Journal.stored g.J.Journal.may_leave g.W.Write.contents x r.new.output c.send-sent.new.self c.send-sent.new.output [])
          c.into_gate-gate.ensures c.send-sent.ensures.passes;
      stored = c.send-sent.ensures.stored;
      is = c.end_sent.ensures;
    }

pub returns-clause-length : goal.returns-clause-length
returns-clause-length g c =
    let r = c.run_session-ended in
    let a : Logged g.row.S.Denot g.row.J.Denot × Buffered g.row.W.Denot = (c.new-session.result, c.args.output.now) in
    let b : Logged g.row.S.Denot g.row.J.Denot × Buffered g.row.W.Denot = (r.new.session, r.new.output) in
    ap (λ (x : Compaction). x.compacted_from) c.send-sent.ensures.passes.due
    ∙ ap (λ (x : Gate g.row.J.Denot). x.compacted_from) c.into_gate-gate.ensures
    ∙ run_length g.W.Write.contents g.J.Journal c.args.stop c.args.register.now r.new.register
    (c.new-session.result.gate, c.args.output.now) (r.new.session.gate, r.new.output) r.result
    (gate_ran g.S.Source.left g.W.Write.contents g.J.Journal c.args.stop c.args.register.now r.new.register a b r.result r.ensures.ran)
    (gate_cut g.S.Source.left g.W.Write.contents g.J.Journal c.args.stop c.args.register.now r.new.register a b r.result r.ensures.cut)
    ∙ ap (λ (x : Gate g.row.J.Denot). x.compacted_from) c.new-session.ensures.gate
    ∙ ap (λ (x : Compaction). x.compacted_from) c.new-gate.ensures.due
