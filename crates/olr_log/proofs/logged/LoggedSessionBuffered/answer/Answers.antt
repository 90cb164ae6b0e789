use Rattle.olr_log.proofs.Common.{refl}
use Rattle.olr_log.proofs.LoggedEvents.{writes_logged}
use Rattle.olr_log.proofs.logged.LoggedSessionBuffered.answer.Goals as goal

pub returns : goal.returns
returns g c =
    let s = c.args.self.now in
    let concluded = c.conclude.ensures in
    writes_logged g.S.Source.left g.W.Write.contents g.J.Journal s
    (record { source = s.source; gate = c.write.new.self }) c.conclude.new.self c.args.output.now c.write.new.output
    c.args.text.now c.args.accepted c.write.result refl
    (record { untouched = concluded.untouched; due = concluded.due; concluded = concluded.concluded }) c.write.ensures.passes
