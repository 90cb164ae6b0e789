use Rattle.olr_log.proofs.Common.{◌≡◌, ◌+◌, sym, ◌∙◌, on_ok_weaker, Cut, text_in}
use Rattle.olr_log.proofs.Crashes.{leaves_next}
use Rattle.olr_log.proofs.NativeTexts.{cut_text, cut_twice_text, cut_twice_file}
use Rattle.olr_log.proofs.changes.cut_off.Goals as goal

pub returns-in_err-cut-clause-cut : goal.returns-in_err-cut-clause-cut
returns-in_err-cut-clause-cut g c =
    let seen = g.D.Disk.seen c.args.disk.now in
    let n = c.args.text_len in
    leaves_next g.D.Disk (Cut (n + 1 + 1)) (λ text. text ≡ text_in n seen) c.args.disk.now c.cut.new.disk c.requires.0.durable c.cut.ensures.crash
    (λ clean. cut_text n seen (c.requires.0.is (sym c.cut.ensures.calm ∙ clean)))

pub returns-clause-cut : goal.returns-clause-cut
returns-clause-cut g c =
    let seen = g.D.Disk.seen in
    let n = c.args.text_len in
    let once = seen c.cut.new.disk in
    leaves_next g.D.Disk (Cut (n + 1)) (λ text. text ≡ text_in n (seen c.args.disk.now)) c.cut.new.disk c.cut-2.new.disk c.in_ok-cut.ensures.durable c.cut-2.ensures.crash
    (λ clean file. cut_twice_text n (seen c.args.disk.now) (c.requires.0.is (sym c.cut.ensures.calm ∙ sym c.cut-2.ensures.calm ∙ clean)) once file c.cut.ensures.others c.in_ok-cut.ensures.len)

pub returns-clause-closed : goal.returns-clause-closed
returns-clause-closed g c =
    let seen = g.D.Disk.seen in
    on_ok_weaker c.cut-2.result (λ len clean. cut_twice_file c.args.text_len (seen c.args.disk.now) (c.requires.0.is (sym c.cut.ensures.calm ∙ sym c.cut-2.ensures.calm ∙ clean))
    (seen c.cut.new.disk) (seen c.cut-2.new.disk) c.cut.ensures.others c.in_ok-cut.ensures.len c.cut-2.ensures.others len) c.cut-2.ensures.len
