use Rattle.olr_log.proofs.Common.{inr, refl, on_ok_weaker, Ready}
use Rattle.olr_log.proofs.Crashes.{left_stored}
use Rattle.olr_log.proofs.log_file.LogFile.close.Goals as goal

pub returns-clause-durable : goal.returns-clause-durable
returns-clause-durable g c =
    let was = Ready c.in-Ready.text_len c.in-Ready.len in
    on_ok_weaker c.cut_off.result
    (λ _ _. left_stored c.args.self.now c.cut_off.new.disk was c.cut_off.ensures.key c.in-Ready.is refl c.cut_off.ensures.cut) c.cut_off.ensures.closed

pub returns-clause-cut : goal.returns-clause-cut
returns-clause-cut g c text left =
    let was = Ready c.in-Ready.text_len c.in-Ready.len in
    inr (left_stored c.args.self.now c.cut_off.new.disk was c.cut_off.ensures.key c.in-Ready.is refl c.cut_off.ensures.cut text left)
