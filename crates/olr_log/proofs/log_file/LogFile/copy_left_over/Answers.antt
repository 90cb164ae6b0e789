use Rattle.olr_log.proofs.Common.{arith}
use Rattle.std.proofs.lemmas.Grind.{common_steps}
use Rattle.olr_log.proofs.Crashes.{led_read}
use Rattle.olr_log.proofs.log_file.LogFile.copy_left_over.Goals as goal

pub returns-in_ok-block-in-Opened-clause-copied : goal.returns-in_ok-block-in-Opened-clause-copied
returns-in_ok-block-in-Opened-clause-copied g c = grind (arith, common_steps)

pub returns-in_err-block-in-Opened-clause-less : goal.returns-in_err-block-in-Opened-clause-less
returns-in_err-block-in-Opened-clause-less g c =
    let self = c.args.self.now in
    led_read g.D.Disk (g.F.Folder.may_lead self.folder) self.disk c.read_exact.new.disk self.rival c.read_exact.ensures.reads

pub returns-in_ok-block-in-Opened-clause-less : goal.returns-in_ok-block-in-Opened-clause-less
returns-in_ok-block-in-Opened-clause-less g c =
    let self = c.args.self.now in
    led_read g.D.Disk (g.F.Folder.may_lead self.folder) self.disk c.read_exact.new.disk self.rival c.read_exact.ensures.reads
