use Rattle.olr_log.proofs.Common.{arith}
use Rattle.std.proofs.lemmas.Grind.{common_steps}
use Rattle.olr_log.proofs.Crashes.{led_read}
use Rattle.olr_log.proofs.log_file.LogFile.text.Goals as goal

pub returns-clause-text : goal.returns-clause-text
returns-clause-text g c = grind (arith, common_steps)

pub returns-clause-less : goal.returns-clause-less
returns-clause-less g c =
    let self = c.args.self.now in
    led_read g.D.Disk (g.F.Folder.may_lead self.folder) self.disk c.read_exact.new.disk self.rival c.read_exact.ensures.reads
