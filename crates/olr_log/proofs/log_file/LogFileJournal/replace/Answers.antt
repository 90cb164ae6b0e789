use Rattle.olr_log.proofs.Common.{rules, ◌∙◌, inl, inr, length, None, refl, IsNone, Only, text_in, MayLeave, Ready}
use Rattle.olr_log.proofs.Crashes.{leaves_stored, led_either, led_less, only_stored}
use Rattle.olr_log.proofs.log_file.LogFileJournal.replace.Given.{Over}
use Rattle.olr_log.proofs.log_file.LogFileJournal.replace.Goals.{In-Ok}
use Rattle.olr_log.proofs.log_file.LogFileJournal.replace.Goals as goal

pub returns-in-Err-clause-cut : goal.returns-in-Err-clause-cut
returns-in-Err-clause-cut g c text left =
    let self = c.args.self.now in
    let lead = g.F.Folder.may_lead in
    inl (led_less g.D.Disk (lead c.write_in_place.new.folder) self.disk self.rival (lead self.folder) c.in-Err.ensures.refused text left)

pub returns-in-Err-clause-durable : goal.returns-in-Err-clause-durable
returns-in-Err-clause-durable g c only text left =
    let self = c.args.self.now in
    let lead = g.F.Folder.may_lead in
    only text (led_less g.D.Disk (lead c.write_in_place.new.folder) self.disk self.rival (lead self.folder) c.in-Err.ensures.refused text left)

pub returns-in-Some-clause-cut : goal.returns-in-Some-clause-cut
returns-in-Some-clause-cut g c text left =
    let self = c.args.self.now in
    let made = c.in-Ok.made in
    let of_call = c.in-Ok.ensures in
    let lead = g.F.Folder.may_lead in
    elim (led_either g.D.Disk (lead c.write_in_place.new.folder) self.disk self.rival (lead self.folder) made.disk (self.led (search rules)) (g.met.F.Folder.leads self.folder) of_call.either text left) [
      | inl was ↦ inl was
      | inr new ↦ inr (leaves_stored g.D.Disk made.disk (Ready (length c.args.records.now) made.len) of_call.stands refl text new ∙ of_call.stored)
    ]

-- once the file is in its place, a crash leaves its text
replaced : (g : Over) (c : In-Ok g) → IsNone c.in-Ok.made.doubt → let made = c.in-Ok.made in
    Only (text_in (length c.args.records.now) (g.D.Disk.seen made.disk)) (MayLeave g.D.Disk (g.F.Folder.may_lead c.write_in_place.new.folder) made.disk None)
replaced g c sure =
    let made = c.in-Ok.made in
    let of_call = c.in-Ok.ensures in
    only_stored g.D.Disk (g.F.Folder.may_lead c.write_in_place.new.folder) made.disk None (Ready (length c.args.records.now) made.len) of_call.stands refl (of_call.placed sure) refl

pub returns-clause-durable : goal.returns-clause-durable
returns-clause-durable g c only = replaced g (goal.at.returns-clause-durable g c).In-Ok (search rules)

pub returns-clause-cut : goal.returns-clause-cut
returns-clause-cut g c text left = inr (replaced g (goal.at.returns-clause-cut g c).In-Ok (search rules) text left ∙ c.in-Ok.ensures.stored)
