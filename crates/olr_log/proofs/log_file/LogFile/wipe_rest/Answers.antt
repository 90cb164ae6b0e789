use Rattle.olr_log.proofs.Common.{◌∙◌, inr, sym, ap, refl, subst, List, ℕ, IsPaddedText, is_broken_in, stored_in, State, Opened}
use Rattle.olr_log.proofs.Common.{Ready}
use Rattle.olr_log.proofs.Crashes.{left_stored, only_stored, stands_as}
use Rattle.olr_log.proofs.NativeTexts.{padded_text}
use Rattle.olr_log.proofs.log_file.LogFile.wipe_rest.Goals as goal

pub returns-in-Ready-clause-padded : goal.returns-in-Ready-clause-padded
returns-in-Ready-clause-padded g c clean =
    let self = c.args.self.now in
    let seen = g.D.Disk.seen self.disk in
    subst (λ (s : State). IsPaddedText (stored_in s seen) seen) (sym c.in-Ready.is) (padded_text c.in-Ready.text_len seen ((stands_as self (Ready c.in-Ready.text_len c.in-Ready.len) c.in-Ready.is).0.is clean))

pub returns-in-Ready-clause-durable : goal.returns-in-Ready-clause-durable
returns-in-Ready-clause-durable g c =
    let self = c.args.self.now in
    let alive = ap is_broken_in c.in-Ready.is in
    only_stored g.D.Disk (g.F.Folder.may_lead self.folder) self.disk self.rival self.state self.stands alive (self.led alive) (self.alone alive)

pub returns-in_err-len-clause-cut : goal.returns-in_err-len-clause-cut
returns-in_err-len-clause-cut g c text left =
    let was = Opened c.in-Opened.text_len c.in-Opened.last c.in-Opened.len in
    inr (left_stored c.args.self.now c.wipe.new.disk was c.wipe.ensures.key c.in-Opened.is refl c.wipe.ensures.cut text left)

pub returns-clause-cut : goal.returns-clause-cut
returns-clause-cut g c text left =
    let was = Opened c.in-Opened.text_len c.in-Opened.last c.in-Opened.len in
    inr (left_stored c.args.self.now c.wipe.new.disk was c.wipe.ensures.key c.in-Opened.is refl c.wipe.ensures.cut text left)

pub returns-clause-padded : goal.returns-clause-padded
returns-clause-padded g c clean =
    let self = c.args.self.now in
    let new = g.D.Disk.seen c.wipe.new.disk in
    subst (λ (text : List ℕ). IsPaddedText text new) (c.in_ok-len.ensures.stored clean ∙ sym (ap (λ (s : State). stored_in s (g.D.Disk.seen self.disk)) c.in-Opened.is)) (padded_text c.in-Opened.text_len new (c.in_ok-len.ensures.stands.0.is clean))

pub returns-clause-durable : goal.returns-clause-durable
returns-clause-durable g c =
    let self = c.args.self.now in
    let alive = ap is_broken_in c.in-Opened.is in
    only_stored g.D.Disk (g.F.Folder.may_lead self.folder) c.wipe.new.disk self.rival (Ready c.in-Opened.text_len c.in_ok-len.len) c.in_ok-len.ensures.stands refl
    (λ n leads. self.led alive n leads ∙ sym c.wipe.ensures.key) (self.alone alive)
