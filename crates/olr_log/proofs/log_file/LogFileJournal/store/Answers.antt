use Rattle.olr_log.proofs.Common.{◌≡◌, ◌∙◌, ◌+◌, ◌++◌, inr, sym, ap, refl, List, ℕ, length, IsFront, stored_of, MayLeave}
use Rattle.olr_log.proofs.Common.{is_broken_in, stored_in, State, Ready}
use Rattle.olr_log.proofs.Crashes.{file_leaves, only_stored}
use Rattle.olr_log.proofs.log_file.LogFileJournal.store.Given.{Over}
use Rattle.olr_log.proofs.log_file.LogFileJournal.store.Goals.{After-append}
use Rattle.olr_log.proofs.log_file.LogFileJournal.store.Goals as goal

cut_short : (g : Over) (c : After-append g) (text : List ℕ) → let self = c.args.self.now in
    MayLeave g.D.Disk (g.F.Folder.may_lead self.folder) c.append.new.disk self.rival text
    → (front : List ℕ) × IsFront c.args.records.now front × (text ≡ stored_of self ++ front)
cut_short g c text left =
    let self = c.args.self.now in
    let found = c.append.ensures.cut text (file_leaves self c.append.new.disk c.append.ensures.key (ap is_broken_in c.in-Ready.is) text left) in
    (found.0, found.1, found.2 ∙ ap (λ (s : State). stored_in s (g.D.Disk.seen self.disk) ++ found.0) (sym c.in-Ready.is))

pub returns-in_err-len-clause-cut : goal.returns-in_err-len-clause-cut
returns-in_err-len-clause-cut g c text left = inr (cut_short g (goal.at.returns-in_err-len-clause-cut g c).After-append text left)

pub returns-clause-cut : goal.returns-clause-cut
returns-clause-cut g c text left = inr (cut_short g (goal.at.returns-clause-cut g c).After-append text left)

pub returns-clause-durable : goal.returns-clause-durable
returns-clause-durable g c =
    let self = c.args.self.now in
    let alive = ap is_broken_in c.in-Ready.is in
    only_stored g.D.Disk (g.F.Folder.may_lead self.folder) c.append.new.disk self.rival (Ready (c.in-Ready.text_len + length c.args.records.now) c.in_ok-len.len) c.in_ok-len.ensures.stands refl
    (λ n leads. self.led alive n leads ∙ sym c.append.ensures.key) (self.alone alive)
