use Rattle.olr_log.proofs.Common.{◌≡◌, None, true, false, refl, sym, ◌∙◌, ap, Ghosts, left_behind, text_of, left_over_in, Stands}
use Rattle.olr_log.proofs.Common.{is_broken_in, is_ready_in, State, Foreign, Opened, Ready, Broken}
use Rattle.olr_log.proofs.Behind.{found_left, foreign_left}
use Rattle.olr_log.proofs.Crashes.{only_stored, text_is_stored}
use Rattle.olr_log.proofs.log_file.LogFile.open.Goals as goal

pub returns-clause-text : goal.returns-clause-text
returns-clause-text g c clean = sym (text_is_stored g.D.Disk c.examine.new.disk c.in_ok-state.state c.in_ok-state.ensures.stands c.in_ok-state.ensures.unbroken clean) ∙ ap text_of c.examine.ensures.seen

behind : {D : Type 0} (d : Ghosts D) (disk : D) (state : State) → Stands d disk state → is_ready_in state ≡ false → is_broken_in state ≡ false → d.is_clean disk ≡ true
    → left_over_in state (d.seen disk) ≡ left_behind (d.seen disk)
behind d disk (Foreign len) has unready alive clean = sym (foreign_left (d.seen disk) (has.is clean))
behind d disk (Opened n last len) has unready alive clean = found_left n last (d.seen disk) (has.0.is clean)
behind d disk (Ready n len) has unready alive clean = absurd (cc unready)
behind d disk Broken has unready alive clean = absurd (cc alive)

pub returns-clause-rest : goal.returns-clause-rest
returns-clause-rest g c clean =
    behind g.D.Disk c.examine.new.disk c.in_ok-state.state c.in_ok-state.ensures.stands c.in_ok-state.ensures.unready c.in_ok-state.ensures.unbroken clean ∙ ap left_behind c.examine.ensures.seen

pub returns-clause-durable : goal.returns-clause-durable
returns-clause-durable g c =
    only_stored g.D.Disk (g.F.Folder.may_lead c.args.folder) c.examine.new.disk None c.in_ok-state.state c.in_ok-state.ensures.stands c.in_ok-state.ensures.unbroken
    (λ n leads. c.requires.named n leads ∙ sym c.examine.ensures.key) refl
