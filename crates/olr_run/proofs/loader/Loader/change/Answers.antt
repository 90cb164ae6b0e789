use Rattle.olr_run.proofs.Common.{◌≡◌, ◌∙◌, ◌<◌, true, false, refl, sym, subst, command_of, command_fault_of, full, Loaded, Loader}
use Rattle.olr_run.proofs.Restoring.{loaded_change}
use Rattle.olr_run.proofs.Refusing.{change_never}
use Rattle.olr_run.proofs.loader.Loader.change.Goals as goal
use Rattle.olr_run.proofs.loader.Loader.change.Goals.{else-self-via-then-self+else-self-ge-FULL, else-self-via-else-self}
use Rattle.olr_run.proofs.loader.Loader.change.Goals.{then-self-2, else-self-2}

pub returns-in-Err-clause-refused : goal.returns-in-Err-clause-refused
returns-in-Err-clause-refused c = λ is.
    change_never c.args.self.now (command_of c.args.command) (command_fault_of c.in-Err.fault) c.requires
    c.in-Err.ensures.refused (c.restore_fault-in-Err.ensures.memory is)

pub returns-clause-loaded : goal.returns-clause-loaded
returns-clause-loaded c =
    let l = c.args.self.now in
    let k = command_of c.args.command in
    let room : l.in_batch ≡ true → l.count < full = λ inside. elim c.else-self.branch [
      | else-self-via-then-self+else-self-ge-FULL w ↦ w.if-self-ge-FULL.false
      | else-self-via-else-self w ↦ absurd (let never : true ≡ false = sym inside ∙ w.if-self.false in cc)
    ] in
    elim c.if-self-2.branch [
      | then-self-2 w ↦ subst (λ (n : Loader). Loaded l k n) (sym w.self-is)
          (loaded_change l _ k c.requires c.in_default.ensures.made refl (λ _. refl) room)
      | else-self-2 w ↦ subst (λ (n : Loader). Loaded l k n) (sym w.self-is)
          (loaded_change l _ k c.requires c.in_default.ensures.made refl
          (λ inside. absurd (let never : true ≡ false = sym inside ∙ w.if-self-2.false in cc)) room)
    ]
