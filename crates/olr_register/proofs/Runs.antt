-- Whole runs.
use Rattle.olr_register.proofs.Common.{◌≡◌, ◌∙◌, ◌+◌, ℕ, List, [], ◌∷◌, ◌++◌, map, Result, refl, sym, ap, subst, IsContent}
use Rattle.olr_register.proofs.Common.{State, start_state, SoundOutcome, CommandFault, Registered, length-append, map_push}
use Rattle.olr_register.proofs.Common.{run_more, command_of, outcome_of, Applied, nothing_registered, Represents}
use Rattle.olr_commands.specs.History.{Whole}
use Rattle.olr_commands.specs.declared.command.Command.{Command as Given}
use Rattle.olr_commands.specs.declared.reply.Reply.{Reply as Answered}

-- a register in the state to which the commands lead with these answers
abbrev pub HasRun : Registered → List Given → List (Result Answered CommandFault) → Type 0
HasRun x cs rs =
    (t : State) × Represents x.state t × Whole SoundOutcome start_state (map command_of cs) (map outcome_of rs) t

pub run_starts : (x : Registered) (rs : List (Result Answered CommandFault)) → x ≡ nothing_registered → rs ≡ [] →
    HasRun x [] rs
run_starts x rs new none = rw (new, none) (start_state, (refl, tt), (refl, refl))

pub run_continues : (x y : Registered) (cs : List Given) (c : Given) (rs ss : List (Result Answered CommandFault))
    (r : Result Answered CommandFault) → HasRun x cs rs → Applied x (command_of c) (outcome_of r) y →
    IsContent y.state.content → ss ≡ rs ++ r ∷ [] → HasRun y (cs ++ c ∷ []) ss
run_continues x y cs c rs ss r run applied sound more =
    let next = applied run.0 run.1 in
    let right : IsContent next.0.content = subst IsContent next.1.0 sound in
    let all =
    run_more SoundOutcome start_state run.0 next.0 (map command_of cs) (command_of c) (map outcome_of rs) (outcome_of r)
    run.2.0 run.2.1 (next.2, right) in
    let size =
    length-append (map outcome_of rs) (outcome_of r ∷ []) ∙ ap (λ (n : ℕ). n + 1) run.2.0
    ∙ sym (length-append (map command_of cs) (command_of c ∷ [])) in (
      next.0,
      next.1,
      rw (map_push command_of cs c, more, map_push outcome_of rs r) (size, all),
    )
