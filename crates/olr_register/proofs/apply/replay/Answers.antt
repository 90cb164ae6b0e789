use Rattle.olr_register.proofs.Common.{arith, sym, ◌∙◌, subst, start_state, IsOutcome, SoundOutcome, map-id, run_each}
use Rattle.olr_register.proofs.Common.{headline_of_outcomes, start_sound}
use Rattle.std.proofs.lemmas.Iterator.Adapters.{YieldsList-from_vec}
use Rattle.std.proofs.lemmas.Iterator.Consumers.{YieldsList-end}
use Rattle.olr_register.proofs.Runs.{HasRun, run_starts, run_continues}
use Rattle.olr_register.proofs.apply.replay.Goals as goal

pub loop-command-init : goal.loop-command-init
loop-command-init c = run_starts c.new-register.result _ c.new-register.ensures c.new-outcomes.ensures.items

pub loop-command-preserved : goal.loop-command-preserved
loop-command-preserved c =
    run_continues c.loop-command.register c.apply-outcome.new.self c.loop-command.yielded c.in-Some.command
    c.loop-command.outcomes.items _ c.apply-outcome.result c.loop-command.invariant c.apply-outcome.ensures.outcome
    c.apply-outcome.ensures.sound c.in_ok-push.ensures.items

-- the state to which all commands lead
whole_run : (c : goal.After-drop-command-iterator-2) →
    HasRun c.loop-command.register c.args.commands.items c.loop-command.outcomes.items
whole_run c =
    let from = c.into_iter-command-iterator.ensures.into_iter_gives in
    let whole = YieldsList-from_vec c.args.commands.items from.0 (omega (arith, from.1, c.args.commands.ok.0)) in
    let all =
    YieldsList-end whole c.loop-command.yielded c.loop-command.command-iterator c.loop-command.yielded_by c.next.result
    c.next.new.self c.in-None.is c.next.ensures.steps in
    subst (λ cs. HasRun c.loop-command.register cs c.loop-command.outcomes.items)
    (sym (map-id c.loop-command.yielded) ∙ all.0) c.loop-command.invariant

pub returns-clause-history : goal.returns-clause-history
returns-clause-history c = let run =
    whole_run c in (
      run.0,
      run.1,
      (run.2.0, run_each SoundOutcome IsOutcome (λ a x o b p. p.0) start_state _ _ run.0 run.2.1),
    )

pub returns-clause-headline : goal.returns-clause-headline
returns-clause-headline c =
    let run = whole_run c in (
      run.0,
      run.1,
      headline_of_outcomes start_state _ _ run.0 start_sound.content run.2.1,
    )
