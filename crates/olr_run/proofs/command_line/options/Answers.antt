-- By clap's rules for the arguments, which are those of the definition.
use Rattle.olr_run.proofs.Common.{◌≡◌, ◌∙◌, ℕ, List, map, sym, ap, subst, codes, HasKind, App, is_simple, matches_of, first_of}
use Rattle.olr_run.proofs.Common.{rows_of, keep_app, is_set}
use Rattle.clap.specs.Faults.{fault_of, is_simple_and_free}
use Rattle.clap.specs.Takes.{takes}
use Rattle.clap.specs.Matches.{found_of}
use Rattle.clap.proofs.WalkLemmas.{first_value-rows}
use Rattle.olr_run.proofs.command_line.options.Goals as goal

pub returns-in-Ok-try_get_matches_from-clause-ok : goal.returns-in-Ok-try_get_matches_from-clause-ok
returns-in-Ok-try_get_matches_from-clause-ok g c =
    let arguments = map g.S.AsStr.text c.args.arguments.now in
    let rows = c.in-Ok-try_get_matches_from.ensures.matches (ap is_simple c.in-Ok.ensures) in
    let f = found_of c.in-Ok-try_get_matches_from.matches in
    let same : rows_of f ≡ matches_of keep_app arguments = rows.0 ∙ ap (λ (a : App). matches_of a arguments) c.in-Ok.ensures in
    let value = λ (id : List ℕ). first_value-rows f id ∙ ap (first_of id) same in
    λ n. record {
      file = (c.get_str.ensures ∙ value (codes "file")) n;
      stop = (c.is_given.ensures ∙ ap is_set (c.get_str-in-Ok-try_get_matches_from.ensures ∙ value (codes "stop"))) n;
      lines = (c.is_given-in-Ok-try_get_matches_from.ensures
          ∙ ap is_set (c.get_str-in-Ok-try_get_matches_from-2.ensures ∙ value (codes "lines"))) n;
      log = (c.get_str-in-Ok-try_get_matches_from-3.ensures ∙ value (codes "log")) n;
      new = (c.is_given-in-Ok-try_get_matches_from-2.ensures
          ∙ ap is_set (c.get_str-in-Ok-try_get_matches_from-4.ensures ∙ value (codes "new"))) n;
      compact_at = (c.get_str-in-Ok-try_get_matches_from-5.ensures ∙ value (codes "compact-at")) n;
    }

pub returns-in-Ok-try_get_matches_from-clause-kinds : goal.returns-in-Ok-try_get_matches_from-clause-kinds
returns-in-Ok-try_get_matches_from-clause-kinds g c =
    let arguments = map g.S.AsStr.text c.args.arguments.now in
    ap (λ (a : App). fault_of a arguments) (sym c.in-Ok.ensures)
    ∙ c.in-Ok-try_get_matches_from.ensures.kinds (ap is_simple_and_free c.in-Ok.ensures)

pub returns-in-Err-clause-taken : goal.returns-in-Err-clause-taken
returns-in-Err-clause-taken g c =
    let arguments = map g.S.AsStr.text c.args.arguments.now in
    λ t. c.rejected.ensures.memory
    (c.in-Err.ensures.passes (ap (λ (a : App). takes a arguments) c.in-Ok.ensures ∙ t))

pub returns-in-Err-clause-kinds : goal.returns-in-Err-clause-kinds
returns-in-Err-clause-kinds g c =
    let arguments = map g.S.AsStr.text c.args.arguments.now in
    let fails = c.in-Err.ensures.kinds (ap is_simple_and_free c.in-Ok.ensures) in
    c.rejected.ensures.kinds (fault_of keep_app arguments)
    (subst (λ (a : App). HasKind (fault_of a arguments) c.in-Err.error) c.in-Ok.ensures fails)
