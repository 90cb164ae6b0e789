-- What the builder of arguments adds.
use Rattle.olr_run.proofs.Common.{◌≡◌, ◌∙◌, false, ap₂, App, app_of, with_rule, Rule, rule_of}
use Rattle.clap.specs.Built.{AddsArg}
use Rattle.clap.specs.declared.builder.arg.Arg.{Arg}
use Rattle.clap.specs.declared.builder.command.Command.{Command}

-- an argument of this rule is added
pub added : (app : App) (rule : Rule) (old new : Command) (a b : Arg)
    → app_of old ≡ app → rule_of b ≡ rule → a.global ≡ false → b.global ≡ a.global → AddsArg old b new
    → app_of new ≡ with_rule app rule
added app rule old new a b before is local same adds = adds.shape (same ∙ local) ∙ ap₂ with_rule before is
