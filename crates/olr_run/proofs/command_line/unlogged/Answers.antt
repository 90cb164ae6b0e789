use Rattle.olr_run.proofs.Common.{◌∙◌, ap, codes, IfOk-weaker, rule_of, with_short, with_long}
use Rattle.clap.specs.declared.builder.arg.Arg.{Arg}
use Rattle.olr_run.proofs.AddedArguments.{added}
use Rattle.olr_run.proofs.command_line.unlogged.Goals as goal

pub returns : goal.returns
returns c =
    let global = λ (x : Arg). x.global in
    let first =
    added _ _ _ _ c.valued.result c.short.result c.described.ensures
    (ap rule_of c.short.ensures ∙ ap (with_short 109) c.valued.ensures.rule) c.valued.ensures.local
    (ap global c.short.ensures) c.in_ok-arg.ensures in
    let second =
    added _ _ _ _ c.flag.result c.short-2.result first
    (ap rule_of c.short-2.ensures ∙ ap (with_short 115) c.flag.ensures.rule) c.flag.ensures.local
    (ap global c.short-2.ensures) c.in_ok-arg-2.ensures in
    IfOk-weaker c.arg-3.result _ _
    (λ r h. added _ _ _ _ c.flag-2.result c.long.result second
    (ap rule_of c.long.ensures ∙ ap (with_long (codes "lines")) c.flag-2.ensures.rule) c.flag-2.ensures.local
    (ap global c.long.ensures) h) c.arg-3.ensures
