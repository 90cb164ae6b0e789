use Rattle.olr_refs.proofs.Common.{rules, arith, ap, ◌∙◌, allowed}
use Rattle.olr_refs.proofs.LegLemmas.{leg_read, attrs_read}
use Rattle.olr_refs.proofs.lrp_fields.attrs.Goals as goal

pub returns : goal.returns
returns g c =
    let M = g.M.MapRead.map c.args.resolved.now.map.now in
    let read =
    leg_read M c.args.resolved.now.lines.now c.args.i _ c.ends_of.result (omega arith) c.line-line.ensures.value
    c.ends_of.ensures.from c.ends_of.ensures.to in
    attrs_read c.args.resolved.now.margin M (g.M.MapRead.node_slot c.args.resolved.now.map.now) c.args.resolved.now.lines.now c.args.resolved.now.records.now c.args.i c.args.j _ _ _ _ _ _
    c.ends_of.result c.args.resolved.now.resolved read (search rules)
    (search rules) (c.allowed.ensures ∙ ap (allowed c.args.resolved.now.margin) c.lowest_class.ensures) (search rules) c.between.ensures.legs
