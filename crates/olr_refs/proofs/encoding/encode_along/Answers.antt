use Rattle.olr_refs.proofs.Common.{◌∙◌, ForPoints, kept_points, later, legs, own_lines, reference_with, rules, subst}
use Rattle.olr_refs.proofs.Referring.{points_answer}
use Rattle.olr_refs.specs.Choice.{IsChoice}
use Rattle.olr_refs.specs.Extends.{ExtendedPath}
use Rattle.olr_refs.specs.Referring.{AnsweredAlong}
use Rattle.olr_refs.specs.declared.chosen.Choice.{Choice}
use Rattle.olr_spec.specs.Encoding as spec
use Rattle.olr_refs.proofs.encoding.encode_along.Goals as goal

pub returns-clause-answered : goal.returns-clause-answered
returns-clause-answered g c =
    let M = g.M.MapRead.map c.args.map.now in
    let r = c.in_ok-reference-in-Positions in
    let e = c.extended.inside in
    let lines = c.as_slice-lines.ensures.value in
    let points = c.deref-in-Positions.ensures.value in
    subst (λ (x : ExtendedPath). ForPoints c.args.margin M x.path.lines
    (λ js. AnsweredAlong c.args.margin M x.path js (spec.Points r.reference) r.own.items)) c.extended.view_is
    (points_answer c.args.margin M record { lines = e.lines.items; pos = e.pos; neg = e.neg } _ c.in-Positions.points.items
    r.reference r.own.items lines (subst (λ (ch : Choice). ForPoints c.args.margin M c.as_slice-lines.result.now
    (λ js. IsChoice c.as_slice-lines.result.now js ch)) c.in-Positions.is c.in_ok-choice.ensures.choice)
    (r.ensures.reference ∙ (λ i. reference_with c.args.margin (legs M (lines i)) e.pos e.neg (later (points i))))
    (r.ensures.own ∙ (λ i. own_lines (lines i) (kept_points (legs M (lines i)) e.pos e.neg (later (points i))))))

pub returns-in-NoNext-clause-answered : goal.returns-in-NoNext-clause-answered
returns-in-NoNext-clause-answered g c = search rules
