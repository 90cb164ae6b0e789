use Rattle.olr_refs.proofs.Common.{sym, subst, IsReference, reference_fits_with, ap, ◌∙◌, own_lines}
use Rattle.olr_refs.proofs.LegLemmas.{joined_known}
use Rattle.olr_refs.proofs.Trimming.{IsCut, some_lines, points_along, trimmed}
use Rattle.olr_refs.proofs.reference.reference_of.Given.{Over}
use Rattle.olr_refs.proofs.reference.reference_of.Goals.{After-trim-trimmed}
use Rattle.olr_refs.proofs.reference.reference_of.Goals as goal

pub trim-trimmed-requires-clause-along : goal.trim-trimmed-requires-clause-along
trim-trimmed-requires-clause-along g c = points_along _ _ _ _ _ c.args.resolved.now.measured c.requires.points

-- the remaining LRPs
cut : (g : Over) (c : After-trim-trimmed g) →
    IsCut c.args.resolved.now.margin (g.M.MapRead.map c.args.resolved.now.map.now) c.args.resolved.now.lines.now c.args.resolved.now.distances.now
    c.args.points.now c.args.pos c.args.neg c.trim-trimmed.result.points.now c.trim-trimmed.result.pos
    c.trim-trimmed.result.neg
cut g c = trimmed _ _ _ _ _ c.args.resolved.now.measured c.requires.points _
    _ _ _ _ c.trim-trimmed.ensures c.requires.long

pub own_lines-requires : goal.own_lines-requires
own_lines-requires g c = (cut g (goal.at.own_lines-requires g c).After-trim-trimmed).are

pub reference_by-requires : goal.reference_by-requires
reference_by-requires g c =
    let M = g.M.MapRead.map c.args.resolved.now.map.now in
    let ls = c.args.resolved.now.lines.now in
    let p = c.requires.points in
    let rest = cut g (goal.at.reference_by-requires g c).After-trim-trimmed in
    record {
      kept = rest.are;
      pos = rest.pos_within;
      neg = rest.neg_within;
      fits = subst IsReference (sym rest.value) (reference_fits_with _ M (g.met.M.MapRead.sound c.args.resolved.now.map.now) ls
          (joined_known M ls c.args.resolved.now.joined) (some_lines M ls _ c.requires.long) _
          _ _ p.follow p.to_end c.requires.long);
    }

pub returns-clause-reference : goal.returns-clause-reference
returns-clause-reference g c =
    c.in_ok-reference.ensures ∙ (cut g (goal.at.returns-clause-reference g c).After-trim-trimmed).value

pub returns-clause-own : goal.returns-clause-own
returns-clause-own g c = c.in_ok-own.ensures
    ∙ ap (own_lines c.args.resolved.now.lines.now) (cut g (goal.at.returns-clause-own g c).After-trim-trimmed).kept
