use Rattle.olr_spec.proofs.Common.{◌∙◌, ap, sector, Vector, w128}
use Rattle.olr_bearing.proofs.Scaling.{held, part_held}
use Rattle.olr_bearing.proofs.bearings.sector_of.Goals as goal

pub returns-clause-value : goal.returns-clause-value
returns-clause-value c =
    let east = ap (λ (w : Vector). held w128 w.east) c.direction.view_is ∙ part_held _ c.requires.0 in
    let north = ap (λ (w : Vector). held w128 w.north) c.direction.view_is ∙ part_held _ c.requires.1 in
    c.sector.ensures.value ∙ (λ i. sector (east i) (north i))
