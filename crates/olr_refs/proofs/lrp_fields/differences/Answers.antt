use Rattle.olr_refs.proofs.Common.{◌≡◌, ◌∙◌, Some, arith, rules, and_parts, to_z-of_z, w16}
use Rattle.olr_refs.proofs.PointLemmas.{relative_read}
use Rattle.olr_refs.proofs.lrp_fields.differences.Goals as goal

pub unwrap-lon-requires : goal.unwrap-lon-requires
unwrap-lon-requires c = grind (arith, and_parts, to_z-of_z)

pub unwrap-lat-requires : goal.unwrap-lat-requires
unwrap-lat-requires c = grind (arith, and_parts, to_z-of_z)

pub returns-clause-lon : goal.returns-clause-lon
returns-clause-lon c =
    let some : c.rel16.result ≡ Some c.unwrap-lon.result = cc in
    to_z-of_z w16 c.unwrap-lon.result (search rules)
    ∙ relative_read _ _ _ _ _ _ (search rules) (search rules) c.lon.ensures.value c.lon-2.ensures.value
    (and_parts _ _ c.requires).0 c.rel16.ensures some

pub returns-clause-lat : goal.returns-clause-lat
returns-clause-lat c =
    let some : c.rel16-2.result ≡ Some c.unwrap-lat.result = cc in
    to_z-of_z w16 c.unwrap-lat.result (search rules)
    ∙ relative_read _ _ _ _ _ _ (search rules) (search rules) c.lat.ensures.value c.lat-2.ensures.value
    (and_parts _ _ c.requires).1 c.rel16-2.ensures some
