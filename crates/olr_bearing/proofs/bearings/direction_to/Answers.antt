use Rattle.olr_spec.proofs.Common.{◌≡◌, ℕ, ◌*◌, ◌^◌, ◌≤◌, ℤ, pos, ◌+ℤ◌, ◌-ℤ◌, ◌*ℤ◌, ap, subst, sym, ◌∙◌, FitsSigned, to_z-of_z, arith, w128, ints, Scaled, thousandths, vector}
use Rattle.olr_bearing.specs.Ranges.{IsFactor, IsWithin, degree_units}
use Rattle.olr_bearing.proofs.Scaling.{held, coord_held, coord_within, held_within, wider}
use Rattle.olr_bearing.proofs.bearings.direction_to.Goals as goal

-- numbers of 128 bits: a coordinate's part, and a factor
fits : (w : ℕ) (y : ℤ) → w ≤ 1000000 → IsWithin (w * degree_units 180) y → FitsSigned w128 y
fits w y short h = omega (arith, ints, h.0, h.1)

factor_fits : (z : ℤ) → IsFactor z → FitsSigned w128 z
factor_fits z h = omega (arith, ints, h.0, h.1)

pub part-east-requires : goal.part-east-requires
part-east-requires c =
    let factor = c.cosine_at-numerator.ensures.in_range.0 in
    let range = c.requires.in_range.0 in
    record {
      factor = held_within 40500000000 _ (factor_fits _ factor) factor;
      short = subst (λ (s : Scaled). s.width ≤ 1000000) (sym c.place.view_is) c.requires.short;
      place = subst (λ (s : Scaled). IsWithin (s.width * degree_units 180) (held w128 s.lon)) (sym c.place.view_is)
          (held_within _ _ (fits c.args.place.width _ c.requires.short range) range);
      origin = (coord_held _ _ c.lon.ensures.value (coord_within c.args.origin c.lon.ensures.range).0).1;
    }

pub part-north-requires : goal.part-north-requires
part-north-requires c =
    let factor = c.cosine_at-numerator.ensures.in_range.1 in
    let range = wider c.args.place.width c.args.place.lat c.requires.in_range.1 in
    record {
      factor = held_within 40500000000 _ (factor_fits _ factor) factor;
      short = subst (λ (s : Scaled). s.width ≤ 1000000) (sym c.place.view_is) c.requires.short;
      place = subst (λ (s : Scaled). IsWithin (s.width * degree_units 180) (held w128 s.lat)) (sym c.place.view_is)
          (held_within _ _ (fits c.args.place.width _ c.requires.short range) range);
      origin = (coord_held _ _ c.lat.ensures.value (wider 1 _ (coord_within c.args.origin c.lat.ensures.range).1)).1;
    }

pub returns-clause-in_range : goal.returns-clause-in_range
returns-clause-in_range c = (
  held_within (10 ^ 31) _ (record { sfits = c.part-east.type_inv }) c.part-east.ensures.in_range,
  held_within (10 ^ 31) _ (record { sfits = c.part-north.type_inv }) c.part-north.ensures.in_range,
)

pub returns-clause-value : goal.returns-clause-value
returns-clause-value c =
    let m = thousandths c.args.origin.lat in
    let above : ℤ = pos 4 *ℤ (pos 8100000000 -ℤ m *ℤ m) in
    let below : ℤ = pos 32400000000 +ℤ m *ℤ m in
    let factors = c.cosine_at-numerator.ensures in
    let from = c.args.origin in
    let to = c.args.place in
    let range = c.requires.in_range in
    let numerator = to_z-of_z w128 _ (factor_fits _ factors.in_range.0) ∙ factors.numerator in
    let denominator = to_z-of_z w128 _ (factor_fits _ factors.in_range.1) ∙ factors.denominator in
    let width = ap (λ (s : Scaled). s.width) c.place.view_is in
    let lon = ap (λ (s : Scaled). held w128 s.lon) c.place.view_is ∙ to_z-of_z w128 to.lon (fits _ _ c.requires.short range.0) in
    let lat = ap (λ (s : Scaled). held w128 s.lat) c.place.view_is
    ∙ to_z-of_z w128 to.lat (fits _ _ c.requires.short (wider _ _ range.1)) in
    let east_of = (coord_held c.lon.result from.lon c.lon.ensures.value (coord_within from c.lon.ensures.range).0).0 in
    let north_of = (coord_held c.lat.result from.lat c.lat.ensures.value (wider 1 _ (coord_within from c.lat.ensures.range).1)).0 in
    let east : c.part-east.result ≡ above *ℤ (to.lon -ℤ pos to.width *ℤ from.lon) =
    c.part-east.ensures.value ∙ (λ i. numerator i *ℤ (lon i -ℤ pos (width i) *ℤ east_of i)) in
    let north : c.part-north.result ≡ below *ℤ (to.lat -ℤ pos to.width *ℤ from.lat) =
    c.part-north.ensures.value ∙ (λ i. denominator i *ℤ (lat i -ℤ pos (width i) *ℤ north_of i)) in
    let a = to_z-of_z w128 c.part-east.result (record { sfits = c.part-east.type_inv }) ∙ east in
    let b = to_z-of_z w128 c.part-north.result (record { sfits = c.part-north.type_inv }) ∙ north in
    λ i. vector (a i) (b i)
