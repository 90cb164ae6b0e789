use Rattle.olr_spec.proofs.Common.{◌≡◌, ℕ, ◌-◌, ◌*◌, ◌≤◌, ℤ, pos, ◌+ℤ◌, ◌-ℤ◌, ◌*ℤ◌, subst, sym, ap, w64, w128, arith, FitsSigned, ShapePoint}
use Rattle.olr_bearing.specs.Ranges.{IsWithin, degree_units}
use Rattle.olr_bearing.proofs.Scaling.{held, along_within, coord_held, coord_within, held_within, wider}
use Rattle.olr_bearing.proofs.places.place_between.Goals as goal

-- the result of `along`, for coordinates x and y that are f and t
passed : (w d b : ℕ) (f t x y z : ℤ) → z ≡ pos w *ℤ held w64 x +ℤ pos d *ℤ (held w64 y -ℤ held w64 x) → held w64 x ≡ f →
    held w64 y ≡ t → d ≤ w → IsWithin b f → IsWithin b t → FitsSigned w128 z → IsWithin (w * b) (held w128 z)
passed w d b f t x y z is p q h g k fits =
    let there : z ≡ pos w *ℤ f +ℤ pos d *ℤ (t -ℤ f) = cc in
    held_within (w * b) z fits (subst (IsWithin (w * b)) (sym there) (along_within w d b f t h g k))

pub returns-clause-in_range : goal.returns-clause-in_range
returns-clause-in_range c =
    let from = c.from.inside in
    let to = c.to.inside in
    let p = coord_within from.place c.lon.ensures.range in
    let q = coord_within to.place c.lon-2.ensures.range in
    let w = to.at - from.at in
    let d = c.args.at - from.at in
    let d_le : d ≤ w = omega (arith, ap (λ (s : ShapePoint). s.at) c.to.view_is) in (
      passed w d (degree_units 180) from.place.lon to.place.lon c.lon.result c.lon-2.result c.along.result c.along.ensures
          (coord_held _ _ c.lon.ensures.value p.0).0 (coord_held _ _ c.lon-2.ensures.value q.0).0 d_le p.0 q.0
          (record { sfits = c.along.type_inv }),
      passed w d (degree_units 90) from.place.lat to.place.lat c.lat.result c.lat-2.result c.along-2.result
          c.along-2.ensures (coord_held _ _ c.lat.ensures.value (wider 1 _ p.1)).0
          (coord_held _ _ c.lat-2.ensures.value (wider 1 _ q.1)).0 d_le p.1 q.1 (record { sfits = c.along-2.type_inv }),
    )
