use Rattle.olr_spec.proofs.Common.{◌∙◌, ◌^◌, ◌*◌, ℤ, ◌-ℤ◌, ◌*ℤ◌, ap, arith, w128, Vector}
use Rattle.olr_bearing.proofs.Scaling.{held, Fits, Is, boundary_held, difference, part_held, product}
use Rattle.olr_bearing.proofs.margins.beyond.Goals.{After-direction}
use Rattle.olr_bearing.proofs.margins.beyond.Goals as goal

-- the code's numbers fit 128 bits: x and y are the direction's parts, u and v the boundary's
record Parts (x y u v X Y U V : ℤ) : Type 0 where
  left : Fits (10 ^ 37) (X *ℤ V) (held w128 x *ℤ held w128 v)
  right : Fits (10 ^ 37) (Y *ℤ U) (held w128 y *ℤ held w128 u)
  all : Fits (2 * 10 ^ 37) (X *ℤ V -ℤ Y *ℤ U) (held w128 (held w128 x *ℤ held w128 v) -ℤ held w128 (held w128 y *ℤ held w128 u))

parts : (x y u v X Y U V : ℤ) → Is (10 ^ 31) X x → Is (10 ^ 31) Y y → Is 1000000 U u → Is 1000000 V v →
    Parts x y u v X Y U V
parts x y u v X Y U V p q r s =
    let left = product (10 ^ 31) 1000000 X V x v (omega arith) p s in
    let right = product (10 ^ 31) 1000000 Y U y u (omega arith) q r in
    record { left = left; right = right; all = difference (10 ^ 37) (10 ^ 37) _ _ _ _ (omega arith) left.is right.is }

here : (c : After-direction) → Parts c.direction.inside.east c.direction.inside.north c.boundary.inside.east
    c.boundary.inside.north c.args.direction.east c.args.direction.north c.args.boundary.east c.args.boundary.north
here c =
    let d = c.requires.in_range in
    let b = c.requires.boundary in
    parts _ _ _ _ _ _ _ _
    (record { same = ap (λ (w : Vector). held w128 w.east) c.direction.view_is ∙ part_held _ d.0; within = d.0 })
    (record { same = ap (λ (w : Vector). held w128 w.north) c.direction.view_is ∙ part_held _ d.1; within = d.1 })
    (record { same = ap (λ (w : Vector). held w128 w.east) c.boundary.view_is ∙ boundary_held _ b.0; within = b.0 })
    (record { same = ap (λ (w : Vector). held w128 w.north) c.boundary.view_is ∙ boundary_held _ b.1; within = b.1 })

pub overflow_mul-result : goal.overflow_mul-result
overflow_mul-result c = (here (goal.at.overflow_mul-result c).After-direction).left.fits

pub overflow_mul-result-2 : goal.overflow_mul-result-2
overflow_mul-result-2 c = (here (goal.at.overflow_mul-result-2 c).After-direction).right.fits

pub overflow_sub-result : goal.overflow_sub-result
overflow_sub-result c = (here (goal.at.overflow_sub-result c).After-direction).all.fits

pub returns : goal.returns
returns c = (here (goal.at.returns c).After-direction).all.is.same
