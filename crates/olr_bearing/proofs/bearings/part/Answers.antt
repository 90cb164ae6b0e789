use Rattle.olr_spec.proofs.Common.{◌≡◌, ◌∙◌, ℕ, ◌*◌, ◌≤◌, ℤ, pos, ◌-ℤ◌, ◌*ℤ◌, arith, w128, ints, refl}
use Rattle.olr_bearing.specs.Ranges.{IsPart, IsWithin, degree_units}
use Rattle.olr_bearing.proofs.Scaling.{held, Fits, coord_held, difference, known, product}
use Rattle.olr_bearing.proofs.bearings.part.Goals as goal

natural : (n : ℕ) (x : ℤ) → n ≤ 1000000 → x ≡ pos n → Fits 1000000 (pos n) x
natural n x h e = known 1000000 _ _ (omega arith) e (omega (arith, ints), omega (arith, ints))

scaled_within : (n : ℕ) (z : ℤ) → n ≤ 1000000 → IsWithin (n * degree_units 180) z → IsWithin (1000000 * degree_units 180) z
scaled_within n z h g = (omega (arith, ints, g.0), omega (arith, ints, g.1))

as_part : (x z : ℤ) → x ≡ z → IsWithin (40500000000 * (2000000 * degree_units 180)) z → IsPart x
as_part x z e h = (omega (arith, ints, h.0), omega (arith, ints, h.1))

-- the code's numbers fit 128 bits; the width is x and the origin y
record Parts (factor scaled x y width origin : ℤ) : Type 0 where
  shift : Fits (1000000 * degree_units 180) (width *ℤ origin) (held w128 x *ℤ held w128 y)
  offset : Fits (2000000 * degree_units 180) (scaled -ℤ width *ℤ origin)
      (held w128 scaled -ℤ held w128 (held w128 x *ℤ held w128 y))
  all : Fits (40500000000 * (2000000 * degree_units 180)) (factor *ℤ (scaled -ℤ width *ℤ origin))
      (held w128 factor *ℤ held w128 (held w128 scaled -ℤ held w128 (held w128 x *ℤ held w128 y)))

here : (c : goal.After-from-2) → Parts c.args.factor c.args.scaled c.from.result c.from-2.result (pos c.args.width) c.args.origin
here c =
    let p = c.requires in
    let scaled = known (1000000 * degree_units 180) _ _ (omega arith) refl (scaled_within _ _ p.short p.place) in
    let factor = known 40500000000 _ _ (omega arith) refl p.factor in
    let origin = known (degree_units 180) _ _ (omega arith) (c.from-2.ensures ∙ (coord_held _ _ refl p.origin).0) p.origin in
    let shift = product 1000000 (degree_units 180) _ _ _ _ (omega arith) (natural _ _ p.short c.from.ensures).is origin.is in
    let offset =
    difference (1000000 * degree_units 180) (1000000 * degree_units 180) _ _ _ _ (omega arith) scaled.is shift.is in
    record {
      shift = shift;
      offset = offset;
      all = product 40500000000 (2000000 * degree_units 180) _ _ _ _ (omega arith) factor.is offset.is;
    }

pub overflow_mul-result : goal.overflow_mul-result
overflow_mul-result c = (here c).shift.fits

pub overflow_sub-result : goal.overflow_sub-result
overflow_sub-result c = (here c).offset.fits

pub overflow_mul-result-2 : goal.overflow_mul-result-2
overflow_mul-result-2 c = (here c).all.fits

pub returns : goal.returns
returns c = let is = (here c).all.is in record { value = is.same; in_range = as_part _ _ is.same is.within }
