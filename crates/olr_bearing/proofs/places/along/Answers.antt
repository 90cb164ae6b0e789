use Rattle.olr_spec.proofs.Common.{◌≡◌, ℕ, ◌^◌, ◌<◌, ◌+◌, ℤ, pos, ◌+ℤ◌, ◌-ℤ◌, ◌*ℤ◌, FitsSigned, w64, arith, w128, ints}
use Rattle.olr_bearing.proofs.Scaling.{held, Is, Fits, product, sum, difference}
use Rattle.olr_bearing.proofs.places.along.Goals as goal

natural : (n : ℕ) (x : ℤ) → n < 2 ^ 32 → x ≡ pos n → Is (2 ^ 32) (pos n) x
natural n x h e = record { same = omega (arith, ints); within = (omega (arith, ints), omega (arith, ints)) }

part : (z x : ℤ) → FitsSigned w64 z → x ≡ held w64 z → Is (2 ^ 63) z x
part z x h e = record { same = omega (arith, ints); within = (omega (arith, ints), omega (arith, ints)) }

-- the code's numbers fit 128 bits
record Parts (w f d t : ℤ) (width from done to : ℤ) : Type 0 where
  first : Fits (2 ^ 95) (width *ℤ from) (held w128 w *ℤ held w128 f)
  second : Fits (2 ^ 96) (done *ℤ (to -ℤ from)) (held w128 d *ℤ held w128 (held w128 t -ℤ held w128 f))
  all : Fits (2 ^ 95 + 2 ^ 96) (width *ℤ from +ℤ done *ℤ (to -ℤ from))
      (held w128 (held w128 w *ℤ held w128 f) +ℤ held w128 (held w128 d *ℤ held w128 (held w128 t -ℤ held w128 f)))

here : (c : goal.After-from) → Parts c.from.result c.from-from.result c.from-done.result c.from-to.result
    (pos c.args.width) c.args.from (pos c.args.done) c.args.to
here c =
    let w = natural _ _ c.ranges.width.fits c.from.ensures in
    let d = natural _ _ c.ranges.done.fits c.from-done.ensures in
    let f = part _ _ c.ranges.from c.from-from.ensures in
    let t = part _ _ c.ranges.to c.from-to.ensures in
    let first = product (2 ^ 32) (2 ^ 63) _ _ _ _ (omega arith) w f in
    let second = product (2 ^ 32) (2 ^ 64) _ _ _ _ (omega arith) d (difference (2 ^ 63) (2 ^ 63) _ _ _ _ (omega arith) t f).is in
    record { first = first; second = second; all = sum (2 ^ 95) (2 ^ 96) _ _ _ _ (omega arith) first.is second.is }

pub overflow_mul-result : goal.overflow_mul-result
overflow_mul-result c = (here c).first.fits

pub overflow_mul-result-2 : goal.overflow_mul-result-2
overflow_mul-result-2 c = (here c).second.fits

pub overflow_add-result : goal.overflow_add-result
overflow_add-result c = (here c).all.fits

pub returns : goal.returns
returns c = (here c).all.is.same
