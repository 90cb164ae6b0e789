use Rattle.olr_spec.proofs.Common.{◌≡◌, ℤ, pos, ◌+ℤ◌, ◌-ℤ◌, ◌*ℤ◌, ◌≤ℤ◌, FitsSigned, w64, ap, arith, w128, ints, thousandths}
use Rattle.olr_bearing.specs.Ranges.{IsFactor, IsWithin}
use Rattle.olr_bearing.proofs.Products.{same_product, square_within}
use Rattle.olr_bearing.proofs.Scaling.{held, coord_within, thousandths_within}
use Rattle.olr_bearing.proofs.bearings.cosine_at.Goals as goal

-- the code's numbers, by its square a, which is q
record Factors (a q : ℤ) : Type 0 where
  less : FitsSigned w128 (pos 8100000000 -ℤ held w128 a)
  product : FitsSigned w128 (pos 4 *ℤ held w128 (pos 8100000000 -ℤ held w128 a))
  numerator : held w128 (pos 4 *ℤ held w128 (pos 8100000000 -ℤ held w128 a)) ≡ pos 4 *ℤ (pos 8100000000 -ℤ q)
  sum : FitsSigned w128 (pos 32400000000 +ℤ held w128 a)
  denominator : held w128 (pos 32400000000 +ℤ held w128 a) ≡ pos 32400000000 +ℤ q
  high : IsFactor (held w128 (pos 4 *ℤ held w128 (pos 8100000000 -ℤ held w128 a)))
  low : IsFactor (held w128 (pos 32400000000 +ℤ held w128 a))

factors : (a q : ℤ) → a ≡ q → pos 0 ≤ℤ q → q ≤ℤ pos 8100000000 → Factors a q
factors a q is least most = record {
  less = omega (arith, ints);
  product = omega (arith, ints);
  numerator = omega (arith, ints);
  sum = omega (arith, ints);
  denominator = omega (arith, ints);
  high = (omega (arith, ints), omega (arith, ints));
  low = (omega (arith, ints), omega (arith, ints));
}

here : (c : goal.After-from-thousandths) → Factors (held w128 c.from-thousandths.result *ℤ held w128 c.from-thousandths.result)
    (thousandths c.args.place.lat *ℤ thousandths c.args.place.lat)
here c =
    let m = thousandths c.args.place.lat in
    let short : IsWithin 90000 m = thousandths_within c.args.place.lat ((coord_within c.args.place c.lat.ensures.range).1) in
    let square = square_within 90000 m short in
    let x = c.from-thousandths.result in
    let lat_is : held w64 c.lat.result ≡ c.args.place.lat = omega (arith, ints) in
    let is : held w128 x ≡ m = omega (arith, ints, ap thousandths lat_is, short.0, short.1) in
    factors (held w128 x *ℤ held w128 x) (m *ℤ m) (same_product (held w128 x) m (held w128 x) m is is) square.0 square.1

pub overflow_sub-result : goal.overflow_sub-result
overflow_sub-result c = (here c).less

pub overflow_mul-result : goal.overflow_mul-result
overflow_mul-result c = (here c).product

pub overflow_add-result : goal.overflow_add-result
overflow_add-result c = (here c).sum

pub returns : goal.returns
returns c = let h = here c in record { numerator = h.numerator; denominator = h.denominator; in_range = (h.high, h.low) }
