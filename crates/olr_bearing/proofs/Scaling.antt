-- The ranges of coordinates, and of coordinates between two others.
use Rattle.olr_spec.proofs.Common.{◌≡◌, ℕ, ◌+◌, ◌-◌, ◌*◌, ◌^◌, ◌≤◌, ℤ, pos, negsuc, ◌+ℤ◌, ◌-ℤ◌, ◌*ℤ◌, IsTrue, to_z, of_z, ap}
use Rattle.olr_spec.proofs.Common.{arith, Width, w64, w128, FitsSigned, to_z-of_z, subst, sym, ints, and_parts, Coord}
use Rattle.olr_spec.proofs.Common.{is_coord, thousandths}
use Rattle.olr_spec.proofs.BytesLemmas.{bounds}
use Rattle.olr_bearing.specs.Ranges.{IsWithin, IsPart, IsBoundary, degree_units}
use Rattle.olr_bearing.proofs.Products.{natural_product_within, product_within, same_product, times_sum, sum_times}

-- the value of a number in an integer type
abbrev pub held : Width → ℤ → ℤ
held w z = to_z w (of_z w z)

pub held_within : (b : ℕ) (z : ℤ) → FitsSigned w128 z → IsWithin b z → IsWithin b (held w128 z)
held_within b z fits h = subst (IsWithin b) (sym (to_z-of_z w128 z fits)) h

-- a direction's parts, and a boundary's, fit 128 bits
pub part_held : (z : ℤ) → IsPart z → held w128 z ≡ z
part_held z h = to_z-of_z w128 z (omega (arith, ints, h.0, h.1))

pub boundary_held : (z : ℤ) → IsBoundary z → held w128 z ≡ z
boundary_held z h = to_z-of_z w128 z (omega (arith, ints, h.0, h.1))

-- ---- numbers of the code: x is z, and at most b either way

pub record Is (b : ℕ) (z x : ℤ) : Type 0 where
  pub same : held w128 x ≡ z
  pub within : IsWithin b z

pub record Fits (b : ℕ) (z x : ℤ) : Type 0 where
  pub fits : FitsSigned w128 x
  pub is : Is b z x

pub known : (b : ℕ) (z x : ℤ) → b ≤ 2 ^ 126 → x ≡ z → IsWithin b z → Fits b z x
known b z x h e g = record { fits = omega (arith, ints); is = record { same = omega (arith, ints); within = g } }

pub product : (m b : ℕ) (w f x y : ℤ) → m * b ≤ 2 ^ 126 → Is m w x → Is b f y →
    Fits (m * b) (w *ℤ f) (held w128 x *ℤ held w128 y)
product m b w f x y h p q =
    known (m * b) _ _ h (same_product _ _ _ _ p.same q.same) (product_within m b w f p.within q.within)

pub sum : (m b : ℕ) (w f x y : ℤ) → m + b ≤ 2 ^ 126 → Is m w x → Is b f y →
    Fits (m + b) (w +ℤ f) (held w128 x +ℤ held w128 y)
sum m b w f x y h p q =
    known (m + b) _ _ h (cc) (omega (arith, ints, p.within.0, q.within.0), omega (arith, ints, p.within.1, q.within.1))

pub difference : (m b : ℕ) (w f x y : ℤ) → m + b ≤ 2 ^ 126 → Is m w x → Is b f y →
    Fits (m + b) (w -ℤ f) (held w128 x -ℤ held w128 y)
difference m b w f x y h p q =
    known (m + b) _ _ h (cc) (omega (arith, ints, p.within.0, q.within.1), omega (arith, ints, p.within.1, q.within.0))

-- ---- coordinates

pub coord_within : (c : Coord) → IsTrue (is_coord c) →
    IsWithin (degree_units 180) c.lon × IsWithin (degree_units 90) c.lat
coord_within c h = grind (arith, and_parts, bounds, ints)

-- a part of a coordinate, in the code
pub coord_held : (z y : ℤ) → z ≡ y → IsWithin (degree_units 180) y → (held w64 z ≡ y) × IsWithin (degree_units 180) (held w64 z)
coord_held z y is h =
    let same : held w64 z ≡ y = omega (arith, ints, h.0, h.1) in (same, subst (IsWithin (degree_units 180)) (sym same) h)

pub wider : (v : ℕ) (y : ℤ) → IsWithin (v * degree_units 90) y → IsWithin (v * degree_units 180) y
wider v y h = (omega (arith, ints, h.0, h.1), omega (arith, ints, h.0, h.1))

pub thousandths_within : (z : ℤ) → IsWithin (degree_units 90) z → IsWithin 90000 (thousandths z)
thousandths_within (pos n) h = (omega (arith, ints, h.0, h.1), omega (arith, ints, h.0, h.1))
thousandths_within (negsuc n) h = (omega (arith, ints, h.0, h.1), omega (arith, ints, h.0, h.1))

-- ---- d of w decimetres from f to t

-- it is w - d times f plus d times t
shares : (w d : ℕ) (f t : ℤ) → d ≤ w → pos w *ℤ f +ℤ pos d *ℤ (t -ℤ f) ≡ pos (w - d) *ℤ f +ℤ pos d *ℤ t
shares w d f t h =
    let is : (w - d) + d ≡ w = omega arith in
    let whole : pos ((w - d) + d) *ℤ f ≡ pos w *ℤ f = ap (λ k. pos k *ℤ f) is in
    let back : (t -ℤ f) +ℤ f ≡ t = omega (arith, ints) in
    let there : pos d *ℤ ((t -ℤ f) +ℤ f) ≡ pos d *ℤ t = ap (λ z. pos d *ℤ z) back in
    omega (arith, ints, whole, there, sum_times (w - d) d f, times_sum d (t -ℤ f) f)

-- so it is within w times a bound of both
pub along_within : (w d b : ℕ) (f t : ℤ) → d ≤ w → IsWithin b f → IsWithin b t →
    IsWithin (w * b) (pos w *ℤ f +ℤ pos d *ℤ (t -ℤ f))
along_within w d b f t h p q =
    let first : IsWithin ((w - d) * b) (pos (w - d) *ℤ f) =
    natural_product_within (w - d) (w - d) b f (omega arith) p in
    let second : IsWithin (d * b) (pos d *ℤ t) = natural_product_within d d b t (omega arith) q in
    let is = shares w d f t h in
    let is_all : (w - d) + d ≡ w = omega arith in
    let all : (w - d) * b + d * b ≡ w * b = omega (arith, ap (λ k. k * b) is_all) in
    (omega (arith, ints, is, first.0, second.0), omega (arith, ints, is, first.1, second.1))
