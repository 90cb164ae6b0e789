-- Whole numbers in 16 and in 64 bits.
use Rattle.olr_spec.proofs.Common.{◌≡◌, ℤ, pos, negsuc, ◌-ℤ◌, true, IsTrue, Some, None, Result, Ok, Err, FitsSigned, w16, w64}
use Rattle.olr_spec.proofs.Common.{refl, arith, nat_tests, ints, fits16}
use Rattle.std.proofs.Common.{if◌then◌else◌}
use Rattle.std.specs.Result.{OkIff, result_ok}
use Rattle.olr_coords.specs.Bounds.{is_degrees}

fits_16 : (z : ℤ) → fits16 z ≡ true → FitsSigned w16 z
fits_16 (pos n) h = record { sfits = grind (arith, nat_tests) }
fits_16 (negsuc n) h = record { sfits = grind (arith, nat_tests) }

fits16_true : (z : ℤ) → FitsSigned w16 z → fits16 z ≡ true
fits16_true (pos n) f = grind (arith, nat_tests)
fits16_true (negsuc n) f = grind (arith, nat_tests)

-- the result of `i16::try_from`
pub in_16_bits : {E : Type 0} (r : Result ℤ E) (z : ℤ) → OkIff r (FitsSigned w16 z) z →
    result_ok r ≡ (if fits16 z then Some z else None)
in_16_bits (Ok x) z h = rw (fits16_true z h.0, h.1) refl
in_16_bits (Err e) z h = grind (arith, fits_16)

-- the difference of two coordinates fits 64 bits
pub difference_fits : (a b : ℤ) → IsTrue (is_degrees a) → IsTrue (is_degrees b) → FitsSigned w64 (b -ℤ a)
difference_fits (pos m) (pos n) f g = search (arith, ints)
difference_fits (pos m) (negsuc n) f g = search (arith, ints)
difference_fits (negsuc m) (pos n) f g = search (arith, ints)
difference_fits (negsuc m) (negsuc n) f g = search (arith, ints)
