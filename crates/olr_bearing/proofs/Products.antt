-- Products of whole numbers, and how large they are.
use Rattle.olr_spec.proofs.Common.{◌≡◌, ℕ, zero, suc, ◌+◌, ◌*◌, ◌≤◌, ℤ, pos, negsuc, ◌+ℤ◌, ◌*ℤ◌, ◌≤ℤ◌, ap, ◌∙◌, arith, mul-le, ints}
use Rattle.std.proofs.Common.{neg_ℤ}
use Rattle.std.proofs.Math.IntN.{pos-*ℤ-pos, pos-*ℤ-negsuc, negsuc-*ℤ-negsuc, suc_ℤ-*ℤ, zero-*ℤ}
use Rattle.olr_spec.proofs.SectorLemmas.{neg_left}
use Rattle.olr_bearing.specs.Ranges.{IsWithin}

-- ---- equations

pub same_product : (a b x y : ℤ) → a ≡ b → x ≡ y → a *ℤ x ≡ b *ℤ y
same_product a b x y p q = cc

pub times_sum : (n : ℕ) (x y : ℤ) → pos n *ℤ (x +ℤ y) ≡ pos n *ℤ x +ℤ pos n *ℤ y
times_sum zero x y = omega (arith, ints, zero-*ℤ (x +ℤ y), zero-*ℤ x, zero-*ℤ y)
times_sum (suc n) x y = omega (arith, ints, suc_ℤ-*ℤ (pos n) (x +ℤ y), suc_ℤ-*ℤ (pos n) x, suc_ℤ-*ℤ (pos n) y, times_sum n x y)

pub sum_times : (n m : ℕ) (z : ℤ) → pos (n + m) *ℤ z ≡ pos n *ℤ z +ℤ pos m *ℤ z
sum_times zero m z = let is : zero + m ≡ m = omega arith in ap (λ k. pos k *ℤ z) is ∙ omega (arith, ints, zero-*ℤ z)
sum_times (suc n) m z = omega (arith, ints, suc_ℤ-*ℤ (pos (n + m)) z, suc_ℤ-*ℤ (pos n) z, sum_times n m z)

-- ---- sizes: a product stays within the product of the bounds

pub natural_product_within : (n m b : ℕ) (z : ℤ) → n ≤ m → IsWithin b z → IsWithin (m * b) (pos n *ℤ z)
natural_product_within n m b (pos a) h g = let most = mul-le n a m b h (omega (arith, ints, g.1)) in omega (arith, ints, pos-*ℤ-pos n a)
natural_product_within n m b (negsuc a) h g = let most = mul-le n (suc a) m b h (omega (arith, ints, g.0)) in omega (arith, ints, pos-*ℤ-negsuc n a)

pub product_within : (m b : ℕ) (x z : ℤ) → IsWithin m x → IsWithin b z → IsWithin (m * b) (x *ℤ z)
product_within m b (pos n) z h g = natural_product_within n m b z (omega (arith, ints, h.1)) g
product_within m b (negsuc n) z h g =
    let p : IsWithin (m * b) (pos (suc n) *ℤ z) = natural_product_within (suc n) m b z (omega (arith, ints, h.0)) g in
    let is : negsuc n *ℤ z ≡ neg_ℤ (pos (suc n) *ℤ z) = neg_left (pos (suc n)) z in
    (omega (arith, ints, is, p.1), omega (arith, ints, is, p.0))

square_from_zero : (z : ℤ) → pos 0 ≤ℤ (z *ℤ z)
square_from_zero (pos n) = omega (arith, ints, pos-*ℤ-pos n n)
square_from_zero (negsuc n) = omega (arith, ints, negsuc-*ℤ-negsuc n n)

pub square_within : (b : ℕ) (z : ℤ) → IsWithin b z → (pos 0 ≤ℤ (z *ℤ z)) × ((z *ℤ z) ≤ℤ pos (b * b))
square_within b z h = (square_from_zero z, (product_within b b z z h h).1)
