-- The indices of the parts of a reference.
use Rattle.olr_binary.proofs.Common.{◌≡◌, suc, ◌+◌, ◌-◌, ◌*◌, ◌/◌, ◌≤◌, List, None, refl, sym, ◌∙◌, take, drop, zero, length}
use Rattle.olr_binary.proofs.Common.{nat_le, slice_index, arith, nat_tests, status_byte, slice_range, v3_fault}
use Rattle.olr_spec.proofs.Common.{◌<◌, ℕ, Bool, false, ◌||◌, subst, or_parts, eqb-true, bit, extra, flags_of, add-zero}
use Rattle.olr_spec.proofs.Common.{list_any, get_or-take, get_or-drop, leb-false, attribute1_bytes, has_reserved, not-false}
use Rattle.olr_binary.specs.Layout.{IsLayout}
use Rattle.olr_spec.proofs.ReadLemmas.{no_fault as test_passed}

-- of n LRPs, the first of which has its attribute byte 1 at index i, some attribute byte 1 has a reserved bit
abbrev pub some_reserved : List ℕ → ℕ → ℕ → Bool
some_reserved b i n = list_any (λ a. nat_le 64 a) (attribute1_bytes b i n)

-- a byte without a reserved bit can be skipped
pub some_reserved_more : (b : List ℕ) (i n : ℕ) → i < n → slice_index b (7 + 7 * i) < 64 →
    some_reserved b (7 + 7 * (i + 1)) (n - (i + 1)) ≡ some_reserved b (7 + 7 * i) (n - i)
some_reserved_more b i n within low =
    let left : n - i ≡ suc (n - (i + 1)) = omega arith in
    let next : 7 + 7 * i + 7 ≡ 7 + 7 * (i + 1) = omega arith in
    let free : nat_le 64 (slice_index b (7 + 7 * i)) ≡ false = grind (arith, nat_tests) in
    rw (left, free, next) refl

pub some_reserved_none : (b : List ℕ) (i n k : ℕ) → n ≤ k → some_reserved b i (n - k) ≡ false
some_reserved_none b i n k past = grind arith

-- each byte has no reserved bit
pub some_reserved_at : (b : List ℕ) (i n : ℕ) → some_reserved b i n ≡ false → (k : ℕ) → k < n →
    slice_index b (i + 7 * k) < 64
some_reserved_at b i zero none k within = absurd (omega arith)
some_reserved_at b i (suc n) none zero within = grind (arith, or_parts, nat_le, leb-false, add-zero)
some_reserved_at b i (suc n) none (suc k) within =
    let next : i + 7 + 7 * k ≡ i + 7 * suc k = omega arith in
    let rest = (or_parts (nat_le 64 (slice_index b i)) _ none).1 in
    subst (λ (j : ℕ). slice_index b j < 64) next (some_reserved_at b (i + 7) n rest k (omega arith))

module _ (b : List ℕ) (m o : ℕ) (w : IsLayout b m o) where
  pub extra_is : extra b ≡ o
  extra_is = omega (arith, w.size, w.few)

  count_is : (length b - 16) / 7 ≡ m
  count_is = omega (arith, w.size, w.few)

  pub has_reserved_is : has_reserved b ≡ (some_reserved b 7 (m + 2) || nat_le 128 (slice_index b (length b - 1 - o)))
  has_reserved_is = grind (arith, extra_is, count_is)

-- what holds of bytes without a fault
pub record HasNoFault (b : List ℕ) : Type 0 where
  pub state : slice_index b 0 ≡ status_byte
  pub flags : bit 6 (flags_of b) + bit 5 (flags_of b) ≡ extra b
  pub reserved : has_reserved b ≡ false

pub no_fault : (b : List ℕ) → v3_fault b ≡ None → HasNoFault b
no_fault b e = grind (arith, test_passed, not-false, eqb-true)

-- indices of attribute bytes
module _ (b : List ℕ) (m o : ℕ) (w : IsLayout b m o) (e : v3_fault b ≡ None) where
  -- attribute byte 1 of LRP k, of all LRPs
  low_attribute1 : (k : ℕ) → k < m + 2 → slice_index b (7 + 7 * k) < 64
  low_attribute1 k within =
      let none = (or_parts (some_reserved b 7 (m + 2)) _ (sym (has_reserved_is b m o w) ∙ (no_fault b e).reserved)).0 in
      some_reserved_at b 7 (m + 2) none k within

  -- and read in the bytes from j on, those of an LRP
  pub low_at : (k j n : ℕ) → k < m + 2 → 7 + 7 * k ≡ j + 4 → 4 < n → slice_index (take n (drop j b)) 4 < 64
  low_at k j n within place short = grind (arith, get_or-take, get_or-drop, low_attribute1)

  -- attribute bytes 1 and 4, read in the bytes of the last LRP
  pub last_bytes : (slice_index (slice_range b (10 + 7 * m) (10 + 7 * m + 6)) 5 ≡ flags_of b)
      × (bit 6 (flags_of b) + bit 5 (flags_of b) ≡ o) × (flags_of b < 128)
      × (slice_index (slice_range b (10 + 7 * m) (10 + 7 * m + 6)) 4 < 64)
  last_bytes = (
    grind (arith, get_or-take, get_or-drop, extra_is),
    (no_fault b e).flags ∙ extra_is b m o w,
    leb-false 128 (flags_of b) (or_parts _ _ (no_fault b e).reserved).1,
    low_at (m + 1) (10 + 7 * m) (10 + 7 * m + 6 - (10 + 7 * m)) (omega arith) (omega arith) (omega arith),
  )
