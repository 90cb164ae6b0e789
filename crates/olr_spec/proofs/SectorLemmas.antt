-- Each direction is in one sector.
use Rattle.olr_spec.proofs.Common.{inl, inr, ◌≡◌, ℕ, zero, suc, ◌+◌, ◌-◌, ◌*◌, ◌/◌, ◌%◌, ◌<◌, ◌≤◌, ℤ, pos, ◌≤ℤ◌, ◌<ℤ◌, ◌-ℤ◌}
use Rattle.olr_spec.proofs.Common.{Bool, true, T, List, ◌∷◌, unwrap_or, IsTrue, map, refl, sym, subst, arith, [], eq-eqb}
use Rattle.olr_spec.proofs.Common.{int_le, find, and_parts, cases_order, or_left, or_right, cond_both, list_any-append, negsuc}
use Rattle.olr_spec.proofs.Common.{ints, vector, boundary, lies_between, up_to, has, ◌*ℤ◌, by_lt_z, quarter_turn, beyond}
use Rattle.olr_spec.proofs.Common.{IsSector, neg_ℤ, FieldLaws, LawOf}
use Rattle.olr_spec.proofs.Facts.{Each, Each-nil, Each-head, Each-tail, has_cases, Each-push}

-- ---- tests on whole numbers

pub le_yes : (a b : ℤ) → int_le a b ≡ true → a ≤ℤ b
le_yes a b e = record { le = subst T (sym e) tt }

pub le_test : (a b : ℤ) → a ≤ℤ b → int_le a b ≡ true
le_test a b h = grind (arith, h.le)

-- ---- the numbers below n

pub up_to_below : (n : ℕ) → Each (λ k. k < n) (up_to n)
up_to_below zero = Each-nil (λ k. k < zero)
up_to_below (suc n) = Each-push (λ k. k < suc n) (up_to n) n (λ k h. omega (arith, up_to_below n k h)) (omega arith)

pub has_below : (n k : ℕ) → k < n → has (up_to n) k ≡ true
has_below zero k lt = absurd (omega arith)
has_below (suc n) k lt = grind (arith, list_any-append, cases_order k n, or_right, or_left, eq-eqb n k, has_below n k)

-- ---- quadrants

-- greater than 0 if the direction is clockwise of boundary k
abbrev side : ℤ → ℤ → ℕ → ℤ
side e n k = beyond (boundary k) (vector e n)

-- on boundary k or clockwise of it, and before the next
abbrev At : ℕ → ℤ → ℤ → Type 0
At k e n = (pos 0 ≤ℤ side e n k) × (side e n (suc k) <ℤ pos 0)

-- from north to before east, and then a quarter turn to the right each time
abbrev InQuadrant : ℕ → ℤ → ℤ → Type 0
InQuadrant zero e n = (pos 0 ≤ℤ e) × (pos 0 <ℤ n)
InQuadrant (suc q) e n = InQuadrant q (neg_ℤ n) e

pub same_at : {X : Type 0} (f g : ℕ → X) (xs : List ℕ) → map f xs ≡ map g xs → (k : ℕ) → has xs k ≡ true → f k ≡ g k
same_at f g [] e k i = absurd cc
same_at f g (x ∷ xs) e k i = grind (arith, has_cases x xs k i, same_at f g xs)

pub turned : (k : ℕ) → k < 25 → boundary (k + 8) ≡ quarter_turn (boundary k)
turned k lt = same_at (λ j. boundary (j + 8)) (λ j. quarter_turn (boundary j)) (up_to 25) refl k (has_below 25 k lt)

pub neg_right : (a b : ℤ) → a *ℤ neg_ℤ b ≡ neg_ℤ (a *ℤ b)
neg_right a b = grind (arith, ints)

pub neg_left : (a b : ℤ) → neg_ℤ a *ℤ b ≡ neg_ℤ (a *ℤ b)
neg_left a b = grind (arith, ints)

pub turns_into : (x y e n : ℤ) → e *ℤ neg_ℤ x -ℤ n *ℤ y ≡ neg_ℤ n *ℤ y -ℤ e *ℤ x
turns_into x y e n = omega (arith, neg_right e x, neg_left n y, ints)

side_turned : (k : ℕ) → k < 25 → (e n : ℤ) → side e n (k + 8) ≡ side (neg_ℤ n) e k
side_turned k lt e n = grind (arith, turned, turns_into)

-- (e, n) is (a, b) turned by a quarter
pub sector_turned : (a b e n : ℤ) (j k : ℕ) → IsSector a b k → e ≡ b → n ≡ neg_ℤ a → k < 24 → j ≡ 8 + k → IsSector e n j
sector_turned a b e n j k s p q h is =
    let at : k + 8 ≡ j = omega arith in
    let next : suc k + 8 ≡ suc j = omega arith in
    let back : neg_ℤ n ≡ a = omega (arith, ints) in
    grind (arith, side_turned k (omega arith) e n, side_turned (suc k) (omega arith) e n)

-- quarter q + 1 of a direction is quarter q of the direction turned back
side_on : (e n : ℤ) (q j : ℕ) → q < 3 → j ≤ 8 → side e n (suc q * 8 + j) ≡ side (neg_ℤ n) e (q * 8 + j)
side_on e n q j lq lj = grind (arith, side_turned (q * 8 + j))

-- a direction between boundary j of quarter q and the next is in this quarter, where one before a boundary is before the
-- next too
abbrev Stays : ℕ → ℕ → ℤ → ℤ → Type 0
Stays q j e n =
    ((pos 0 ≤ℤ side e n (q * 8 + j)) × (side e n (q * 8 + suc j) <ℤ pos 0) → InQuadrant q e n)
    × (InQuadrant q e n → side e n (q * 8 + j) <ℤ pos 0 → side e n (q * 8 + suc j) <ℤ pos 0)

of_quarter : (j : ℕ) → j < 8 → (e n : ℤ) → Stays 0 j e n
of_quarter zero lt e n = omega (arith, ints)
of_quarter (suc zero) lt e n = omega (arith, ints)
of_quarter (suc (suc zero)) lt e n = omega (arith, ints)
of_quarter (suc (suc (suc zero))) lt e n = omega (arith, ints)
of_quarter (suc (suc (suc (suc zero)))) lt e n = omega (arith, ints)
of_quarter (suc (suc (suc (suc (suc zero))))) lt e n = omega (arith, ints)
of_quarter (suc (suc (suc (suc (suc (suc zero)))))) lt e n = omega (arith, ints)
of_quarter (suc (suc (suc (suc (suc (suc (suc zero))))))) lt e n = omega (arith, ints)
of_quarter _ lt e n = absurd (omega arith)

in_quarter : (q j : ℕ) → q < 4 → j < 8 → (e n : ℤ) → Stays q j e n
in_quarter zero j lq lj e n = of_quarter j lj e n
in_quarter (suc q) j lq lj e n = grind (arith, side_on, (in_quarter q j (omega arith) lj (neg_ℤ n) e))

by_quarter : (k : ℕ) → k < 32 → (e n : ℤ) → (At k e n → InQuadrant (k / 8) e n)
    × (InQuadrant (k / 8) e n → side e n k <ℤ pos 0 → side e n (suc k) <ℤ pos 0)
by_quarter k lt e n =
    let is : k / 8 * 8 + k % 8 ≡ k = omega arith in
    let next : k / 8 * 8 + suc (k % 8) ≡ suc k = omega arith in
    grind (arith, in_quarter (k / 8) (k % 8))

-- the directions of a quarter are on its first boundary or clockwise of it, and before the first of the next quarter
turns : (q : ℕ) → q < 4 → (e n : ℤ) → InQuadrant q e n → (pos 0 ≤ℤ side e n (q * 8)) × (side e n (q * 8 + 8) <ℤ pos 0)
turns zero lq e n h = omega (arith, ints)
turns (suc q) lq e n h = grind (arith, side_turned, side_on, (turns q (omega arith) (neg_ℤ n) e h))

-- ---- at most one sector

-- below 0 at a boundary, so below 0 at each later boundary of the quadrant
falls_on : (e n : ℤ) (j d : ℕ) → j + d < 32 → (j + d) / 8 ≡ j / 8 → InQuadrant (j / 8) e n → side e n j <ℤ pos 0 →
    side e n (j + d) <ℤ pos 0
falls_on e n j zero lt same q h = subst (λ (k : ℕ). side e n k <ℤ pos 0) (let is : j ≡ j + zero = omega arith in is) h
falls_on e n j (suc d) lt same q h =
    let on : j + suc d ≡ suc (j + d) = omega arith in
    let here : (j + d) / 8 ≡ j / 8 = omega arith in
    let before : side e n (j + d) <ℤ pos 0 = falls_on e n j d (omega arith) here q h in
    let after = (by_quarter (j + d) (omega arith) e n).1 (subst (λ (k : ℕ). InQuadrant k e n) (sym here) q) before in
    subst (λ (k : ℕ). side e n k <ℤ pos 0) (sym on) after

-- a direction is in one quadrant
one_quadrant : (e n : ℤ) (p q : ℕ) → p < q → q < 4 → InQuadrant p e n → InQuadrant q e n → ⊥
one_quadrant e n p zero lt h a b = omega arith
one_quadrant e n zero (suc zero) lt h a b = omega (arith, ints)
one_quadrant e n zero (suc (suc zero)) lt h a b = omega (arith, ints)
one_quadrant e n zero (suc (suc (suc zero))) lt h a b = omega (arith, ints)
one_quadrant e n zero (suc (suc (suc (suc q)))) lt h a b = omega arith
one_quadrant e n (suc p) (suc q) lt h a b = one_quadrant (neg_ℤ n) e p q (omega arith) (omega arith) a b

clash : (z : ℤ) → pos 0 ≤ℤ z → z <ℤ pos 0 → ⊥
clash z a b = omega (arith, ints)

later_fails : (e n : ℤ) (j k : ℕ) → j < k → k < 32 → At j e n → At k e n → ⊥
later_fails e n j k lt h a b =
    let p = (by_quarter j (omega arith) e n).0 a in
    elim (cases_order (j / 8) (k / 8)) [
      | inl same ↦
          let d = k - suc j in
          let on : suc j + d ≡ k = omega arith in
          let next : suc j / 8 ≡ j / 8 = omega arith in
          clash (side e n k) b.0 (coe 0 1 (i. side e n (on i) <ℤ pos 0)
          (falls_on e n (suc j) d (omega arith) (omega arith) (coe 1 0 (i. InQuadrant (next i) e n) p) a.1))
      | inr (inl less) ↦ one_quadrant e n (j / 8) (k / 8) less (omega arith) p ((by_quarter k h e n).0 b)
      | inr (inr more) ↦ absurd (omega arith)
    ]

at_of : (e n : ℤ) (k : ℕ) → IsTrue (lies_between (boundary k) (boundary (suc k)) (vector e n)) → At k e n
at_of e n k h = grind (arith, and_parts, side, le_yes)

pub one_sector : LawOf (λ (l : FieldLaws). l.one_sector)
one_sector e n j k p q = grind (arith, cases_order, later_fails, at_of)

-- ---- at least one sector

abbrev Crossing : ℤ → ℤ → ℕ → ℕ → Type 0
Crossing e n a b = (k : ℕ) × (a ≤ k) × (k < b) × At k e n

-- on a boundary or clockwise of it, and before a later one
crossing : (e n : ℤ) (a d : ℕ) → pos 0 ≤ℤ side e n a → side e n (a + d) <ℤ pos 0 → Crossing e n a (a + d)
crossing e n a zero h g =
    absurd (clash (side e n a) h (subst (λ (k : ℕ). side e n k <ℤ pos 0) (let is : a + zero ≡ a = omega arith in is) g))
crossing e n a (suc d) h g = by_lt_z {P = Crossing e n a (a + suc d)} (side e n (suc a)) (pos 0)
    (λ below. (a, omega arith, omega arith, (h, below))) (λ above.
    let on : a + suc d ≡ suc a + d = omega arith in
    let r = crossing e n (suc a) d above (coe 0 1 (i. side e n (on i) <ℤ pos 0) g) in
    (r.0, omega arith, omega arith, r.3))

in_quadrant : (e n : ℤ) (q : ℕ) → q < 4 → InQuadrant q e n → (k : ℕ) × IsSector e n k
in_quadrant e n q lt h = grind (arith, turns, crossing)

pub some_sector : (e n : ℤ) → ¬ ((e ≡ pos 0) × (n ≡ pos 0)) → (k : ℕ) × IsSector e n k
some_sector (pos zero) (pos zero) ne = absurd (ne (refl, refl))
some_sector (pos a) (pos (suc b)) ne = in_quadrant (pos a) (pos (suc b)) 0 (omega arith) (omega (arith, ints))
some_sector (pos (suc a)) (pos zero) ne = in_quadrant (pos (suc a)) (pos zero) 1 (omega arith) (omega (arith, ints))
some_sector (pos (suc a)) (negsuc b) ne = in_quadrant (pos (suc a)) (negsuc b) 1 (omega arith) (omega (arith, ints))
some_sector (pos zero) (negsuc b) ne = in_quadrant (pos zero) (negsuc b) 2 (omega arith) (omega (arith, ints))
some_sector (negsuc a) (negsuc b) ne = in_quadrant (negsuc a) (negsuc b) 2 (omega arith) (omega (arith, ints))
some_sector (negsuc a) (pos b) ne = in_quadrant (negsuc a) (pos b) 3 (omega arith) (omega (arith, ints))

-- ---- the computed sector

find_some : (p : ℕ → Bool) (xs : List ℕ) (d : ℕ) (Q : ℕ → Type 0) → Each Q xs → (k : ℕ) → has xs k ≡ true → p k ≡ true →
    Q (unwrap_or (find p xs) d) × (p (unwrap_or (find p xs) d) ≡ true)
find_some p [] d Q h k i e = absurd cc
find_some p (x ∷ xs) d Q h k i e =
    grind (arith, Each-tail, Each-head, cond_both, (find_some p xs d Q (Each-tail Q x xs h) k))

pub sector_is : LawOf (λ (l : FieldLaws). l.some_sector)
sector_is e n ne =
    let r = some_sector e n ne in
    find_some (λ k. lies_between (boundary k) (boundary (suc k)) (vector e n)) (up_to 32) 0 (λ k. k < 32)
    (up_to_below 32) r.0 (has_below 32 r.0 r.1.0) r.1.1
