-- A quarter turn of a direction turns its sector, so the sectors of one quarter determine those of the others.
use Rattle.olr_spec.proofs.Common.{◌≡◌, ℕ, zero, suc, ◌+◌, ◌*◌, ◌<◌, ℤ, pos, refl, sym, ap, ◌∙◌, subst, arith, Vector, vector}
use Rattle.olr_spec.proofs.Common.{IsSector, sector}
use Rattle.olr_bearing.specs.Turned.{turned}
use Rattle.olr_spec.proofs.SectorLemmas.{one_sector, sector_is, sector_turned}

-- ---- the sector of a direction

pub nowhere_sector : (e n : ℤ) → e ≡ pos 0 → n ≡ pos 0 → 0 ≡ sector e n
nowhere_sector e n p q = sym (ap (λ d. sector d n) p ∙ ap (sector (pos 0)) q)

-- ---- the four quarters, from the sector of the direction (a, b) in the first

-- k is the only sector of (e, n)
abbrev pub IsOnly : ℤ → ℤ → ℕ → Type 0
IsOnly e n k = (k ≡ sector e n) × IsSector e n k

-- each quarter turn adds 8 to the sector
turned_sector : (q : ℕ) (v : Vector) (k j : ℕ) → q < 4 → k < 8 → j ≡ q * 8 + k → IsSector v.east v.north k →
    IsSector (turned q v).east (turned q v).north j
turned_sector zero v k j few h is s = subst (IsSector v.east v.north) (let same : k ≡ j = omega arith in same) s
turned_sector (suc q) v k j few h is s = sector_turned (turned q v).east (turned q v).north _ _ j (q * 8 + k)
    (turned_sector q v k (q * 8 + k) (omega arith) h refl s) refl refl (omega arith) (omega arith)

pub quarter_is : (q : ℕ) (e n a b : ℤ) (k j : ℕ) → q < 4 → k < 8 → IsSector a b k → j ≡ q * 8 + k →
    e ≡ (turned q (vector a b)).east → n ≡ (turned q (vector a b)).north → ¬ ((e ≡ pos 0) × (n ≡ pos 0)) → IsOnly e n j
quarter_is q e n a b k j few h s is p r ne =
    let sector_j : IsSector e n j = coe 1 0 (i. IsSector (p i) (r i) j) (turned_sector q (vector a b) k j few h is s) in
    (one_sector e n j (sector e n) sector_j (sector_is e n ne), sector_j)
