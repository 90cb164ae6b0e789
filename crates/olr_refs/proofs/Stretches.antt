-- Legs of joined lines: they are routes, and one leg begins where another ends.
use Rattle.olr_refs.proofs.Common.{◌≡◌, ◌<◌, ◌≤◌, ◌-◌, ◌+◌, ℕ, List, ◌++◌, length, take, sym, ap, ◌∙◌, arith, slice_index, Map}
use Rattle.olr_refs.proofs.Common.{dm_of, stretch, dm_of-append, stretch_parts, DistancesTo, take-add}

-- ---- lengths

pub dm_stretch : (M : Map) (ls ds : List ℕ) (i j : ℕ) → DistancesTo M ls (length ls) ds → i ≤ j → j ≤ length ls →
    slice_index ds j ≡ slice_index ds i + dm_of M (stretch ls i j)
dm_stretch M ls ds i j d h g =
    let front : take j ls ≡ take i ls ++ stretch ls i j =
    let n : i + (j - i) ≡ j = omega arith in ap (λ (k : ℕ). take k ls) (sym n) ∙ take-add i (j - i) ls in
    d.each j g ∙ ap (dm_of M) front ∙ dm_of-append M (take i ls) (stretch ls i j)
    ∙ ap (λ (n : ℕ). n + dm_of M (stretch ls i j)) (sym (d.each i (omega arith)))

-- and its parts are no longer than a leg
pub stretch_sum : (M : Map) (ls : List ℕ) (i j k : ℕ) → i ≤ j → j ≤ k →
    dm_of M (stretch ls i k) ≡ dm_of M (stretch ls i j) + dm_of M (stretch ls j k)
stretch_sum M ls i j k h g =
    ap (dm_of M) (stretch_parts ls i j k h g) ∙ dm_of-append M (stretch ls i j) (stretch ls j k)

pub distances_rise : (M : Map) (ls ds : List ℕ) → DistancesTo M ls (length ls) ds → (j k : ℕ) → j ≤ k → k < length ds →
    slice_index ds j ≤ slice_index ds k
distances_rise M ls ds d j k h g = let l = d.long in let e = dm_stretch M ls ds j k d h (omega arith) in omega arith
