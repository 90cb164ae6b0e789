-- Lines of a path as a map has them.
use Rattle.olr_refs.proofs.Common.{arith, ◌≡◌, ◌<◌, ℕ, List, [], ◌∷◌, ◌++◌, length, get_or, refl, sym, ap, ◌∙◌, subst}
use Rattle.olr_refs.proofs.Common.{get_or-map, length-map, map-append, slice_index, Map, ResolvedLine, record_of, records_of}
use Rattle.olr_refs.proofs.Common.{ids, AreRecords, Some, slice_get}
use Rattle.std.proofs.lemmas.Option.{get_or_from_slice_get, slice_get_within}

-- the record of line k
pub record_at : (M : Map) (slot : ℕ → ℕ) (ls : List ℕ) (rs : List ResolvedLine) (k : ℕ) (d : ResolvedLine) → rs ≡ records_of M slot ls →
    k < length ls → get_or rs k d ≡ record_of M slot (slice_index ls k)
record_at M slot ls rs k d e h = ap (λ (xs : List ResolvedLine). get_or xs k d) e ∙ get_or-map (record_of M slot) ls k 0 d h

pub records_length : (M : Map) (slot : ℕ → ℕ) (ls : List ℕ) (rs : List ResolvedLine) → rs ≡ records_of M slot ls → length rs ≡ length ls
records_length M slot ls rs e = ap (λ (xs : List ResolvedLine). length xs) e ∙ length-map ls (record_of M slot)

-- ---- the numbers of the lines

pub some_ids : (rs : List ResolvedLine) → 0 < length rs → 0 < length (ids rs)
some_ids rs h = subst (λ (n : ℕ). 0 < n) (sym (length-map rs (λ (r : ResolvedLine). r.id))) h

pub ids_are : (M : Map) (slot : ℕ → ℕ) (ls : List ℕ) (rs : List ResolvedLine) → rs ≡ records_of M slot ls → ids rs ≡ ls
ids_are M slot ls rs e = ap ids e ∙ same ls
  where
    same : (ls : List ℕ) → ids (records_of M slot ls) ≡ ls
    same [] = refl
    same (x ∷ ls) = ap (λ (xs : List ℕ). x ∷ xs) (same ls)

pub are_records : (M : Map) (slot : ℕ → ℕ) (ls : List ℕ) (rs : List ResolvedLine) → rs ≡ records_of M slot ls → AreRecords M slot rs
are_records M slot ls rs e = e ∙ ap (records_of M slot) (sym (ids_are M slot ls rs e))

pub records_append : (M : Map) (slot : ℕ → ℕ) (rs ss : List ResolvedLine) → AreRecords M slot rs → AreRecords M slot ss → AreRecords M slot (rs ++ ss)
records_append M slot rs ss r s = grind (arith, map-append, record_of, ids, records_of)

-- where one of them ends
pub end_placed : (M : Map) (slot : ℕ → ℕ) (rs : List ResolvedLine) (k : ℕ) (r : ResolvedLine) → AreRecords M slot rs →
    slice_get rs k ≡ Some r → slot r.to ≡ r.to_slot
end_placed M slot rs k r are at =
    let low : k < length (ids rs) =
    subst (λ (n : ℕ). k < n) (sym (length-map rs (λ (x : ResolvedLine). x.id))) (slice_get_within rs k r at) in
    let is : record_of M slot (slice_index (ids rs) k) ≡ r =
    sym (record_at M slot (ids rs) rs k r are low) ∙ get_or_from_slice_get rs k r r at in
    subst (λ (x : ResolvedLine). slot x.to ≡ x.to_slot) is refl
