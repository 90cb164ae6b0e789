-- LRPs decoded from their bytes.
use Rattle.olr_binary.proofs.Common.{◌≡◌, zero, suc, ◌+◌, ◌≤◌, ◌*◌, List, [], ◌∷◌, ◌++◌, length, drop, slice_index, slice_range}
use Rattle.olr_binary.proofs.Common.{refl, sym, ap, ◌∙◌, arith, flat_map, First, Middle, Reference, first_bytes, middle_bytes}
use Rattle.olr_binary.proofs.Common.{last_bytes, reference_bytes, status_byte, part, stretch_parts}
use Rattle.olr_spec.proofs.Common.{◌<◌, ℕ, drop-cons, drop_all, signed16, signed24, attr_bytes}
use Rattle.std.proofs.lemmas.List.Concat.{flat_map-append}
use Rattle.std.proofs.lemmas.Slice.{between_to_end}

pub part-drop : (i n : ℕ) (xs : List ℕ) → length xs ≡ i + n → part i n xs ≡ drop i xs
part-drop i zero xs e = sym (drop_all i xs (omega arith))
part-drop i (suc n) xs e = grind (arith, drop-cons, part-drop (suc i) n xs)

pub first_bytes-parts : (p : First) (bs : List ℕ) → length bs ≡ 9 → signed24 p.lon ≡ part 0 3 bs →
    signed24 p.lat ≡ part 3 3 bs → attr_bytes p.attrs ≡ part 6 3 bs → first_bytes p ≡ bs
first_bytes-parts p bs nine lon lat attrs = (λ i. lon i ++ lat i ++ attrs i) ∙ part-drop 0 9 bs nine

pub middle_bytes-parts : (p : Middle) (bs : List ℕ) → length bs ≡ 7 → signed16 p.dlon ≡ part 0 2 bs →
    signed16 p.dlat ≡ part 2 2 bs → attr_bytes p.attrs ≡ part 4 3 bs → middle_bytes p ≡ bs
middle_bytes-parts p bs seven lon lat attrs = (λ i. lon i ++ lat i ++ attrs i) ∙ part-drop 0 7 bs seven

-- one more LRP between the first and the last
pub flat_map-push : (b : List ℕ) (i : ℕ) (ps : List Middle) (p : Middle) →
    flat_map middle_bytes ps ≡ slice_range b 10 (10 + 7 * i) →
    middle_bytes p ≡ slice_range b (10 + 7 * i) (10 + 7 * i + 7)
    → flat_map middle_bytes (ps ++ p ∷ []) ≡ slice_range b 10 (10 + 7 * (i + 1))
flat_map-push b i ps p before here =
    let next : 10 + 7 * i + 7 ≡ 10 + 7 * (i + 1) = omega arith in
    let joined : flat_map middle_bytes ps ++ middle_bytes p ≡ slice_range b 10 (10 + 7 * i + 7) =
    (λ j. before j ++ here j) ∙ sym (stretch_parts b 10 (10 + 7 * i) (10 + 7 * i + 7) (omega arith) (omega arith)) in
    flat_map-append middle_bytes ps (p ∷ []) ∙ joined ∙ ap (λ (n : ℕ). slice_range b 10 n) next

head_of : (b : List ℕ) → 0 < length b → slice_range b 0 1 ≡ slice_index b 0 ∷ []
head_of [] some = absurd (omega arith)
head_of (x ∷ xs) some = refl

-- the parts together are the bytes of the reference
pub reference_bytes-parts : (b : List ℕ) (m : ℕ) (r : Reference) → 10 + 7 * m ≤ length b →
    slice_index b 0 ≡ status_byte →
    first_bytes r.first ≡ slice_range b 1 10
    → flat_map middle_bytes r.middle ≡ slice_range b 10 (10 + 7 * m) →
    last_bytes r.last r.pos r.neg ≡ slice_range b (10 + 7 * m) (length b) → b ≡ reference_bytes r
reference_bytes-parts b m r long state first middle last =
    let k = 10 + 7 * m in
    let head : slice_range b 0 1 ≡ status_byte ∷ [] = head_of b (omega arith) ∙ ap (λ (x : ℕ). x ∷ []) state in
    let to_ten = sym (stretch_parts b 0 1 10 (omega arith) (omega arith)) in
    let to_last = sym (stretch_parts b 0 10 k (omega arith) (omega arith)) in
    let to_end = sym (stretch_parts b 0 k (length b) (omega arith) long) in
    let whole : slice_range b 0 1 ++ slice_range b 1 10 ++ slice_range b 10 k ++ slice_range b k (length b) ≡ b =
    (λ i. to_ten i ++ slice_range b 10 k ++ slice_range b k (length b)) ∙ (λ i. to_last i ++ slice_range b k (length b))
    ∙ to_end ∙ between_to_end b 0 (length b) (omega arith)
    in
    sym whole ∙ (λ i. head i ++ (sym first) i ++ (sym middle) i ++ (sym last) i)
