-- What stands behind the text of an opened log.
use Rattle.olr_log.proofs.Common.{◌≡◌, inl, inr, ℕ, suc, ◌+◌, ◌-◌, ◌≤◌, ◌<◌, [], ◌∷◌, drop, refl, sym, ◌∙◌, ap, ◌==◌, ◌&&◌}
use Rattle.olr_log.proofs.Common.{zero, true, false, List, ◌++◌, length, take, get_or, arith, ne_eqb, is_empty, is_native, IsFound}
use Rattle.olr_log.proofs.Common.{length-drop, length-take, if◌then◌else◌, cases_Bool, cond-false, get_or-drop, length-take-le}
use Rattle.olr_log.proofs.Common.{cases_lt, and_parts, and_left, and_right, cond-true, eqb-true, drop_all, drop-drop, drop-take}
use Rattle.olr_log.specs.Texts.{unpadded, left_behind, text_of}

empty_size : (x : List ℕ) → is_empty x ≡ true → length x ≡ 0
empty_size [] is = refl
empty_size (b ∷ x) is = absurd (cc is)

-- with one byte more
pub unpadded_return : (x : List ℕ) → unpadded (x ++ 13 ∷ []) ≡ unpadded x
unpadded_return [] = refl
unpadded_return (b ∷ x) = ap (λ (y : List ℕ). if b == 13 && is_empty y then [] else b ∷ y) (unpadded_return x)

pub unpadded_other : (x : List ℕ) (b : ℕ) → (b ≡ 13 → ⊥) → unpadded (x ++ b ∷ []) ≡ x ++ b ∷ []
unpadded_other [] b other = cond-false _ _ _ (and_left (b == 13) true (ne_eqb b 13 other))
unpadded_other (a ∷ x) b other =
    ap (λ (y : List ℕ). if a == 13 && is_empty y then [] else a ∷ y) (unpadded_other x b other) ∙ cond-false _ _ _ (and_right (a == 13) (is_empty (x ++ b ∷ [])) (some x))
  where
    some : (y : List ℕ) → is_empty (y ++ b ∷ []) ≡ false
    some [] = refl
    some (c ∷ y) = refl

-- behind it there are none but carriage returns
unpadded_behind : (x : List ℕ) (i : ℕ) → length (unpadded x) ≤ i → i < length x → get_or x i 0 ≡ 13
unpadded_behind [] i above below = absurd (omega arith)
unpadded_behind (b ∷ x) zero above below = elim (cases_Bool (b == 13 && is_empty (unpadded x))) [
  | inl none ↦ eqb-true b 13 (and_parts (b == 13) (is_empty (unpadded x)) none).0
  | inr some ↦ let size : length (unpadded (b ∷ x)) ≡ suc (length (unpadded x)) = ap length (cond-false _ _ _ some) in absurd (omega (arith, size))
]
unpadded_behind (b ∷ x) (suc i) above below = unpadded_behind x i short (omega arith)
  where
    short : length (unpadded x) ≤ i
    short = elim (cases_Bool (b == 13 && is_empty (unpadded x))) [
      | inl none ↦ omega (arith, empty_size (unpadded x) (and_parts (b == 13) (is_empty (unpadded x)) none).1)
      | inr some ↦ let size : length (unpadded (b ∷ x)) ≡ suc (length (unpadded x)) = ap length (cond-false _ _ _ some) in omega (arith, size)
    ]

pub returns_from : (last : ℕ) (file : List ℕ) → last + 1 ≤ length file → unpadded (drop 1 file) ≡ take last (drop 1 file) → (i : ℕ) → last + 1 ≤ i → i < length file → get_or file i 0 ≡ 13
returns_from last file reach is i above below =
    let size = length-drop 1 file in
    let place : 1 + (i - 1) ≡ i = omega arith in
    let short : length (unpadded (drop 1 file)) ≡ last = ap length is ∙ length-take-le last (drop 1 file) (omega (arith, size)) in
    sym (ap (λ (j : ℕ). get_or file j 0) place) ∙ sym (get_or-drop 1 file (i - 1) 0) ∙ unpadded_behind (drop 1 file) (i - 1) (omega (arith, short)) (omega (arith, size))

-- a part of it
unpadded_drop : (n : ℕ) (x : List ℕ) → unpadded (drop n x) ≡ drop n (unpadded x)
unpadded_drop zero x = refl
unpadded_drop (suc n) [] = refl
unpadded_drop (suc n) (b ∷ x) = unpadded_drop n x ∙ elim (cases_Bool (b == 13 && is_empty (unpadded x))) [
  | inl none ↦
      drop_all n (unpadded x) (omega (arith, empty_size (unpadded x) (and_parts (b == 13) (is_empty (unpadded x)) none).1)) ∙ sym (ap (λ (y : List ℕ). drop (suc n) y) (cond-true _ _ _ none))
  | inr some ↦ sym (ap (λ (y : List ℕ). drop (suc n) y) (cond-false _ _ _ some))
]

part_of_front : (n m : ℕ) (x : List ℕ) → drop n (take m x) ≡ take (m - n) (drop n x)
part_of_front n m x = elim (cases_lt n m) [
  | inl less ↦ let e : n + (m - n) ≡ m = omega arith in sym (ap (λ (j : ℕ). drop n (take j x)) e) ∙ drop-take n (m - n) x
  | inr more ↦ let none : m - n ≡ 0 = omega arith in drop_all n (take m x) (omega (arith, length-take m x)) ∙ sym (ap (λ (j : ℕ). take j (drop n x)) none)
]

-- what stands behind the text of a file that was found
pub found_left : (n last : ℕ) (file : List ℕ) → IsFound n last file → take (last - n) (drop (n + 1) file) ≡ left_behind file
unfolding left_behind text_of
found_left n last file found =
    let place : 1 + n ≡ n + 1 = omega arith in
    let size : length (text_of file) ≡ n = ap length (cond-true _ _ _ found.text.kind ∙ found.text.text) ∙ length-take-le n (drop 1 file) (omega (arith, length-drop 1 file, found.text.within)) in
    sym (cond-true _ _ _ found.text.kind ∙ ap (λ (j : ℕ). unpadded (drop j (drop 1 file))) size ∙ unpadded_drop n (drop 1 file) ∙ ap (λ (x : List ℕ). drop n x) found.rest
    ∙ part_of_front n last (drop 1 file) ∙ ap (λ (x : List ℕ). take (last - n) x) (drop-drop n 1 file ∙ ap (λ (j : ℕ). drop j file) place))

pub foreign_left : (file : List ℕ) → is_native file ≡ false → left_behind file ≡ []
unfolding left_behind
foreign_left file foreign = cond-false _ _ _ foreign
