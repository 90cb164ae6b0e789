-- Items of a record, read one after another.
--     onto x y      the items of x, followed by those of y
--     ItemsTo Returns view fs start k xs      the items of the fields from `start` up to k are read
use Rattle.olr_records.proofs.Common.{IfOk, IsOkAnd, append-nil, length-drop, ShapePoint, Field, Read, Bad_form, ◌⊛◌, items}
use Rattle.olr_records.proofs.Common.{point, shape, Gathers, ReadsBy, ReadFault, Memory, drop_all, Out_of_range, ⊤, ◌≡◌, ℕ, ◌+◌}
use Rattle.olr_records.proofs.Common.{◌<◌, ◌≤◌, List, [], ◌∷◌, ◌++◌, length, drop, Ok, Err, refl, sym, ap, ◌∙◌, append_assoc}
use Rattle.olr_records.proofs.Common.{arith, drop-cons, slice_index_or}
use Rattle.std.specs.Prelude.{Result}

abbrev pub onto : {A : Type 0} → Read (List A) → Read (List A) → Read (List A)
onto x y = Ok (λ xs ys. xs ++ ys) ⊛ x ⊛ y

pub onto-nothing : {A : Type 0} (x : Read (List A)) → onto x (Ok []) ≡ x
onto-nothing (Ok xs) = ap (λ ys. Ok ys) (append-nil xs)
onto-nothing (Err f) = refl

pub nothing-onto : {A : Type 0} (y : Read (List A)) → onto (Ok []) y ≡ y
nothing-onto (Ok ys) = refl
nothing-onto (Err f) = refl

pub onto-bad : {A : Type 0} (x : Read (List A)) → onto x (Err Bad_form) ≡ Err Bad_form
onto-bad (Err Bad_form) = refl
onto-bad x = refl

-- with one item more
onto_more : {A : Type 0} (x : Read (List A)) (p : Read A) (y : Read (List A))
    → onto (Ok (λ ts t. ts ++ t ∷ []) ⊛ x ⊛ p) y ≡ onto x (Ok (λ t ts. t ∷ ts) ⊛ p ⊛ y)
onto_more (Ok xs) (Ok a) (Ok ys) = ap (λ zs. Ok zs) (append_assoc xs (a ∷ []) ys)
onto_more (Err Bad_form) (Err g) (Err h) = refl
onto_more (Err Out_of_range) (Err g) (Err h) = refl
onto_more (Err f) (Err g) (Ok ys) = refl
onto_more (Err f) (Ok a) (Ok ys) = refl
onto_more (Err f) (Ok a) (Err g) = refl
onto_more (Ok xs) (Err f) (Ok ys) = refl
onto_more x p y = refl

-- the items read so far, and one more
abbrev pub with : {A : Type 0} → Read (List A) → Read A → Read (List A)
with x p = Ok (λ ts t. ts ++ t ∷ []) ⊛ x ⊛ p

-- the field at a position
abbrev pub at : List Field → ℕ → Field
at fs k = slice_index_or fs k []

short : (fs : List Field) → 0 < length fs → length fs < 3 → shape fs ≡ Err Bad_form
short [] some few = absurd (omega arith)
short (a ∷ b ∷ c ∷ fs) some few = absurd (omega arith)
short fs some few = refl

module _ (fs : List Field) (k : ℕ) where
  -- no field is left
  pub at_end : {A : Type 0} (of : List Field → Read (List A)) (x w : Read (List A)) → of [] ≡ Ok [] → length fs ≤ k →
      onto x (of (drop k fs)) ≡ w → x ≡ w
  at_end of x w none past e =
      sym (onto-nothing x) ∙ ap (λ y. onto x y) (sym none ∙ ap (λ y. of y) (sym (drop_all k fs past))) ∙ e

  module _ {A : Type 0} (one : Field → Read A) where
    items_next : k < length fs → items one (drop k fs) ≡ Ok (λ x xs. x ∷ xs) ⊛ one (at fs k) ⊛ items one (drop (k + 1) fs)
    items_next lt = grind (arith, drop-cons)

    pub items-more : (x w : Read (List A)) → k < length fs → onto x (items one (drop k fs)) ≡ w →
        onto (with x (one (at fs k))) (items one (drop (k + 1) fs)) ≡ w
    items-more x w lt e = grind (arith, onto_more, items_next)

  -- three fields, and those after them
  three : k + 3 ≤ length fs → drop k fs ≡ at fs k ∷ at fs (k + 1) ∷ at fs (k + 2) ∷ drop (k + 3) fs
  three few = grind (arith, drop-cons)

  over : k < length fs → length fs < k + 3 → shape (drop k fs) ≡ Err Bad_form
  over some few = short (drop k fs) (omega (arith, length-drop k fs)) (omega (arith, length-drop k fs))

  shape_next : k + 3 ≤ length fs → shape (drop k fs) ≡ Ok (λ p ps. p ∷ ps) ⊛ point (at fs k) (at fs (k + 1))
      (at fs (k + 2)) ⊛ shape (drop (k + 3) fs)
  shape_next few = rw (three few) refl

  pub shape-more : (x w : Read (List ShapePoint)) → k + 3 ≤ length fs → onto x (shape (drop k fs)) ≡ w
      → onto (with x (point (at fs k) (at fs (k + 1)) (at fs (k + 2)))) (shape (drop (k + 3) fs)) ≡ w
  shape-more x w few e = grind (arith, onto_more, shape_next)

  -- one or two fields are left over
  pub shape-over : (x w : Read (List ShapePoint)) → k < length fs → length fs < k + 3 → onto x (shape (drop k fs)) ≡ w →
      w ≡ Err Bad_form
  shape-over x w some few e = sym e ∙ ap (λ y. onto x y) (over some few) ∙ onto-bad x

-- ---- items of one field each

-- if the fields are read as `one` says, the items so far, with those of the fields not read yet, are all from `start` on
abbrev pub ItemsTo : {A B : Type 0} → (Field → Result B ReadFault → Type 0) → (A → List B) → List Field → ℕ → ℕ →
    Result A ReadFault → Type 0
ItemsTo {A} {B} Returns view fs start k xs =
    (one : Field → Read B) → ReadsBy Returns one → (x : Read (List B)) × Gathers (λ _. ⊤) view x xs
    × (onto x (items one (drop k fs)) ≡ items one (drop start fs))

-- ---- out of memory

okay : {B : Type 0} (P Q : B → Type 0) (x : Read B) → IfOk x Q → IsOkAnd x P → IsOkAnd x Q
okay P Q (Ok b) h m = h
okay P Q (Err f) h m = absurd m

-- it is returned only by what takes memory
pub gathers-only : {A B : Type 0} (P Q : B → Type 0) (view : A → B) (x : Read B) (r : Result A ReadFault) → IfOk x Q →
    Gathers P view x r → Gathers Q view x r
gathers-only P Q view x (Err Memory) h g = okay P Q x h g
gathers-only P Q view x r h g = g

one_more : {A : Type 0} (p : Read A) (ps : Read (List A)) → IfOk (Ok (λ p ps. p ∷ ps) ⊛ p ⊛ ps) (λ qs. 0 < length qs)
one_more (Ok a) (Ok bs) = omega arith
one_more (Err f) (Ok bs) = tt
one_more p ps = tt

-- fields in threes are at least one shape point
pub some-points : (fs : List Field) → 0 < length fs → IfOk (shape fs) (λ ps. 0 < length ps)
some-points [] some = absurd (omega arith)
some-points (at ∷ lon ∷ lat ∷ fs) some = one_more (point at lon lat) (shape fs)
some-points fs some = tt
