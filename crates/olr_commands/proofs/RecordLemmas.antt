-- Lines of fields, appended one after another.
use Rattle.olr_commands.proofs.Common.{decimal, join_with_byte, ShapePoint, after_commas, fields_of_shape}
use Rattle.std.proofs.Common.{arith, ◌≡◌, ℕ, ◌+◌, ◌<◌, List, [], ◌∷◌, ◌++◌, length, take, get_or, map, refl, sym, ap}
use Rattle.std.proofs.Common.{append_assoc}
use Rattle.std.proofs.lemmas.List.{append-nil, map-append, take_more}
use Rattle.olr_commands.specs.RecordText.{fields_line, fields_of_coord}

pub joined : (f : List ℕ) (fs : List (List ℕ)) → join_with_byte 44 (f ∷ fs) ≡ f ++ after_commas fs
joined f [] = sym (append-nil f)
joined f (g ∷ gs) = ap (λ (r : List ℕ). f ++ 44 ∷ r) (joined g gs)

pub commas_two : (t a b : List ℕ) → (t ++ 44 ∷ a) ++ 44 ∷ b ≡ t ++ after_commas (a ∷ b ∷ [])
commas_two t a b = simp (append_assoc, append-nil) refl

pub commas_three : (t a b c : List ℕ) (fs : List (List ℕ)) →
    (((t ++ 44 ∷ a) ++ 44 ∷ b) ++ 44 ∷ c) ++ after_commas fs ≡ t ++ after_commas (a ∷ b ∷ c ∷ fs)
commas_three t a b c fs = grind (arith, append_assoc)

-- a record of a word and two fields
pub line_of_two : (t w a b : List ℕ) → (((t ++ w) ++ 44 ∷ a) ++ 44 ∷ b) ++ 10 ∷ [] ≡ t ++ fields_line (w ∷ a ∷ b ∷ [])
line_of_two t w a b = simp append_assoc refl

-- a record of a word, three fields and more
pub line_of_three : (t w a b c : List ℕ) (fs : List (List ℕ)) →
    (((((t ++ w) ++ 44 ∷ a) ++ 44 ∷ b) ++ 44 ∷ c) ++ after_commas fs) ++ 10 ∷ []
    ≡ t ++ fields_line (w ∷ a ∷ b ∷ c ∷ fs)
line_of_three t w a b c fs = grind (arith, append_assoc, joined)

commas_append : (fs gs : List (List ℕ)) → after_commas (fs ++ gs) ≡ after_commas fs ++ after_commas gs
commas_append [] gs = refl
commas_append (f ∷ fs) gs = grind (arith, append_assoc, commas_append fs gs)

shape_append : (ss rs : List ShapePoint) → fields_of_shape (ss ++ rs) ≡ fields_of_shape ss ++ fields_of_shape rs
shape_append [] rs = refl
shape_append (s ∷ ss) rs = grind (arith, shape_append ss rs)

pub numbers_more : (t xs : List ℕ) (k d : ℕ) → k < length xs
    → (t ++ after_commas (map decimal (take k xs))) ++ 44 ∷ decimal (get_or xs k d)
    ≡ t ++ after_commas (map decimal (take (k + 1) xs))
numbers_more t xs k d lt = grind (arith, take_more xs k d lt, map-append, commas_append, append_assoc, append-nil)

-- s is the point at position k
pub points_more : (t : List ℕ) (ss : List ShapePoint) (k : ℕ) (d s : ShapePoint) → s ≡ get_or ss k d → k < length ss
    → ((t ++ after_commas (fields_of_shape (take k ss))) ++ 44 ∷ decimal s.at) ++ after_commas (fields_of_coord s.place)
    ≡ t ++ after_commas (fields_of_shape (take (k + 1) ss))
points_more t ss k d s is lt = grind (arith, take_more ss k d lt, shape_append, commas_append, append_assoc)
