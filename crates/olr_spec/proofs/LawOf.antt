-- The type of a law, by its field in the record of the laws of a subject.

abbrev pub LawOf : {A B : Type 0} → (A → B) → Type 0
LawOf {A} {B} law = B
