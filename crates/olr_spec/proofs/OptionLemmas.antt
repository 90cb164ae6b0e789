-- Options with and without a value, and results that are Ok.
use Rattle.olr_spec.proofs.Common.{is_some, Option, Result, IsSome, arith, false, subst, Some, None, refl, IsOk, ◌≡◌, sym, Ok, ap}

pub some_of : {A : Type 0} (o : Option A) → IsSome o → (x : A) × (o ≡ Some x)
some_of o h = grind arith

pub is_some_of : {A : Type 0} (o : Option A) (x : A) → o ≡ Some x → IsSome o
is_some_of o x e = ap (λ p. is_some p) e

pub none_of : {A : Type 0} (o : Option A) → is_some o ≡ false → o ≡ None
none_of o h = grind arith

-- an option with a value isn't None
pub there_not : {A : Type 0} (o : Option A) → IsSome o → o ≡ None → ⊥
there_not o h e = let f : is_some o ≡ false = ap (λ p. is_some p) e in cc

pub is_ok_of : {A F : Type 0} (r : Result A F) (x : A) → r ≡ Ok x → IsOk r
is_ok_of {A} {F} r x e = subst (λ (s : Result A F). IsOk s) (sym e) refl
