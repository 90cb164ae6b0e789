-- Two parts of one record, where reading one of them or both may take memory.
--     Part P view x r      r is x, seen through `view`, or out of memory, only if the value of x satisfies P
use Rattle.olr_records.proofs.Common.{IsOkAnd, Field, Read, ◌⊛◌, Reads, Gathers, ReadFault, Memory, both, arith, ◌≡◌, Ok, Err}
use Rattle.olr_records.proofs.Common.{Result, sym, ap, subst}

pub record Part {A B : Type 0} (P : B → Type 0) (view : A → B) (x : Read B) (r : Result A ReadFault) : Type 0 where
  pub is : Gathers P view x r

abbrev pub Never : {A : Type 0} → A → Type 0
Never a = ⊥

no_memory : {A B : Type 0} (P : B → Type 0) (view : A → B) (x : Read B) (r : Result A ReadFault) → Reads view x r →
    Gathers P view x r
no_memory P view x (Err Memory) h = absurd h
no_memory P view x r h = h

-- a field, which takes no memory
pub of_field : {A B : Type 0} (read : Field → Read B) (view : A → B) (f g : Field) (r : Result A ReadFault) → f ≡ g →
    Reads view (read f) r → Part Never view (read g) r
of_field read view f g r e h =
    record { is = no_memory Never view (read g) r (subst (λ (k : Field). Reads view (read k) r) e h) }

made_of : {A Y Z : Type 0} (P : Y → Type 0) (R : Z → Type 0) (g : Y → Z) (v : A → Y) (y : Read Y) (r : Result A ReadFault) →
    ((b : Y) → P b → R (g b)) → Gathers P v y r → Gathers R (λ a. g (v a)) (Ok g ⊛ y) r
made_of P R g v (Ok b) (Err Memory) makes h = makes b h
made_of P R g v (Err f) (Err Memory) makes h = h
made_of P R g v y r makes h = ap (λ (q : Read _). Ok g ⊛ q) h

-- one part, converted
pub made : {A Y Z : Type 0} {P : Y → Type 0} {v : A → Y} {y : Read Y} {r : Result A ReadFault} (R : Z → Type 0) (g : Y → Z) →
    Part P v y r → ((b : Y) → P b → R (g b)) → Part R (λ a. g (v a)) (Ok g ⊛ y) r
made {A} {Y} {Z} {P} {v} {y} {r} R g h makes = record { is = made_of P R g v y r makes h.is }

-- ---- two parts

module _ {A B Y Z : Type 0} (P : (Y → Z) → Type 0) (Q : Y → Type 0) (R : Z → Type 0) (u : A → Y → Z) (v : B → Y) where
  reported : (x : Read (Y → Z)) (y : Read Y) (r : Result A ReadFault) (s : Result B ReadFault) →
      ((g : Y → Z) (b : Y) → P g → R (g b)) → ((a : A) (b : Y) → Q b → R (u a b))
      → Gathers P u x r → Gathers Q v y s → Gathers R (λ p. u p.0 (v p.1)) (x ⊛ y) (both r s)
  reported (Err f) y (Err Memory) s first second h k = absurd h
  reported (Ok g) (Ok b) (Err Memory) (Err Memory) first second h k = first g b h
  reported (Ok g) y (Err Memory) (Ok b) first second h k = grind arith
  reported x (Err f) r (Err Memory) first second h k = absurd k
  reported (Ok g) y (Err Memory) s first second h k = ap (λ (q : Read Y). Ok g ⊛ q) k
  reported x (Ok b) (Ok a) (Err Memory) first second h k =
      subst (λ (q : Read (Y → Z)). IsOkAnd (q ⊛ Ok b) R) (sym h) (second a b k)
  reported x (Ok b) r (Err Memory) first second h k = ap (λ (q : Read (Y → Z)). q ⊛ Ok b) h
  reported x y r s first second h k = (λ i. h i ⊛ k i)

-- the results of both
pub joins : {A B Y Z : Type 0} {P : (Y → Z) → Type 0} {Q : Y → Type 0} {u : A → Y → Z} {v : B → Y} {x : Read (Y → Z)}
    {y : Read Y} {r : Result A ReadFault} {s : Result B ReadFault} {q : Result (A × B) ReadFault} (R : Z → Type 0) → q ≡ both r s →
    Part P u x r → Part Q v y s → ((g : Y → Z) (b : Y) → P g → R (g b)) → ((a : A) (b : Y) → Q b → R (u a b)) →
    Part R (λ p. u p.0 (v p.1)) (x ⊛ y) q
joins {A} {B} {Y} {Z} {P} {Q} {u} {v} {x} {y} {r} {s} {q} R is h k first second =
    record {
      is = subst (λ (t : Result (A × B) ReadFault). Gathers R (λ p. u p.0 (v p.1)) (x ⊛ y) t) (sym is)
          (reported P Q R u v x y r s first second h.is k.is);
    }

-- and a fault that is passed on
handed : {A C B : Type 0} (P : B → Type 0) (view : A → B) (query : C → B) (x : Read B) (f : ReadFault) →
    Gathers P view x (Err f) → Gathers P query x (Err f)
handed P view query x Memory h = h
handed P view query x f h = h

pub passed_on : {A B C : Type 0} {P : B → Type 0} {view : A → B} {x : Read B} {r : Result A ReadFault} (query : C → B)
    (q : Result C ReadFault) (f : ReadFault) → r ≡ Err f → q ≡ Err f → Part P view x r → Gathers P query x q
passed_on {A} {B} {C} {P} {view} {x} {r} query q f is that h =
    subst (λ (t : Result C ReadFault). Gathers P query x t) (sym that)
    (handed P view query x f (subst (λ (t : Result A ReadFault). Gathers P view x t) is h.is))
