-- The entries of the queue before and after a push and a pop.
use Rattle.olr_search.proofs.Common.{◌≡◌, ℕ, ◌<◌, ◌≤◌, ◌⊎◌, [], ◌∷◌, sym, ap, ◌∙◌, inl, inr, ◌/◌, ◌%◌, ◌^◌, Some, List, Contains}
use Rattle.olr_search.proofs.Common.{subst, arith, refl, queue_key, IsUpperBound, false, lt_by_cmp, nat_eq_equiv, IsPermutation}
use Rattle.olr_search.proofs.Common.{Contains-permutation, Contains-one, Contains-here, IsPermutation-sym, ne_eqb}
use Rattle.olr_search.proofs.Common.{Contains-append_cases, Contains-append_right, IsDistinct-IsPermutation, All-contains_itself}
use Rattle.std.proofs.lemmas.Map.Keys.{ge_from_not_lt, IsDistinct-cons, IsDistinct-head, IsDistinct-tail}
use Rattle.std.specs.Prelude.{None, Ok, Err, Option, Result, IfSome, IfNone, OnOk, OnErr}
use Rattle.std.specs.declared.cmp.Reverse.{Reverse}
use Rattle.std.proofs.lemmas.Nat.{div-mul-add, mod-mul-add}
use Rattle.olr_search.specs.Entries.{entry_cmp, entry_eq}
use Rattle.std.proofs.lemmas.List.Elements.{All-contains, All-from_recursion, All-weaker, recursion_from_All}
use Rattle.std.specs.List.{AllByRecursion, IsDistinct}

abbrev pub Entry : Type 0
Entry = Reverse ℕ

-- an entry is still there after a pop, or is the removed one
pub popped_or : {X : Type 0} → (xs ys : List X) (x y : X) → IsPermutation xs (x ∷ ys) → Contains xs y → Contains ys y
    ⊎ (y ≡ x)
popped_or xs ys x y perm w = elim (Contains-append_cases (x ∷ []) ys y (Contains-permutation xs (x ∷ ys) y perm w)) [
  | inl h ↦ inr (Contains-one x y h)
  | inr h ↦ inl h
]

pub popped_others : (xs ys : List Entry) (x : Entry) (d p : ℕ) → p < 2 ^ 32 → IsPermutation xs (x ∷ ys) →
    Contains xs (record { 0 = queue_key d p }) → Contains ys (record { 0 = queue_key d p })
    ⊎ ((d ≡ x.0 / 2 ^ 32) × (p ≡ x.0 % 2 ^ 32))
popped_others xs ys x d p small perm w = elim (popped_or xs ys x (record { 0 = queue_key d p }) perm w) [
  | inl h ↦ inl h
  | inr e ↦ inr (
    sym (div-mul-add d (2 ^ 32) p small) ∙ ap (λ (y : Entry). y.0 / 2 ^ 32) e,
    sym (mod-mul-add d (2 ^ 32) p small) ∙ ap (λ (y : Entry). y.0 % 2 ^ 32) e,
  )
]

low_from_greatest : (x : Entry) (ys : List Entry) → IsUpperBound entry_cmp x ys → (y : Entry) → Contains ys y →
    x.0 ≤ y.0
low_from_greatest x ys h y w =
    let Above : Entry → Type 0 = λ z. lt_by_cmp entry_cmp x z ≡ false in
    ge_from_not_lt y.0 x.0 (All-contains Above ys y (All-from_recursion Above ys h) w)

-- the removed entry has the least length
pub popped_least : (xs ys : List Entry) (x : Entry) (d p : ℕ) → p < 2 ^ 32 → IsPermutation xs (x ∷ ys) →
    IsUpperBound entry_cmp x ys → Contains xs (record { 0 = queue_key d p }) → x.0 / 2 ^ 32 ≤ d
popped_least xs ys x d p small perm top w = elim (popped_others xs ys x d p small perm w) [
  | inl h ↦ let le = low_from_greatest x ys top (record { 0 = queue_key d p }) h in omega arith
  | inr is ↦ omega arith
]

pub pushed_kept : {X : Type 0} → (xs ys : List X) (x y : X) → IsPermutation (x ∷ xs) ys → Contains xs y → Contains ys y
pushed_kept xs ys x y perm w = Contains-permutation (x ∷ xs) ys y perm (Contains-append_right (x ∷ []) xs y w)

pub pushed_there : {X : Type 0} → (xs ys : List X) (x : X) → IsPermutation (x ∷ xs) ys → Contains ys x
pushed_there xs ys x perm = Contains-permutation (x ∷ xs) ys x perm (0, omega arith, refl)

-- ---- each entry once

entry_flips : (x y : Entry) → entry_eq x y ≡ entry_eq y x
entry_flips x y = nat_eq_equiv.symm x.0 y.0

-- the entries that differ from one are those that it is not
others_differ : (x : Entry) (xs : List Entry) → ¬ Contains xs x → AllByRecursion (λ y. entry_eq x y ≡ false) xs
others_differ x xs none =
    recursion_from_All (λ y. entry_eq x y ≡ false) xs (All-weaker (Contains xs) (λ y. entry_eq x y ≡ false)
    (λ y there. ne_eqb x.0 y.0 (λ same. none (subst (Contains xs) (λ i. record { 0 = sym same i }) there))) xs
    (All-contains_itself xs))

pub none_once : (xs : List Entry) → xs ≡ [] → IsDistinct entry_eq xs
unfolding IsDistinct
none_once xs none = subst (IsDistinct entry_eq) (sym none) tt

-- a push of a new entry, which may fail
pub pushed_once : {E : Type 0} (Q : Type 0) (r : Result Unit E) (xs ys : List Entry) (x : Entry) (d p : ℕ) → x.0 ≡ queue_key d p →
    OnOk r (IsPermutation (x ∷ xs) ys) → OnErr r ((ys ≡ xs) × Q) → ¬ Contains xs (record { 0 = queue_key d p }) →
    IsDistinct entry_eq xs → IsDistinct entry_eq ys
pushed_once Q (Ok _) xs ys x d p is perm same none once =
    IsDistinct-IsPermutation entry_eq entry_flips (x ∷ xs) ys perm
    (IsDistinct-cons entry_eq x xs
    (others_differ x xs (λ c. none (subst (Contains xs) (λ i. record { 0 = is i }) c))) once)
pushed_once Q (Err _) xs ys x d p is perm same none once = subst (IsDistinct entry_eq) (sym same.0) once

pub pushed_added : (xs ys : List Entry) (x : Entry) (e s d p : ℕ) → x.0 ≡ queue_key e s → s < 2 ^ 32 → p < 2 ^ 32 →
    IsPermutation (x ∷ xs) ys → Contains ys (record { 0 = queue_key d p }) →
    Contains xs (record { 0 = queue_key d p }) ⊎ ((d ≡ e) × (p ≡ s))
pushed_added xs ys x e s d p is narrow small perm w =
    elim (popped_others ys xs x d p small (IsPermutation-sym (x ∷ xs) ys perm) w) [
      | inl h ↦ inl h
      | inr k ↦ inr (
        k.0 ∙ ap (λ (n : ℕ). n / 2 ^ 32) is ∙ div-mul-add e (2 ^ 32) s narrow,
        k.1 ∙ ap (λ (n : ℕ). n % 2 ^ 32) is ∙ mod-mul-add e (2 ^ 32) s narrow,
      )
    ]

-- a pop
popped_all : (xs ys : List Entry) (x : Entry) → IsPermutation xs (x ∷ ys) → IsDistinct entry_eq xs →
    IsDistinct entry_eq (x ∷ ys)
popped_all xs ys x perm once = IsDistinct-IsPermutation entry_eq entry_flips xs (x ∷ ys) perm once

pub popped_once : (Q : Type 0) (r : Option Entry) (xs ys : List Entry) → IfSome r (λ x. IsPermutation xs (x ∷ ys)) →
    IfNone r ((ys ≡ xs) × Q) → IsDistinct entry_eq xs → IsDistinct entry_eq ys
popped_once Q (Some x) xs ys perm same once = IsDistinct-tail entry_eq x ys (popped_all xs ys x perm once)
popped_once Q None xs ys perm same once = subst (IsDistinct entry_eq) (sym same.0) once

pub popped_gone : (xs ys : List Entry) (x : Entry) (d p : ℕ) → x.0 ≡ queue_key d p → IsPermutation xs (x ∷ ys) →
    IsDistinct entry_eq xs → ¬ Contains ys (record { 0 = queue_key d p })
popped_gone xs ys x d p is perm once c =
    let differ = IsDistinct-head entry_eq x ys (popped_all xs ys x perm once) in
    let differs : entry_eq x x ≡ false =
    All-contains (λ y. entry_eq x y ≡ false) ys x (All-from_recursion (λ y. entry_eq x y ≡ false) ys differ)
    (subst (Contains ys) (λ i. record { 0 = sym is i }) c) in
    let same = nat_eq_equiv.refl x.0 in
    cc

pub popped_there : (xs ys : List Entry) (x : Entry) (d p : ℕ) → x.0 ≡ queue_key d p → IsPermutation xs (x ∷ ys) →
    Contains xs (record { 0 = queue_key d p })
popped_there xs ys x d p is perm =
    subst (Contains xs) (λ i. record { 0 = is i })
    (Contains-permutation (x ∷ ys) xs x (IsPermutation-sym xs (x ∷ ys) perm) (Contains-here x ys))
