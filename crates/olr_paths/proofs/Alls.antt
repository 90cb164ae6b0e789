-- What is true of each element, as far as a loop has run. Membership in lists: by a test, and by a position.
use Rattle.olr_paths.proofs.Common.{Contains-later, slice_get, Contains-cases, Contains-here, take_more, All-push, Contains}
use Rattle.olr_paths.proofs.Common.{list_any, length, get_or, IsTrue, subst, arith, List, take, Some, ◌≡◌, true, ◌+◌, ◌<◌, ◌∷◌}
use Rattle.olr_paths.proofs.Common.{All, sym, map, ◌↔◌, inl, inr, has, [], ℕ, Item, zero, suc}
use Rattle.std.proofs.lemmas.List.Folds.{Any-from_list_any, list_any_at}
pub use Rattle.olr_spec.proofs.SameNumbers.{has_from, in_from}

-- of the first k, and of one more
pub all_more : {X : Type 0} (P : X → Type 0) (xs : List X) (k : ℕ) (d : X) → k < length xs → All P (take k xs) →
    P (get_or xs k d) → All P (take (k + 1) xs)
all_more P xs k d lt h p =
    subst (λ ys. All P ys) (sym (take_more xs k d lt)) (All-push P (take k xs) (get_or xs k d) h p)

pub Contains-map : {A B : Type 0} (f : A → B) (xs : List A) (x : A) → Contains xs x → Contains (map f xs) (f x)
Contains-map f [] x h = absurd (let lt = h.1 in omega arith)
Contains-map f (y ∷ ys) x h = elim (Contains-cases y x ys h) [
  | inl e ↦ subst (λ z. Contains (f y ∷ map f ys) (f z)) e (Contains-here (f y) (map f ys))
  | inr c ↦ Contains-later (f y) (f x) (map f ys) (Contains-map f ys x c)
]

pub Contains-unmap : {A B : Type 0} (f : A → B) (xs : List A) (y : B) → Contains (map f xs) y → (x : A) × Contains xs x
    × (f x ≡ y)
Contains-unmap f [] y h = absurd (let lt = h.1 in omega arith)
Contains-unmap f (x ∷ xs) y h = elim (Contains-cases (f x) y (map f xs) h) [
  | inl e ↦ (x, Contains-here x xs, e)
  | inr c ↦ let r = Contains-unmap f xs y c in (r.0, Contains-later x r.0 xs r.1, r.2)
]

-- the test is true of the list exactly if an element is in both
pub shared : (ws xs : List ℕ) → IsTrue (list_any (λ x. has ws x) xs) ↔ ((x : ℕ) × IsTrue (has ws x) × IsTrue (has xs x))
shared ws xs = (
  (λ on. let f = Any-from_list_any (λ x. has ws x) xs on in
      let at : get_or xs f.0 f.1 ≡ f.1 = f.3 in
      (f.1, f.4, has_from xs f.1 (f.0, f.2, at))),
  (λ h. let c = in_from xs h.0 h.2 in
      list_any_at (λ x. has ws x) xs c.0 h.0 c.1 (subst (λ (v : ℕ). has ws v ≡ true) (sym c.2) h.1)),
)

-- what a list says of each of its items is said of the one at a position
pub at_position : (Q : List Item → Type 0) (P : Item → Type 0) →
    ((x : Item) (is : List Item) → Q (x ∷ is) → P x × Q is) → (is : List Item) (k : ℕ) (i : Item) → Q is →
    slice_get is k ≡ Some i → P i
at_position Q P parts [] k i h at = let never : ⊥ = cc in absurd never
at_position Q P parts (x ∷ is) zero i h at = let e : x ≡ i = cc in subst P e (parts x is h).0
at_position Q P parts (x ∷ is) (suc k) i h at = at_position Q P parts is k i (parts x is h).1 at
