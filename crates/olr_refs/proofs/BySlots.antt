-- Degree-two nodes, by the slots of nodes.
use Rattle.olr_refs.proofs.Common.{arith, ◌≡◌, ◌==◌, ℕ, List, [], ◌∷◌, IsTrue, Map, has, has_node, map, refl}
use Rattle.olr_refs.proofs.Common.{cases_eq, eq-eqb, has_here, ne_eqb, passes_between, has_there}

module _ (M : Map) (slot : ℕ → ℕ)
    (own : (v w : ℕ) → IsTrue (has_node M v) → IsTrue (has_node M w) → slot v ≡ slot w → v ≡ w) where
  same_slots : (v w : ℕ) → IsTrue (has_node M v) → IsTrue (has_node M w) → (slot v == slot w) ≡ (v == w)
  same_slots v w a b = grind (arith, cases_eq v w, eq-eqb, ne_eqb, own v w a b)

  -- by the other ends of the lines xs that enter a node, and of the lines ys that leave it
  module _ (v : ℕ) (known : IsTrue (has_node M v)) (f g : ℕ → ℕ) where
    pub by_slots : (xs ys : List ℕ) → ((x : ℕ) → IsTrue (has xs x) → IsTrue (has_node M (f x))) →
        ((y : ℕ) → IsTrue (has ys y) → IsTrue (has_node M (g y))) →
        passes_between (slot v) (map (λ x. slot (f x)) xs) (map (λ y. slot (g y)) ys)
        ≡ passes_between v (map f xs) (map g ys)
    by_slots (x ∷ []) (y ∷ []) a b =
        let at_x = a x (has_here x []) in
        let at_y = b y (has_here y []) in
        rw (same_slots (f x) v at_x known, same_slots (g y) v at_y known, same_slots (f x) (g y) at_x at_y) refl
    by_slots (x ∷ w ∷ []) (y ∷ z ∷ []) a b =
        let at_x = a x (has_here x (w ∷ [])) in
        let at_w = a w (has_there x (w ∷ []) w (has_here w [])) in
        let at_y = b y (has_here y (z ∷ [])) in
        let at_z = b z (has_there y (z ∷ []) z (has_here z [])) in
        rw (
          same_slots (f x) v at_x known,
          same_slots (f w) v at_w known,
          same_slots (f x) (f w) at_x at_w,
          same_slots (g y) (f x) at_y at_x,
          same_slots (g z) (f w) at_z at_w,
          same_slots (g y) (f w) at_y at_w,
          same_slots (g z) (f x) at_z at_x,
        ) refl
    by_slots _ _ a b = refl
