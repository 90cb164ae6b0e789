-- Tests joined by `&&`, tests of each item of a list, and facts of each item.
use Rattle.olr_records.proofs.Common.{list_all, and_parts, arith, ◌≡◌, Bool, true, List, [], ◌∷◌, ◌&&◌, IsTrue, refl}

pub and_three : (a b c : Bool) → (a && b && c) ≡ true → (a ≡ true) × (b ≡ true) × (c ≡ true)
and_three a b c h = let p = and_parts (a && b) c h in let q = and_parts a b p.0 in (q.0, q.1, p.1)

pub and_four : (a b c d : Bool) → (a && b && c && d) ≡ true → (a ≡ true) × (b ≡ true) × (c ≡ true) × (d ≡ true)
and_four a b c d h = grind (arith, and_parts, and_three)

pub and_five : (a b c d e : Bool) → (a && b && c && d && e) ≡ true →
    (a ≡ true) × (b ≡ true) × (c ≡ true) × (d ≡ true) × (e ≡ true)
and_five a b c d e h = grind (arith, and_parts, and_four)

-- each item that passes one test passes the other
pub all_weaker : {X : Type 0} (p q : X → Bool) → ((x : X) → IsTrue (p x) → IsTrue (q x)) → (xs : List X) →
    IsTrue (list_all p xs) → IsTrue (list_all q xs)
all_weaker p q f [] h = refl
all_weaker p q f (x ∷ xs) h = grind (arith, and_parts, all_weaker p q f xs)

-- a fact, and those after it
infixr 20 ◌also◌
pub ◌also◌ : {A B : Type 0} → A → B → A × B
a also b = (a, b)
