use Rattle.olr_refs.proofs.Common.{◌≡◌, ℕ, List, [], ◌∷◌, Map, IsTrue, has_node, refl, arith, subst, read_at, Along, Against}
use Rattle.olr_refs.proofs.Common.{IsMap, lines_at, Direction, near_node}
use Rattle.olr_refs.proofs.nodes.passing.Goals as goal

-- no line is entered at a node that is not on the map
none_at : (M : Map) → IsMap M → (d : Direction) (v : ℕ) → ¬ IsTrue (has_node M v) → (xs : List ℕ) →
    xs ≡ lines_at M d v → xs ≡ []
none_at M m d v absent [] e = refl
none_at M m d v absent (x ∷ xs) e =
    let k = read_at M d v (x ∷ xs) 0 x e (omega arith) refl in
    absurd (absent (subst (λ (u : ℕ). IsTrue (has_node M u)) k.1 (near_node M m d x k.0)))

pub returns-in-None : goal.returns-in-None
returns-in-None g c =
    let M = g.M.MapRead.map c.args.map.now in
    let m = g.met.M.MapRead.sound c.args.map.now in
    let v = c.args.node in
    let into = none_at M m Against v c.in-None.ensures (lines_at M Against v) refl in
    let out = none_at M m Along v c.in-None.ensures (lines_at M Along v) refl in
    simp (into, out)
