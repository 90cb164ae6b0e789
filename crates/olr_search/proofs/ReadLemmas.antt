-- The lists of the lines that are entered at a node.
use Rattle.olr_search.proofs.Common.{arith, ◌≡◌, ℕ, ◌<◌, List, true, IsTrue, length, get_or, sym, ap, ◌∙◌, subst, Map, has_line}
use Rattle.olr_search.proofs.Common.{near_end, lines_at, Direction, Along, Against, is_some, unwrap_or, no_line, has, at_index}
use Rattle.olr_search.proofs.Common.{has_read, ResolvedLine, IsResolved, record_of, exactly_in, exactly_out}
use Rattle.std.specs.FinMap.{get}
use Rattle.olr_spec.proofs.OptionLemmas.{some_of}

listed : (M : Map) (d : Direction) (v x : ℕ) → has (lines_at M d v) x ≡ true → IsTrue (has_line M x) × (near_end M d x ≡ v)
listed M Along v x h = grind (arith, exactly_out, is_some, unwrap_or, no_line)
listed M Against v x h = grind (arith, exactly_in, is_some, unwrap_or, no_line)

lists : (M : Map) (d : Direction) (v x : ℕ) → IsTrue (has_line M x) → near_end M d x ≡ v → has (lines_at M d v) x ≡ true
lists M Along v x h near = grind (arith, some_of, get, exactly_out, unwrap_or, no_line)
lists M Against v x h near = grind (arith, some_of, get, exactly_in, unwrap_or, no_line)

-- a line that is read in the list is entered at the node
pub read_at : (M : Map) (d : Direction) (v : ℕ) (xs : List ℕ) (i x : ℕ) → xs ≡ lines_at M d v → i < length xs →
    x ≡ get_or xs i x → IsTrue (has_line M x) × (near_end M d x ≡ v)
read_at M d v xs i x e lt is = listed M d v x (subst (λ (zs : List ℕ). has zs x ≡ true) e (has_read xs i x lt is))

-- and each line that is entered there is in the list
pub found_at : (M : Map) (d : Direction) (v : ℕ) (xs : List ℕ) (x : ℕ) → xs ≡ lines_at M d v → IsTrue (has_line M x) →
    near_end M d x ≡ v → (i : ℕ) × (i < length xs) × (get_or xs i 0 ≡ x)
found_at M d v xs x e h near = at_index xs x (subst (λ (zs : List ℕ). has zs x ≡ true) (sym e) (lists M d v x h near))

-- a line that is read as the map has it
pub resolved_as : (M : Map) (slot : ℕ → ℕ) (x : ℕ) (r : ResolvedLine) → IsTrue (has_line M x) → r ≡ record_of M slot x →
    IsResolved M slot r
resolved_as M slot x r known is =
    let id = ap (λ (q : ResolvedLine). q.id) is in
    record {
      known = subst (λ (y : ℕ). IsTrue (has_line M y)) (sym id) known;
      is = is ∙ ap (record_of M slot) (sym id);
    }
