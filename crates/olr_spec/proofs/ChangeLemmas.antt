-- What one edit changes, and what consecutive edits change.
use Rattle.olr_spec.proofs.Common.{Contains-append_right, Contains-append_left, list_any-append, touched_nodes, IsChangedLine, Ok}
use Rattle.olr_spec.proofs.Common.{ChangedLine, AccountsFor, changes_of, ChangeLaws, both_ways, SameRound, or_parts, has_line, []}
use Rattle.olr_spec.proofs.Common.{cases_eq, nat_cmp, IsTrue, FinMap, edited, false, arith, start, Coord, LawOf, List, ◌++◌, refl}
use Rattle.olr_spec.proofs.Common.{◌==◌, Some, Line, Edit, inl, ◌≡◌, ◌≢◌, ◌∷◌, ◌≤◌, sym, ◌∙◌, get, Map, end, has, dm, ℕ, T}
use Rattle.olr_spec.proofs.Facts.{known_record, Contains-here, same_way, same_way_on}
use Rattle.olr_spec.proofs.EditLemmas.{edits_are_local, other_lines, edit_laws}

-- ---- one edit

-- line y as the only changed line
accounted_alone : (M : Map) (y : ℕ) (c : ChangedLine) → c.from ≡ start M y → c.to ≡ end M y → c.len ≤ dm M y
    → IsChangedLine (c ∷ []) M y
accounted_alone M y c a b h = record { change = c; listed = Contains-here c []; from = a; to = b; len = h }

abbrev BothAccount : List ChangedLine → Map → Map → Type 0
BothAccount C M N = AccountsFor C M N × AccountsFor C N M

nodes_accounted : (M N : Map) (nodes : FinMap nat_cmp Coord) → record M { nodes = nodes } ≡ N → BothAccount [] M N
nodes_accounted M N nodes is = rw (← is) ((λ x h. inl (same_way M _ x refl)), (λ x h. inl (same_way _ M x refl)))

lines_accounted : (M N : Map) (y : ℕ) (lines : FinMap nat_cmp Line) (c : ChangedLine) → record M { lines = lines } ≡ N →
    ((x : ℕ) → x ≢ y → get lines x ≡ get M.lines x) → (IsTrue (has_line M y) → IsChangedLine (c ∷ []) M y) →
    ((l : Line) → get lines y ≡ Some l → (c.from ≡ l.from) × (c.to ≡ l.to) × (c.len ≤ l.len)) →
    BothAccount (c ∷ []) M N
lines_accounted M N y lines c is other before after = grind (arith, known_record, same_way)

edit_accounted : (M N : Map) (e : Edit) → edited M e ≡ Ok N → BothAccount (changes_of M e) M N
edit_accounted M N e p = grind (arith, edit_laws, nodes_accounted, lines_accounted, accounted_alone, both_ways, cases_eq, same_way)

pub edit_differs : LawOf (λ (l : ChangeLaws). l.edits_differ)
edit_differs M N e p =
    let accounted = edit_accounted M N e p in
    let local = edits_are_local M N e [] (λ u. has (touched_nodes M e) u ≡ false) p (λ u on off. both_ways (has (touched_nodes M e) u) off on) (λ x on. refl) in
    search (local.nodes, other_lines M N e p, accounted)

-- ---- no difference

pub none_differs : LawOf (λ (l : ChangeLaws). l.no_difference)
none_differs M = search (inl, same_way)

-- ---- consecutive changes

round_on : (L M N : Map) (v : ℕ) → SameRound L M v → SameRound M N v → SameRound L N v
round_on L M N v r s = record {
  place = r.place ∙ s.place;
  entering = λ x l. grind (arith, r.entering x l, s.entering x l);
  leaving = λ x l. grind (arith, r.leaving x l, s.leaving x l);
}

not_either : (xs ys : List ℕ) (v : ℕ) → has (xs ++ ys) v ≡ false → (has xs v ≡ false) × (has ys v ≡ false)
not_either xs ys v h = or_parts (has xs v) (has ys v) (sym (list_any-append (λ y. y == v) xs ys) ∙ h)

pub differences_add : LawOf (λ (l : ChangeLaws). l.differences_add)
differences_add L M N T U X Y C D p q =
    grind (arith, Contains-append_left C D, Contains-append_right C D, not_either T U, round_on L M N, not_either X Y, same_way_on)
