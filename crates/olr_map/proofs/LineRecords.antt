-- Lines that pass a test, and the records of the lines of a map.
use Rattle.olr_map.proofs.Common.{false_from_ne_true, has-lines_where, common_steps, get-entries, is_some_of, passes_at}
use Rattle.olr_map.proofs.Common.{unwrap_or, has_node, list_any, or_right, entries, line_at, nat_cmp, no_line, or_left, Option}
use Rattle.olr_map.proofs.Common.{ne_eqb, IsMap, arith, false, Bool, Line, List, None, Some, refl, true, ◌==◌, Map, get, sym}
use Rattle.olr_map.proofs.Common.{◌∙◌, ◌∷◌, ◌≡◌, [], ap, ℕ, any_has, find}

-- ---- lines that pass a test

any_found : (test : Line → Bool) (x : ℕ) (l : Line) (es : List (ℕ × Line)) → find nat_cmp x es ≡ Some l →
    test l ≡ true → list_any (λ e. test e.1) es ≡ true
any_found test x l [] e h = absurd cc
any_found test x l (f ∷ es) e h = let rest = any_found test x l es in grind (arith, common_steps, rest, or_left, or_right)

pub used_by : (M : Map) (test : Line → Bool) (x : ℕ) (l : Line) → get M.lines x ≡ Some l → test l ≡ true →
    list_any (λ e. test e.1) (entries M.lines) ≡ true
used_by M test x l e h = any_found test x l (entries M.lines) (sym (get-entries M.lines x) ∙ e) h

pub none_passes : (test : Line → Bool) (o : Option Line) → ((l : Line) → o ≡ Some l → test l ≡ false) →
    passes_at test o ≡ false
none_passes test None h = refl
none_passes test (Some l) h = h l refl

pub unused_by : (M : Map) (test : Line → Bool) → ((x : ℕ) (l : Line) → get M.lines x ≡ Some l → test l ≡ false) →
    list_any (λ e. test e.1) (entries M.lines) ≡ false
unused_by M test h =
    let found = any_has test (entries M.lines) in
    grind (arith, common_steps, false_from_ne_true, found, has-lines_where M test, none_passes)

-- ---- lines of a sound map

-- the record of a line of the map
pub record_of : (M : Map) (x : ℕ) (l : Line) → get M.lines x ≡ Some l → line_at M x ≡ l
record_of M x l e = ap (λ (o : Option Line). unwrap_or o no_line) e

-- both ends of a line are on the map
pub line_starts : (M : Map) → IsMap M → (x : ℕ) (l : Line) → get M.lines x ≡ Some l → has_node M l.from ≡ true
line_starts M sound x l e = grind (arith, common_steps, record_of, is_some_of)

pub line_ends : (M : Map) → IsMap M → (x : ℕ) (l : Line) → get M.lines x ≡ Some l → has_node M l.to ≡ true
line_ends M sound x l e = grind (arith, common_steps, record_of, is_some_of)

-- a node of the map is not an absent node
pub other_node : (M : Map) (u v : ℕ) → has_node M u ≡ true → has_node M v ≡ false → (u == v) ≡ false
other_node M u v a b = grind (arith, common_steps, ne_eqb)
