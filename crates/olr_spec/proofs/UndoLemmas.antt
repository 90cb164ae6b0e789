-- One edit restores the map from before an accepted edit, and the empty map is sound.
use Rattle.olr_spec.proofs.Common.{◌≡◌, filter, FinMap, insert, remove, entries, line_at, or_cases, list_any, has_node, MapLaws}
use Rattle.olr_spec.proofs.Common.{true, false, ◌||◌, arith, IsMap, edited, in_use, unless, List, Some, Option, Result, LawOf}
use Rattle.olr_spec.proofs.Common.{◌≢◌, ◌∷◌, map, None, Ok, ap, ◌==◌, [], get, Map, Line, Edit, has, inl, inr, Bool}
use Rattle.olr_spec.proofs.Common.{ℕ, coord_at, Add_node, Add_line, Set_line, same_map, eqb-true, cases_eq, and_from, get-empty}
use Rattle.olr_spec.proofs.Common.{cases_Bool, nat_cmp_total, nat_cmp-IsAntisymmetric, Move_node, Drop_node, nat_cmp, Drop_line}
use Rattle.olr_spec.proofs.Facts.{has-lines_where, passes_at, has_here, some_is, none_of, there_not}
use Rattle.olr_spec.proofs.EditLemmas.{got_other, got_same, left_other, left_same, edit_laws}

-- ---- finite maps

module _ {X : Type 0} (m : FinMap nat_cmp X) (k : ℕ) where
  restored : (n : FinMap nat_cmp X) → get n k ≡ get m k → ((q : ℕ) → q ≢ k → get n q ≡ get m q) → n ≡ m
  restored n here other = same_map nat_cmp_total nat_cmp-IsAntisymmetric n m (λ q. grind (arith, cases_eq q k, other q))

  drop_added : (v : X) → get m k ≡ None → remove (insert m k v) k ≡ m
  drop_added v e = restored (remove (insert m k v) k) (grind (arith, left_same)) (λ q ne. grind (arith, left_other, got_other))

  put_back : (v : X) → get m k ≡ Some v → insert (remove m k) k v ≡ m
  put_back v e = restored (insert (remove m k) k v) (grind (arith, got_same)) (λ q ne. grind (arith, left_other, got_other))

  set_back : (v w : X) → get m k ≡ Some v → insert (insert m k w) k v ≡ m
  set_back v w e = restored (insert (insert m k w) k v) (grind (arith, got_same)) (λ q ne. grind (arith, got_other))

-- ---- tests

-- if the condition of a test doesn't hold, the later tests decide
pub unless_false : {A F : Type 0} (b : Bool) (f : F) (r : Result A F) → b ≡ false → unless b f r ≡ r
unless_false b f r e = ap (λ (t : Bool). unless t f r) e

pub any_has : (test : Line → Bool) (es : List (ℕ × Line)) → list_any (λ e. test e.1) es ≡ true → (x : ℕ)
    × (has (map (λ e. e.0) (filter (λ e. test e.1) es)) x ≡ true)
any_has test [] h = absurd cc
any_has test (e ∷ es) h = elim (cases_Bool (test e.1)) [
  | inl t ↦ (e.0, grind (arith, t, has_here))
  | inr f ↦ let r = any_has test es (grind (arith, h, f)) in (r.0, grind (arith, f, r.1))
]

pub passed_line : (test : Line → Bool) (o : Option Line) → passes_at test o ≡ true → (l : Line) × (o ≡ Some l) × (test l ≡ true)
passed_line test o h = grind arith

-- a node that isn't on a sound map has no lines
unused_where_absent : (M : Map) → IsMap M → (v : ℕ) → has_node M v ≡ false → in_use M v ≡ false
unused_where_absent M m v absent =
    let test : Line → Bool = λ l. l.to == v || l.from == v in
    grind (arith, cases_Bool (in_use M v), any_has test (entries M.lines), passed_line, has-lines_where M test, or_cases, eqb-true, m.ends, m.starts)

-- ---- edits

-- the edit that restores the map from before an accepted edit
abbrev pub back_of : Map → Edit → Edit
back_of M (Add_node v c) = Drop_node v
back_of M (Move_node v c) = Move_node v (coord_at M v)
back_of M (Drop_node v) = Add_node v (coord_at M v)
back_of M (Add_line x l) = Drop_line x
back_of M (Set_line x frc fow len shape) = let l = line_at M x in Set_line x l.frc l.fow l.len l.shape
back_of M (Drop_line x) = Add_line x (line_at M x)

pub takes_back : (M : Map) → IsMap M → (N : Map) (e : Edit) → edited M e ≡ Ok N → edited N (back_of M e) ≡ Ok M
takes_back M m N e p =
    grind (arith, edit_laws, drop_added, put_back, set_back, none_of, some_is, unused_where_absent, and_from)

pub edits_undo : LawOf (λ (l : MapLaws). l.edits_undo)
edits_undo M N e m h = (back_of M e, takes_back M m N e h)

pub empty_sound : LawOf (λ (l : MapLaws). l.empty_is_sound)
empty_sound = grind (arith, there_not, get-empty, nat_cmp)
