-- What an edit changes, and what it leaves unchanged.
use Rattle.olr_spec.proofs.Common.{◌⊎◌, ◌↔◌, ◌≡◌, ◌≢◌, Some, None, ◌==◌, get, Map, Line, end, Edit, has, ℕ, or_right, cases_eq}
use Rattle.olr_spec.proofs.Common.{or_parts, is_coord, has_node, has_line, Add_node, Add_line, Bool, IsTrue, nat_cmp, eq-eqb}
use Rattle.olr_spec.proofs.Common.{ne_eqb, or_left, FinMap, entries, is_good, Set_line, SameLine, true, false, ◌||◌, List}
use Rattle.olr_spec.proofs.Common.{arith, insert, remove, Coord, IsMap, start, edited, in_use, Agree, Ok, both_ways, and_parts}
use Rattle.olr_spec.proofs.Common.{not-false, Move_node, Drop_node, Drop_line, get-remove, are_coords, nat_cmp_total}
use Rattle.olr_spec.proofs.Common.{touched_nodes, false_from_ne_true, unsigned_tied, get-insert, touched_lines, MapLaws, LawOf}
use Rattle.olr_spec.proofs.Facts.{Each-to, known_record, has-lines_where, none_has}

-- the conditions of an accepted edit, and the map that it makes
abbrev pub Made : Map → Edit → Map → Type 0
Made M (Add_node v c) N = (has_node M v ≡ false) × (record M { nodes = insert M.nodes v c } ≡ N)
Made M (Move_node v c) N = (has_node M v ≡ true) × (record M { nodes = insert M.nodes v c } ≡ N)
Made M (Drop_node v) N = (has_node M v ≡ true) × (in_use M v ≡ false) × (record M { nodes = remove M.nodes v } ≡ N)
Made M (Add_line x l) N =
    (has_line M x ≡ false) × (has_node M l.from ≡ true) × (has_node M l.to ≡ true) × (is_good l ≡ true)
    × (record M { lines = insert M.lines x l } ≡ N)
Made M (Set_line x frc fow len shape) N =
    let l : Line = record { from = start M x; to = end M x; frc = frc; fow = fow; len = len; shape = shape } in
    (has_line M x ≡ true) × (is_good l ≡ true) × (record M { lines = insert M.lines x l } ≡ N)
Made M (Drop_line x) N = (has_line M x ≡ true) × (record M { lines = remove M.lines x } ≡ N)

pub made_by : (M N : Map) (e : Edit) → edited M e ≡ Ok N → Made M e N
made_by M N e p = grind (arith, not-false, and_parts)

module _ {X : Type 0} where
  pub got_other : (m : FinMap nat_cmp X) (k : ℕ) (v : X) (q : ℕ) → q ≢ k → get (insert m k v) q ≡ get m q
  got_other m k v q ne = grind (arith, get-insert, nat_cmp_total, unsigned_tied, ne_eqb)

  pub got_same : (m : FinMap nat_cmp X) (k : ℕ) (v : X) → get (insert m k v) k ≡ Some v
  got_same m k v = grind (arith, get-insert, nat_cmp_total, unsigned_tied, eq-eqb)

  pub left_other : (m : FinMap nat_cmp X) (k q : ℕ) → q ≢ k → get (remove m k) q ≡ get m q
  left_other m k q ne = grind (arith, get-remove, nat_cmp_total, unsigned_tied, ne_eqb)

  pub left_same : (m : FinMap nat_cmp X) (k : ℕ) → get (remove m k) k ≡ None
  left_same m k = grind (arith, get-remove, nat_cmp_total, unsigned_tied, eq-eqb)

-- what an accepted edit made, and what is then found
pub ruleset edit_laws = (made_by, got_same, got_other, left_same, left_other)

-- ---- locality

module _ (M N : Map) (e : Edit) (p : edited M e ≡ Ok N) where
  other_nodes : (v : ℕ) → has (touched_nodes M e) v ≡ false → get M.nodes v ≡ get N.nodes v
  other_nodes v off = grind (arith, edit_laws, left_other, or_parts, eq-eqb)

  pub other_lines : (x : ℕ) → has (touched_lines e) x ≡ false → SameLine M N x
  other_lines x off = grind (arith, edit_laws, left_other, or_parts, eq-eqb)

  -- line x with the record l on one of the maps is the same on both, or has its ends touched
  touches : (x : ℕ) (l : Line) → (get M.lines x ≡ Some l) ⊎ (get N.lines x ≡ Some l) → SameLine M N x
      ⊎ ((has (touched_nodes M e) l.from ≡ true) × (has (touched_nodes M e) l.to ≡ true))
  touches x l h = grind (arith, edit_laws, left_other, cases_eq, eq-eqb, or_left, or_right)

  around : (f : Line → ℕ) (v x : ℕ) (l : Line) →
      (has (touched_nodes M e) l.from ≡ true → has (touched_nodes M e) l.to ≡ true → has (touched_nodes M e) (f l) ≡ true) →
      has (touched_nodes M e) v ≡ false →
      ((get M.lines x ≡ Some l) × (f l ≡ v)) ↔ ((get N.lines x ≡ Some l) × (f l ≡ v))
  around f v x l either off = grind (arith, touches, both_ways)

pub edits_are_local : (M N : Map) (e : Edit) (P : List ℕ) (F : ℕ → Type 0) → edited M e ≡ Ok N →
    ((v : ℕ) → has (touched_nodes M e) v ≡ true → ¬ F v) →
    ((x : ℕ) → has (touched_lines e) x ≡ true → has P x ≡ false) → Agree M N P F
edits_are_local M N e P F p nodes lines =
    let off = λ (v : ℕ) (f : F v). false_from_ne_true (has (touched_nodes M e) v) (λ on. nodes v on f) in
    record {
      nodes = λ v f. record {
        place = other_nodes M N e p v (off v f);
        entering = λ x l. around M N e p (λ k. k.to) v x l (λ _ t. t) (off v f);
        leaving = λ x l. around M N e p (λ k. k.from) v x l (λ t _. t) (off v f);
      };
      lines = Each-to (SameLine M N) P (λ x on. other_lines M N e p x
          (false_from_ne_true (has (touched_lines e) x) (λ t. both_ways (has P x) (lines x t) on)));
    }

-- ---- sound maps

with_node : (M : Map) (v : ℕ) (c : Coord) → IsMap M → IsTrue (is_coord c) → IsMap (record M { nodes = insert M.nodes v c })
with_node M v c m h = record {
  good = m.good;
  starts = λ x k. grind (arith, got_same, got_other, cases_eq (start M x) v, m.starts x k);
  ends = λ x k. grind (arith, got_same, got_other, cases_eq (end M x) v, m.ends x k);
  places = λ u k. grind (arith, got_same, got_other, cases_eq u v, m.places u);
  shapes = m.shapes;
}

-- no line enters or leaves a node that isn't in use
unused : (M : Map) (v : ℕ) → in_use M v ≡ false → (x : ℕ) → IsTrue (has_line M x) → (end M x ≢ v) × (start M x ≢ v)
unused M v free x k =
    let test : Line → Bool = λ l. l.to == v || l.from == v in
    grind (arith, has-lines_where M test x, none_has test (entries M.lines) x free, known_record M x k, or_parts, eq-eqb)

without_node : (M : Map) (v : ℕ) → IsMap M → in_use M v ≡ false → IsMap (record M { nodes = remove M.nodes v })
without_node M v m h = grind (arith, left_other, unused, left_same, cases_eq)

with_line : (M : Map) (x : ℕ) (l : Line) → IsMap M → IsTrue (is_good l) → IsTrue (has_node M l.from) →
    IsTrue (has_node M l.to) → IsTrue (are_coords l.shape) → IsMap (record M { lines = insert M.lines x l })
with_line M x l m g a b c = grind (arith, got_same, got_other, cases_eq)

without_line : (M : Map) (x : ℕ) → IsMap M → IsMap (record M { lines = remove M.lines x })
without_line M x m = grind (arith, left_same, left_other, cases_eq)

pub edits_keep : LawOf (λ (l : MapLaws). l.edits_keep)
edits_keep M N e m h p = grind (arith, made_by, with_node, without_node, with_line, without_line)
