-- The records that show a node, or a line with its ends, are records of a dump.
use Rattle.std.proofs.Common.{arith, ◌≡◌, ℕ, true, List, [], ◌∷◌, map, Some, Contains, sym, ◌∙◌, nat_cmp, ◌==◌}
use Rattle.std.specs.Prelude.{if◌then◌else◌}
use Rattle.std.specs.FinMap.{get, entries, get-entries}
use Rattle.std.specs.FinMap.Entries.{find}
use Rattle.std.proofs.lemmas.Bool.{cases_Bool, cases_eq, eq-eqb, ne_eqb}
use Rattle.std.proofs.lemmas.List.Elements.{Contains-append_left, Contains-append_right, Contains-append_cases}
use Rattle.olr_spec.specs.Map.{Map, IsMap, has_node, has_line, coord_at, line_at, no_coord, no_line, start, end}
use Rattle.olr_spec.proofs.AgreeLemmas.{some_is}
use Rattle.olr_spec.proofs.ListLemmas.{Contains-here, Contains-later, Contains-one}
use Rattle.olr_commands.specs.State.{Content, Change}
use Rattle.olr_commands.specs.Dump.{dump_changes, margin_changes, node_change, line_change, node_changes, end_changes}
use Rattle.olr_commands.specs.Dump.{line_changes}
use Rattle.olr_laws.specs.CommandLaws.{CommandLaws}
use Rattle.olr_spec.proofs.LawOf.{LawOf}

found_in : {X : Type 0} (f : ℕ × X → Change) (es : List (ℕ × X)) (k : ℕ) (v : X) → find nat_cmp k es ≡ Some v →
    Contains (map f es) (f (k, v))
found_in f [] k v is = absurd cc
found_in f (e ∷ es) k v is =
    grind (arith, cases_eq, find, nat_cmp, eq-eqb, ne_eqb, Contains-here, Contains-later, found_in f es k v)

module _ (c : Content) where
  abbrev M : Map
  M = c.map

  node_dumped : (v : ℕ) → has_node M v ≡ true → Contains (dump_changes c) (node_change (v, coord_at M v))
  node_dumped v there =
      let found = found_in node_change (entries M.nodes) v (coord_at M v) in
      let there_is = some_is (get M.nodes v) no_coord there in
      grind (arith, Contains-append_right, Contains-append_left, found, get-entries M.nodes v, there_is)

  line_dumped : (x : ℕ) → has_line M x ≡ true → Contains (dump_changes c) (line_change (x, line_at M x))
  line_dumped x there =
      Contains-append_right (margin_changes c.margin) _ _
      (Contains-append_right (map node_change (entries M.nodes)) _ _
      (Contains-append_left (map line_change (entries M.lines)) _ _
      (found_in line_change (entries M.lines) x (line_at M x)
      (sym (get-entries M.lines x) ∙ some_is (get M.lines x) no_line there))))

  nodes_dumped : (v : ℕ) (y : Change) → has_node M v ≡ true → Contains (node_changes M v) y → Contains (dump_changes c) y
  nodes_dumped v y there on = grind (arith, Contains-one (node_change (v, coord_at M v)) y on, node_dumped v there)

  ends_dumped : (v w : ℕ) (y : Change) → has_node M v ≡ true → has_node M w ≡ true →
      Contains (end_changes M v w) y → Contains (dump_changes c) y
  ends_dumped v w y first last on =
      grind (
        arith,
        cases_Bool (v == w),
        Contains-append_cases (node_changes M v) (if v == w then [] else node_changes M w) y on,
        nodes_dumped v y first,
        nodes_dumped w y last,
      )

  lines_dumped : IsMap M → (x : ℕ) (y : Change) → has_line M x ≡ true → Contains (line_changes M x) y →
      Contains (dump_changes c) y
  lines_dumped m x y there on =
      grind (
        arith,
        Contains-append_cases (end_changes M (start M x) (end M x)) (line_change (x, line_at M x) ∷ []) y on,
        ends_dumped (start M x) (end M x) y (m.starts x there) (m.ends x there),
        Contains-one (line_change (x, line_at M x)) y,
        line_dumped x there,
      )

pub shown_dumped : LawOf (λ (l : CommandLaws). l.shown_are_dumped)
shown_dumped c n x m = ((λ there on. nodes_dumped c n x there on), (λ there on. lines_dumped c m n x there on))
