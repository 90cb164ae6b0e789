-- Commands whose changes have records lead to contents that have records.
use Rattle.olr_records.proofs.Common.{IfSome, is_name, eq-eqb, Coord, Change, On_map, ne_eqb, edited, is_some, nat_cmp, Command}
use Rattle.olr_records.proofs.Common.{Line, Edit, Path, Make, start, rules, arith, Bool, Option, Result, IsTrue, subst, filter}
use Rattle.olr_records.proofs.Common.{Add_path, Set_path, and_parts, Move_node, Drop_node, Drop_line, Map, unwrap_or, cond_both}
use Rattle.olr_records.proofs.Common.{is_place, Recorded, cases_eq, MapFault, list_all, is_coord, Add_node, Add_line, Set_line}
use Rattle.olr_records.proofs.Common.{no_line, Drop_path, Set_margin, is_number, is_amount, has_record, IsRecorded, HaveRecords}
use Rattle.olr_records.proofs.Common.{AllByRecursion, are_attributes, is_recordable_coord, is_recordable_shape, StaysRecorded}
use Rattle.olr_records.proofs.Common.{end, ◌≡◌, ℕ, true, List, [], ◌∷◌, ◌++◌, map, Some, None, Ok, Err, refl, sym, ◌∙◌}
use Rattle.olr_commands.specs.State.{Begin, Commit, Abort, Named, Content, with_path, with_map, with_change, after, no_content}
use Rattle.olr_commands.specs.State.{is_recordable, start_state, State, step}
use Rattle.std.specs.Prelude.{◌&&◌}
use Rattle.std.specs.FinMap.{FinMap, get, insert, remove, empty, entries, entries_sorted, get-entries, get-empty}
use Rattle.std.specs.FinMap.Entries.{find}
use Rattle.olr_spec.proofs.EditLemmas.{Made, made_by, got_same, got_other, left_same, left_other}
use Rattle.olr_commands.specs.Dump.{adds_nothing, content_changes, margin_changes, node_change, line_change, path_change}
use Rattle.olr_spec.specs.Margins.{Margin}
use Rattle.olr_commands.proofs.DumpLemmas.{of_entries}
use Rattle.olr_commands.proofs.StateLemmas.{Ends, ends, when_ok, accepted, passed, next_ok, after_push}
use Rattle.olr_records.proofs.TestLemmas.{and_four, and_five, all_weaker}

-- ---- lists

module _ {X : Type 0} (P : X → Type 0) where
  split_all : (xs ys : List X) → AllByRecursion P (xs ++ ys) → AllByRecursion P xs × AllByRecursion P ys
  split_all [] ys h = (tt, h)
  split_all (x ∷ xs) ys h = let r = split_all xs ys h.1 in ((h.0, r.0), r.1)

  join_all : (xs ys : List X) → AllByRecursion P xs → AllByRecursion P ys → AllByRecursion P (xs ++ ys)
  join_all [] ys h g = g
  join_all (x ∷ xs) ys h g = (h.0, join_all xs ys h.1 g)

  left_all : (test : X → Bool) (xs : List X) → AllByRecursion P xs → AllByRecursion P (filter test xs)
  left_all test [] h = tt
  left_all test (x ∷ xs) h = grind (arith, left_all test xs h.1)

module _ {X Y : Type 0} (f : X → Y) (P : Y → Type 0) where
  of_mapped : (xs : List X) → AllByRecursion P (map f xs) → AllByRecursion (λ x. P (f x)) xs
  of_mapped [] h = tt
  of_mapped (x ∷ xs) h = (h.0, of_mapped xs h.1)

  to_mapped : (xs : List X) → AllByRecursion (λ x. P (f x)) xs → AllByRecursion P (map f xs)
  to_mapped [] h = tt
  to_mapped (x ∷ xs) h = (h.0, to_mapped xs h.1)

-- ---- numbers with their values

module _ {X : Type 0} (P : ℕ × X → Type 0) where
  found : (k : ℕ) (v : X) (es : List (ℕ × X)) → AllByRecursion P es → find nat_cmp k es ≡ Some v → P (k, v)
  found k v [] h is = absurd cc
  found k v (e ∷ es) h is = grind (arith, cases_eq, find, nat_cmp, eq-eqb, ne_eqb, found k v es h.1)

  all_at : (m : FinMap nat_cmp X) → AllByRecursion P (entries m) → (k : ℕ) (v : X) → get m k ≡ Some v → P (k, v)
  all_at m h k v is = found k v (entries m) h (sym (get-entries m k) ∙ is)

  all_entries : (m : FinMap nat_cmp X) → ((k : ℕ) (v : X) → get m k ≡ Some v → P (k, v)) →
      AllByRecursion P (entries m)
  all_entries m h = of_entries P (entries m) (entries_sorted m) (λ e is. h e.0 e.1 (get-entries m e.0 ∙ is))

  inserted : (m : FinMap nat_cmp X) (k : ℕ) (v : X) → AllByRecursion P (entries m) → P (k, v) →
      AllByRecursion P (entries (insert m k v))
  inserted m k v h p = grind (arith, all_entries, insert, cases_eq, get, got_same, all_at, got_other)

  removed : (m : FinMap nat_cmp X) (k : ℕ) → AllByRecursion P (entries m) → AllByRecursion P (entries (remove m k))
  removed m k h = grind (arith, all_entries, remove, cases_eq, get, left_same, all_at, left_other)

-- ---- contents

abbrev Has : Change → Type 0
Has x = IsTrue (has_record x)

abbrev HasNode : ℕ × Coord → Type 0
HasNode e = Has (node_change e)

abbrev HasLine : ℕ × Line → Type 0
HasLine e = Has (line_change e)

abbrev HasPath : Named → Type 0
HasPath p = Has (path_change p)

record MapRecorded (M : Map) : Type 0 where
  nodes : AllByRecursion HasNode (entries M.nodes)
  lines : AllByRecursion HasLine (entries M.lines)

-- the changes that set a margin, if it isn't the one that there is at first
abbrev HasMargin : Margin → Type 0
HasMargin g = AllByRecursion Has (margin_changes g)

margin_of : (c : Content) → IsRecorded c → HasMargin c.margin
margin_of c h = (split_all Has (margin_changes c.margin) (content_changes c) h).0

margin_has : (g : Margin) → Has (Set_margin g) → HasMargin g
margin_has g h =
    cond_both (adds_nothing g) [] (Set_margin g ∷ []) (λ xs. AllByRecursion Has xs) (λ _. tt) (λ _. (h, tt))

parts_of : (c : Content) → IsRecorded c → MapRecorded c.map × AllByRecursion HasPath c.paths
parts_of c whole =
    let h = (split_all Has (margin_changes c.margin) (content_changes c) whole).1 in
    let a = split_all Has (map node_change (entries c.map.nodes)) _ h in
    let b = split_all Has (map line_change (entries c.map.lines)) (map path_change c.paths) a.1 in (
      record {
        nodes = of_mapped node_change Has (entries c.map.nodes) a.0;
        lines = of_mapped line_change Has (entries c.map.lines) b.0;
      },
      of_mapped path_change Has c.paths b.1,
    )

content_of_parts : (c : Content) → MapRecorded c.map → AllByRecursion HasPath c.paths → HaveRecords (content_changes c)
content_of_parts c m h = search (rules, arith, join_all, entries, to_mapped)

of_parts : (c : Content) → HasMargin c.margin → MapRecorded c.map → AllByRecursion HasPath c.paths → IsRecorded c
of_parts c k m h = join_all Has (margin_changes c.margin) (content_changes c) k (content_of_parts c m h)

line_parts : (x : ℕ) (l : Line) → HasLine (x, l) → IsTrue (is_number x) × IsTrue (is_number l.from)
    × IsTrue (is_number l.to) × IsTrue (are_attributes l.frc l.fow l.len l.shape)
line_parts x l h = grind (arith, and_four)

path_parts : (p : Named) → HasPath p → IsTrue (is_name p.name) × IsTrue (is_amount p.path.pos)
    × IsTrue (is_amount p.path.neg) × IsTrue (list_all is_number p.path.lines)
path_parts p h = grind (arith, and_four)

-- the ends of a line that is on the map
ends_are : (M : Map) (x : ℕ) (o : Option Line) → MapRecorded M → get M.lines x ≡ o → is_some o ≡ true →
    IsTrue (is_number (unwrap_or o no_line).from) × IsTrue (is_number (unwrap_or o no_line).to)
ends_are M x None m is h = absurd cc
ends_are M x (Some l) m is h =
    let p = line_parts x l (all_at HasLine M.lines m.lines x l is) in (p.1, p.2)

map_stays : (M N : Map) (e : Edit) → MapRecorded M → Has (On_map e) → Made M e N → MapRecorded N
map_stays M N (Add_node v c) m h made =
    subst MapRecorded made.1 (record { nodes = inserted HasNode M.nodes v c m.nodes h; lines = m.lines })
map_stays M N (Move_node v c) m h made =
    subst MapRecorded made.1 (record { nodes = inserted HasNode M.nodes v c m.nodes h; lines = m.lines })
map_stays M N (Drop_node v) m h made =
    subst MapRecorded made.2 (record { nodes = removed HasNode M.nodes v m.nodes; lines = m.lines })
map_stays M N (Add_line x l) m h made =
    subst MapRecorded made.4 (record { nodes = m.nodes; lines = inserted HasLine M.lines x l m.lines h })
map_stays M N (Set_line x frc fow len ss) m h made =
    let l : Line = record { from = start M x; to = end M x; frc = frc; fow = fow; len = len; shape = ss } in
    let ends = ends_are M x (get M.lines x) m refl made.0 in
    let p = and_parts (is_number x) (are_attributes frc fow len ss) h in
    let has : HasLine (x, l) = λ i. p.0 i && ends.0 i && ends.1 i && p.1 i in
    subst MapRecorded made.2 (record { nodes = m.nodes; lines = inserted HasLine M.lines x l m.lines has })
map_stays M N (Drop_line x) m h made =
    subst MapRecorded made.1 (record { nodes = m.nodes; lines = removed HasLine M.lines x m.lines })

edit_stays : (c d : Content) (e : Edit) (r : Result Map MapFault) → edited c.map e ≡ r → IsRecorded c →
    Has (On_map e) → with_map c r ≡ Ok d → IsRecorded d
edit_stays c d e (Ok m) is i h to =
    grind (arith, parts_of c i, margin_of c i, accepted IsRecorded, of_parts, map_stays c.map m e, made_by c.map m e is)
edit_stays c d e (Err f) is i h to = absurd cc

-- the path of a name is set
set_stays : (name : List ℕ) (path : Path) (ps : List Named) → Has (Set_path name path) → AllByRecursion HasPath ps →
    AllByRecursion HasPath (map (with_path name path) ps)
set_stays name path [] h g = tt
set_stays name path (p ∷ ps) h g = grind (arith, path_parts, set_stays name path ps h g.1)

change_stays : (c d : Content) (x : Change) → IsRecorded c → Has x → with_change c x ≡ Ok d → IsRecorded d
change_stays c d (On_map e) i h is = edit_stays c d e (edited c.map e) refl i h is
change_stays c d (Add_path name path) i h is = grind (arith, when_ok, parts_of, margin_of c i, passed, of_parts, join_all)
change_stays c d (Set_path name path) i h is = grind (arith, when_ok, parts_of, margin_of c i, passed, of_parts, set_stays)
change_stays c d (Drop_path name) i h is = grind (arith, parts_of, margin_of c i, passed, of_parts, left_all)
change_stays c d (Set_margin g) i h is = grind (arith, parts_of c i, accepted IsRecorded, of_parts, margin_has g h)

-- ---- commands

hold_stays : (c d : Content) (xs : List Change) (x : Change) → with_change (after c xs) x ≡ Ok d → IsRecorded (after c xs) →
    Has x → IsRecorded (after c (xs ++ x ∷ []))
hold_stays c d xs x is k h = grind (arith, after_push, next_ok, change_stays)

pub step_stays : (s t : State) (c : Command) → StaysRecorded s → Recorded c → step s c ≡ Ok t → StaysRecorded t
step_stays s t c i h is = ends StaysRecorded s t c is (by s.content s.batch c i.0 i.1 h) where
  by : (c : Content) (b : Option (List Change)) (x : Command) → IsRecorded c →
      IfSome b (λ xs. IsRecorded (after c xs)) → Recorded x → Ends StaysRecorded c b x
  by c None (Make x) i k h = λ d is. (change_stays c d x i h is, tt)
  by c (Some xs) (Make x) i k h = λ d is room. (i, hold_stays c d xs x is k h)
  by c b Begin i k h = (i, i)
  by c (Some xs) (Commit count) i k h = (k, tt)
  by c b Abort i k h = (i, tt)
  by c b x i k h = (i, k)

-- ---- the empty register

none_of_empty : {X : Type 0} (P : ℕ × X → Type 0) → AllByRecursion P (entries {R = nat_cmp} empty)
none_of_empty {X} P =
    all_entries P empty (λ k v is. absurd (let no : ◌≡◌ {A = Option X} None (Some v) =
    sym (get-empty nat_cmp k) ∙ is in cc))

pub start_recorded : StaysRecorded start_state
start_recorded = (
  of_parts no_content tt (record { nodes = none_of_empty HasNode; lines = none_of_empty HasLine }) tt,
  tt,
)

-- ---- dumps

passes : {X : Type 0} (P : X → Type 0) (test : X → Bool) (xs : List X) → ((x : X) → P x → IsTrue (test x)) →
    AllByRecursion P xs → IsTrue (list_all test xs)
passes P test [] f h = refl
passes P test (x ∷ xs) f h = λ i. f x h.0 i && passes P test xs f h.1 i

place_dumps : (p : Coord) → IsTrue (is_place p) → IsTrue (is_recordable_coord p)
place_dumps p h = (and_parts (is_coord p) (is_recordable_coord p) h).1

line_dumps : (e : ℕ × Line) → HasLine e → IsTrue (is_recordable_shape e.1.shape)
line_dumps e h = grind (arith, and_five, line_parts, all_weaker, place_dumps, and_parts)

pub recorded_dumps : (c : Content) → IsRecorded c → IsTrue (is_recordable c)
recorded_dumps c h =
    let p = parts_of c h in
    let nodes =
    passes HasNode (λ e. is_recordable_coord e.1) (entries c.map.nodes)
    (λ e g. place_dumps e.1 (and_parts (is_number e.0) (is_place e.1) g).1) p.0.nodes in
    let lines = passes HasLine (λ e. is_recordable_shape e.1.shape) (entries c.map.lines) line_dumps p.0.lines in
    let paths = passes HasPath (λ q. is_name q.name) c.paths (λ q g. (path_parts q g).0) p.1 in
    λ i. nodes i && lines i && paths i
