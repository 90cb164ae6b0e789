-- The changes that a content is written as build it from an empty one.
use Rattle.olr_commands.proofs.Common.{cases_eq, AllByRecursion, Map, IsMap, Line, is_good, got_other, got_same, Margin}
use Rattle.olr_commands.proofs.Common.{no_margin}
use Rattle.std.proofs.Common.{if◌then◌else◌, append_assoc, Ordering, is_some, nat_cmp, Option, arith, false, is_lt, is_eq, Bool}
use Rattle.std.proofs.Common.{true, List, ◌++◌, Some, None, refl, ◌≡◌, ◌≢◌, ◌∷◌, map, sym, ◌∙◌, [], Ok, ap, ℕ, T}
use Rattle.std.proofs.lemmas.Bool.{eq-eqb, ne_eqb}
use Rattle.std.specs.Option.{option_or}
use Rattle.std.proofs.lemmas.List.{append-nil}
use Rattle.std.specs.Cmp.{nat_cmp_total}
use Rattle.std.specs.FinMap.{FinMap, get, insert, entries, empty, entries_sorted, get-entries, get-empty, same_map}
use Rattle.std.specs.FinMap.{nat_cmp-IsAntisymmetric}
use Rattle.std.specs.FinMap.Entries.{below_all, find, is_sorted}
use Rattle.olr_spec.specs.Coordinates.{Coord}
use Rattle.olr_commands.specs.State.{Named, Content, no_content, path_named, Change, with_change, next, Make, ArePaths}
use Rattle.olr_commands.specs.State.{NamesDiffer, Set_margin}
use Rattle.olr_commands.specs.Dump.{node_change, line_change, path_change, dump_changes, adds_nothing, margin_changes}
use Rattle.olr_commands.specs.Dump.{Leads, steps, DumpsLead, DumpsRun}
use Rattle.olr_commands.proofs.StateLemmas.{next_ok}
use Rattle.olr_commands.proofs.NameLemmas.{named_push, not_named, flipped}

-- ---- entries in order

lt_not_eq : (o : Ordering) → T (is_lt o) → is_eq o ≡ false
lt_not_eq o h = grind arith

-- a number below another differs from it
apart : (k j : ℕ) → T (is_lt (nat_cmp k j)) → j ≢ k
apart k j h is = grind (arith, nat_cmp)

or_none : {X : Type 0} (o : Option X) → option_or o None ≡ o
or_none (Some x) = refl
or_none None = refl

module _ {X : Type 0} where
  -- a number below all of them equals none of them
  missed : (k : ℕ) (es : List (ℕ × X)) → T (below_all nat_cmp k es) → find nat_cmp k es ≡ None
  missed k [] h = refl
  missed k (e ∷ es) h = grind (arith, find, nat_cmp, lt_not_eq, missed k es)

  -- the map with these entries inserted, one after another
  abbrev filled : FinMap nat_cmp X → List (ℕ × X) → FinMap nat_cmp X
  filled m [] = m
  filled m (e ∷ es) = filled (insert m e.0 e.1) es

  get_filled : (m : FinMap nat_cmp X) (es : List (ℕ × X)) (q : ℕ) → T (is_sorted nat_cmp es) →
      get (filled m es) q ≡ option_or (find nat_cmp q es) (get m q)
  get_filled m [] q s = refl
  get_filled m (e ∷ es) q s =
      grind (
        arith,
        insert,
        cases_eq,
        find,
        nat_cmp,
        missed,
        get,
        got_same,
        eq-eqb,
        got_other,
        ne_eqb,
        get_filled (insert m e.0 e.1) es q,
      )

  -- a map is its entries inserted into the empty map
  filled_all : (m : FinMap nat_cmp X) → filled empty (entries m) ≡ m
  filled_all m =
      same_map nat_cmp_total nat_cmp-IsAntisymmetric (filled empty (entries m)) m (λ q.
      grind (arith, get_filled, entries_sorted, get-empty, or_none, get-entries))

  abbrev Absent : FinMap nat_cmp X → List (ℕ × X) → Type 0
  Absent m es = AllByRecursion (λ e. get m e.0 ≡ None) es

  absent_of_empty : (es : List (ℕ × X)) → Absent empty es
  absent_of_empty [] = tt
  absent_of_empty (e ∷ es) = (get-empty nat_cmp e.0, absent_of_empty es)

  still_absent : (m : FinMap nat_cmp X) (k : ℕ) (v : X) (es : List (ℕ × X)) → T (below_all nat_cmp k es) →
      Absent m es → Absent (insert m k v) es
  still_absent m k v [] h a = tt
  still_absent m k v (e ∷ es) h a = grind (arith, got_other, apart, still_absent m k v es)

  -- what is true of each number with its value is true of all entries
  pub of_entries : (P : ℕ × X → Type 0) (es : List (ℕ × X)) → T (is_sorted nat_cmp es) →
      ((e : ℕ × X) → find nat_cmp e.0 es ≡ Some e.1 → P e) → AllByRecursion P es
  of_entries P [] s h = tt
  of_entries P (e ∷ es) s h = grind (arith, find, nat_cmp, eq-eqb, missed, ne_eqb, of_entries P es)

-- ---- changes, one after another

leads_one : (c d e : Content) (x : Change) (xs : List Change) → with_change c x ≡ Ok d → Leads d xs e →
    Leads c (x ∷ xs) e
leads_one c d e x xs is l = grind (arith, next_ok)

leads_append : (c d e : Content) (xs ys : List Change) → Leads c xs d → Leads d ys e → Leads c (xs ++ ys) e
leads_append c d e [] ys p q = rw p.1 q
leads_append c d e (x ∷ xs) ys p q = grind (arith, leads_append (next c x) d e xs ys)

abbrev content_of : Margin → FinMap nat_cmp Coord → FinMap nat_cmp Line → List Named → Content
content_of g nodes lines ps = record { map = record { nodes = nodes; lines = lines }; paths = ps; margin = g }

-- a margin that adds nothing is none
none_added : (g : Margin) → adds_nothing g ≡ true → g ≡ no_margin
none_added g h =
    let routes : g.routes ≡ 0 = grind (arith, cases_eq) in
    let classes : g.classes ≡ 0 = grind (arith, cases_eq) in
    λ i. record { routes = routes i; classes = classes i }

lead_margin : (g : Margin) → Leads no_content (margin_changes g) (content_of g empty empty [])
lead_margin g = by (adds_nothing g) refl where
  by : (b : Bool) → adds_nothing g ≡ b →
      Leads no_content (if b then [] else Set_margin g ∷ []) (content_of g empty empty [])
  by true none = (tt, ap (λ (h : Margin). content_of h empty empty []) (sym (none_added g none)))
  by false some = ((refl, tt), refl)

lead_nodes : (g : Margin) (m : FinMap nat_cmp Coord) (lines : FinMap nat_cmp Line) (ps : List Named) (es : List (ℕ × Coord)) →
    T (is_sorted nat_cmp es) → Absent m es → Leads (content_of g m lines ps) (map node_change es)
    (content_of g (filled m es) lines ps)
lead_nodes g m lines ps [] s a = (tt, refl)
lead_nodes g m lines ps (e ∷ es) s a =
    grind (arith, insert, leads_one, still_absent, lead_nodes g (insert m e.0 e.1) lines ps es)

-- the ends of the line are among these nodes, and the line is valid
abbrev Fits : FinMap nat_cmp Coord → ℕ × Line → Type 0
Fits nodes e = (is_some (get nodes e.1.from) ≡ true) × (is_some (get nodes e.1.to) ≡ true) × (is_good e.1 ≡ true)

lead_lines : (g : Margin) (nodes : FinMap nat_cmp Coord) (m : FinMap nat_cmp Line) (ps : List Named) (es : List (ℕ × Line)) →
    T (is_sorted nat_cmp es) → Absent m es → AllByRecursion (Fits nodes) es →
    Leads (content_of g nodes m ps) (map line_change es) (content_of g nodes (filled m es) ps)
lead_lines g nodes m ps [] s a f = (tt, refl)
lead_lines g nodes m ps (e ∷ es) s a f =
    grind (arith, insert, leads_one, still_absent, lead_lines g nodes (insert m e.0 e.1) ps es)

-- no path of qs has the name of one of ps
abbrev NewNames : List Named → List Named → Type 0
NewNames qs ps = AllByRecursion (λ p. is_some (path_named qs p.name) ≡ false) ps

still_new : (qs : List Named) (p : Named) (ps : List Named) → is_some (path_named ps p.name) ≡ false → NewNames qs ps →
    NewNames (qs ++ p ∷ []) ps
still_new qs p [] h a = tt
still_new qs p (r ∷ ps) h a = grind (arith, not_named, named_push, flipped, still_new qs p ps)

lead_paths : (g : Margin) (M : Map) (qs ps : List Named) → ArePaths ps → NamesDiffer ps → NewNames qs ps →
    Leads (record { map = M; paths = qs; margin = g }) (map path_change ps)
    (record { map = M; paths = qs ++ ps; margin = g })
lead_paths g M qs [] a d n =
    (tt, ap (λ (rs : List Named). record { map = M; paths = rs; margin = g }) (sym (append-nil qs)))
lead_paths g M qs (p ∷ ps) a d n =
    grind (
      arith,
      still_new,
      leads_one,
      append_assoc,
      lead_paths g M (qs ++ p ∷ []) ps a.1 d.1 (still_new qs p ps d.0 n.1),
    )

all_new : (ps : List Named) → NewNames [] ps
all_new [] = tt
all_new (p ∷ ps) = (refl, all_new ps)

-- ---- the laws

line_fits : (M : Map) → IsMap M → (e : ℕ × Line) → get M.lines e.0 ≡ Some e.1 → Fits M.nodes e
line_fits M m e is = grind (arith, get)

pub dumps_lead : DumpsLead
dumps_lead c i =
    let g = c.margin in
    let N = entries c.map.nodes in
    let L = entries c.map.lines in
    let nodes =
    rw (filled_all c.map.nodes) at (lead_nodes g empty empty [] N (entries_sorted c.map.nodes) (absent_of_empty N)) in
    let fits =
    of_entries (Fits c.map.nodes) L (entries_sorted c.map.lines)
    (λ e is. line_fits c.map i.map e (get-entries c.map.lines e.0 ∙ is)) in
    let lines =
    rw (filled_all c.map.lines) at
    (lead_lines g c.map.nodes empty [] L (entries_sorted c.map.lines) (absent_of_empty L) fits) in
    let paths = lead_paths g c.map [] c.paths i.paths i.names (all_new c.paths) in
    leads_append no_content _ c (margin_changes g) _ (lead_margin g)
    (leads_append _ _ c (map node_change N) _ nodes (leads_append _ _ c (map line_change L) _ lines paths))

-- changes that are accepted one after another are accepted as commands too
run_leads : (c d : Content) (xs : List Change) → Leads c xs d →
    steps (record { content = c; batch = None }) (map (λ x. Make x) xs) ≡ Ok (record { content = d; batch = None })
run_leads c d [] l = ap (λ (y : Content). Ok (record { content = y; batch = None })) l.1
run_leads c d (x ∷ xs) l = grind (arith, run_leads (next c x) d xs (l.0.1, l.1))

pub dumps_run : DumpsRun
dumps_run c i = run_leads no_content c (dump_changes c) (dumps_lead c i)
