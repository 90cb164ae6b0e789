-- The positions that are found have all affected paths, and the paths between them are unchanged.
use Rattle.olr_renewal.proofs.Common.{take, length, get_or, Option, IsTrue, Covers, or_left, Entries, item_of, in_from, changed}
use Rattle.olr_renewal.proofs.Common.{all_more, cases_Bool, option_map, AreLengths, ChangeSet, Published, NamedPath, first_only}
use Rattle.olr_renewal.proofs.Common.{All, append_assoc, All-contains, FindsChanged, QueryTouched, under_changes, overlaid_from}
use Rattle.olr_renewal.proofs.Common.{inl, inr, ◌≡◌, ◌==◌, ◌||◌, List, ◌++◌, Some, None, refl, Item, items, Path, Results, First}
use Rattle.olr_renewal.proofs.Common.{◌≢◌, ℕ, ◌+◌, ◌<◌, ◌≤◌, ◌⊎◌, ◌∷◌, sym, ap, ◌∙◌, min, Map, has, Rc}
use Rattle.olr_renewal.proofs.Common.{false, Includes, has_node, label_at, nodes_of, change_at, same_name, all_named, same_flip}
use Rattle.olr_renewal.proofs.Common.{[], Against, results_of, lines_of, BeginsIn, PathList, Changes, Dijkstra, items_of}
use Rattle.olr_renewal.proofs.Common.{slice_get, slice_get_within, CoverageQuery, GREATEST_LIMIT, IsSearchedFor, CoversSearched}
use Rattle.olr_renewal.proofs.Common.{subst, arith, IsMap, holds, Index, Finds, AreFar, Begins, Finder, ToSkip, String, Global}
use Rattle.olr_renewal.proofs.Common.{nat_tests, LackQueries, RemovesNone, under_change, NamesDiffer, path_ids_of, begins_there}
use Rattle.std.proofs.Math.Bool.{or-false}
use Rattle.olr_paths.proofs.NotedPositions.{back, noted_as}
use Rattle.std.proofs.lemmas.List.{nil_from_length}
use Rattle.olr_renewal.proofs.Distances.{near_absent}
use Rattle.olr_renewal.proofs.SearchedLemmas.{searched_at}

-- ---- lists of numbers

pub has_push : (xs : List ℕ) (x v : ℕ) → has (xs ++ x ∷ []) v ≡ (has xs v || (x == v))
has_push [] x v = or-false (x == v)
has_push (y ∷ ys) x v = grind (arith, has_push ys x v)

pub pushed_includes : (xs : List ℕ) (x : ℕ) → Includes xs (xs ++ x ∷ [])
pushed_includes xs x v on = has_push xs x v ∙ or_left (has xs v) (x == v) on

pub pushed_there : (xs : List ℕ) (x v : ℕ) → x ≡ v → IsTrue (has (xs ++ x ∷ []) v)
pushed_there xs x v is = grind (arith, nat_tests, has_push xs x v)

-- ---- positions by numbers of nodes or lines

pub record PutAll {A : Type 0} (number : A → ℕ) (path_ids : List ℕ) (index : Index) (xs : List A)
    (old now : List ℕ) : Type 0 where
  pub grows : Includes old now
  pub put : All (λ x. Finds path_ids index (number x) now) xs

module _ (path_ids : List ℕ) (index : Index) (found : List ℕ) where
  -- a number that no path has
  pub finds_none : (v : ℕ) → path_ids_of index v ≡ [] → Finds path_ids index v found
  finds_none v none j low on =
      let off = ap (λ (ys : List ℕ). has ys (get_or path_ids j 0)) none in
      let never : ⊥ = cc (on, off) in absurd never

  pub all_none : {A : Type 0} (number : A → ℕ) (xs : List A) → All (λ x. path_ids_of index (number x) ≡ []) xs →
      All (λ x. Finds path_ids index (number x) found) xs
  all_none number xs none k d lt = finds_none _ (none k d lt)

-- one more, whose number no path has
pub put_none : {A : Type 0} (number : A → ℕ) (path_ids : List ℕ) (index : Index) (xs : List A) (old now : List ℕ)
    (k : ℕ) (d : A) (v : ℕ) (of : List ℕ) → k < length xs → v ≡ number (get_or xs k d) → of ≡ path_ids_of index v →
    length of ≡ 0 → PutAll number path_ids index (take k xs) old now →
    PutAll number path_ids index (take (k + 1) xs) old now
put_none number path_ids index xs old now k d v of lt is ids none h = record {
  grows = h.grows;
  put = all_more (λ x. Finds path_ids index (number x) now) xs k d lt h.put
      (finds_none path_ids index now _ (sym (ids ∙ ap (path_ids_of index) is) ∙ nil_from_length of none));
}

-- ---- the positions that are found have all paths that edits affect

abbrev pub AreFound : List ℕ → Index → List ℕ → List ℕ → Type 0
AreFound path_ids i vs found = All (λ v. Finds path_ids i v found) vs

is_there : (o : Option (Rc Published Global)) → o ≢ None → (p : Rc Published Global) × (o ≡ Some p)
is_there None h = absurd (h refl)
is_there (Some p) h = (p, refl)

module _ (N : Map) (T X : List ℕ) (l : PathList) (off_held : l.held ≡ false) (indexed : IsTrue l.finder.indexed)
    (found : List ℕ) (traversed : AreFound l.path_ids.items l.finder.traversed T found)
    (lines : AreFound l.path_ids.items l.finder.lines X found) where
  abbrev ms : List ℕ
  ms = l.path_ids.items

  abbrev f : Finder
  f = l.finder

  module _ (k : ℕ) (e : String Global × NamedPath) (at : slice_get l.paths.entries k ≡ Some e) (p : Rc Published Global)
      (some : e.1.published ≡ Some p) (off : has found k ≡ false) where
    lower : k < length ms
    lower = omega (arith, slice_get_within l.paths.entries k e at, l.long)

    missed : (i : Index) (vs : List ℕ) → AreFound ms i vs found → (v : ℕ) → IsTrue (has vs v) →
        IsTrue (holds i v (get_or ms k 0)) → ⊥
    missed i vs are v touched held =
        let on = All-contains (λ (u : ℕ). Finds ms i u found) vs v are (in_from vs v touched) k lower held in
        cc (on, off)

    stays_there : ¬ QueryTouched N T (results_of p.value).queries →
        ToSkip N T X (item_of e).results e.1.path.value
    stays_there unqueried = (
      results_of p.value,
      ap (option_map (λ (q : Rc Published Global). results_of q.value)) some,
      (λ h. let noted = noted_as f (get_or ms k 0) e.1 p some (l.noted k e at) indexed in elim h [
        | inl o ↦ missed f.traversed T traversed o.0 o.1
            (All-contains (λ (v : ℕ). IsTrue (holds f.traversed v (get_or ms k 0))) p.value.traversed o.0 noted.0 o.2)
        | inr rest ↦ elim rest [
          | inl x ↦ missed f.lines X lines x.0 x.1
              (All-contains (λ (v : ℕ). IsTrue (holds f.lines v (get_or ms k 0))) e.1.path.value.lines x.0 noted.2
              (in_from e.1.path.value.lines x.0 x.2))
          | inr q ↦ unqueried q
        ]
      ]),
    )

  -- where none of its queries is touched
  stays_by : (k : ℕ) (i : Item) → slice_get (items l) k ≡ Some i → has found k ≡ false →
      ((e : String Global × NamedPath) (p : Rc Published Global) → slice_get l.paths.entries k ≡ Some e →
      e.1.published ≡ Some p → i.results ≡ Some (results_of p.value) → ¬ QueryTouched N T (results_of p.value).queries) →
      ToSkip N T X i.results i.path
  stays_by k i at off unqueried =
      let b = back l.paths.entries k i at in
      let p = is_there b.0.1.published (l.encoded off_held k b.0 b.1) in
      subst (λ (x : Item). ToSkip N T X x.results x.path) b.2
      (stays_there k b.0 b.1 p.0 p.1 off (unqueried b.0 p.0 b.1 p.1
      (ap (λ (x : Item). x.results) (sym b.2) ∙ ap (option_map (λ (q : Rc Published Global). results_of q.value)) p.1)))

  -- where it is known that they are far from all queries
  pub covers_far : AreFar N T (items l) → Covers N T X (items l) found
  covers_far far k i at off = stays_by k i at off (λ e p there some results q.
      far q.0 (begins_there (items l) k i q.0 at (rw results q.1)) q.2)

module _ (N : Map) (t : ChangeSet) (l : PathList) (off_held : l.held ≡ false) (indexed : IsTrue l.finder.indexed)
    (found : List ℕ) (traversed : AreFound l.path_ids.items l.finder.traversed (nodes_of t) found)
    (lines : AreFound l.path_ids.items l.finder.lines (lines_of t) found) (n : IsMap N) (slot : ℕ → ℕ) (near : Dijkstra)
    (from : AreFound l.path_ids.items l.finder.by_query_origin (nodes_of t) found)
    (reached : (begun : List (ℕ × ℕ)) → AreLengths N slot Against begun near → (v : ℕ) → IsTrue (has_node N v) →
    label_at near (slot v) ≤ GREATEST_LIMIT → Finds l.path_ids.items l.finder.by_query_origin v found) where
  never_query : (k : ℕ) (e : String Global × NamedPath) (at : slice_get l.paths.entries k ≡ Some e)
      (p : Rc Published Global) (some : e.1.published ≡ Some p) (off : has found k ≡ false) →
      IsSearchedFor N slot t near (BeginsIn (Some (results_of p.value))) →
      ¬ QueryTouched N (nodes_of t) (results_of p.value).queries
  never_query k e at p some off s h =
      let v : ℕ = h.0.from in
      let held = All-contains (λ (z : CoverageQuery). IsTrue (holds l.finder.by_query_origin z.from (get_or l.path_ids.items k 0))) _ h.0
      (noted_as l.finder (get_or l.path_ids.items k 0) e.1 p some (l.noted k e at) indexed).1 h.1 in
      elim (cases_Bool (has_node N v)) [
        | inl there ↦
            let low = s.found h.0 h.1 there h.2 in
            let on = reached s.from s.lengths v there (omega arith) k (lower N (nodes_of t) (lines_of t) l off_held indexed found traversed lines k e at p some off) held in
            let never : ⊥ = cc (on, off) in never
        | inr lacks ↦ missed N (nodes_of t) (lines_of t) l off_held indexed found traversed lines k e at p some off l.finder.by_query_origin (nodes_of t) from v
            ((near_absent N n (nodes_of t) v (min h.0.within GREATEST_LIMIT)
            (λ there. let never : ⊥ = cc (there, lacks) in never)).1 h.2) held
      ]

  pub covers_by : CoversSearched N slot t near (items l) found
  covers_by k i at off one = stays_by N (nodes_of t) (lines_of t) l off_held indexed found traversed lines k i at off (λ e p there some results.
      never_query k e there p some off (subst (λ (o : Option Results). IsSearchedFor N slot t near (BeginsIn o)) results one))

-- ---- for a list under changes

module _ (cs : Changes) (is ys : List Item) (none_removed : RemovesNone cs) where
  -- if the replaced paths and all new ones are found, the others are unchanged
  pub covers_overlaid : (N : Map) (slot : ℕ → ℕ) (t : ChangeSet) (near : Dijkstra) (found : List ℕ) →
      CoversSearched N slot t near is found → FindsChanged cs is found →
      ((k : ℕ) → length is ≤ k → k < length is + length ys → IsTrue (has found k))
      → IsSearchedFor N slot t near (Begins (under_changes cs is ++ ys)) →
      Covers N (nodes_of t) (lines_of t) (under_changes cs is ++ ys) found
  covers_overlaid N slot t near found covers given behind searched k j at off = elim (overlaid_from cs is ys none_removed k j at) [
    | inl a ↦
        let same : j ≡ a.0 = a.2 ∙ ap (λ (c : Option (Option Path)). changed c a.0) (given k a.0 a.1 off) in
        subst (λ (i : Item). ToSkip N (nodes_of t) (lines_of t) i.results i.path) (sym same)
        (covers k a.0 a.1 off
        (subst (λ (i : Item). IsSearchedFor N slot t near (BeginsIn i.results)) same
        (searched_at N slot t near (under_changes cs is ++ ys) k j at searched)))
    | inr b ↦
        let low = slice_get_within ys b.0 j b.2 in
        let on = behind k (let e = b.1 in omega arith) (let e = b.1 in omega arith) in
        let never : ⊥ = cc (on, off) in absurd never
  ]

begins_changed : (c : Option (Option Path)) (i : Item) (js : List Item) (l : CoverageQuery) →
    Begins (under_change c i ++ js) l → BeginsIn i.results l ⊎ Begins js l
begins_changed c i js l h = grind arith

-- no path has a coverage query, if none of either list has one
pub lack_overlaid : (cs : Changes) (is ys : List Item) → LackQueries is → LackQueries ys →
    LackQueries (under_changes cs is ++ ys)
lack_overlaid cs [] ys first second l h = second l h
lack_overlaid cs (i ∷ is) ys first second l h =
    let rest = rw (append_assoc (under_change (change_at cs i.name) i) (under_changes cs is) ys) at h in
    grind (arith, begins_changed _ i (under_changes cs is ++ ys) l rest, first, lack_overlaid cs is ys)

-- with more positions
pub unfound : (old now : List ℕ) (k : ℕ) → Includes old now → has now k ≡ false → has old k ≡ false
unfound old now k grows off = grind (arith, grows k)

pub covers_more : (N : Map) (T X : List ℕ) (is : List Item) (old now : List ℕ) → Includes old now →
    Covers N T X is old → Covers N T X is now
covers_more N T X is old now grows h k i at off = h k i at (unfound old now k grows off)

pub covers_grown : (N : Map) (slot : ℕ → ℕ) (t : ChangeSet) (near : Dijkstra) (is : List Item) (old now : List ℕ) →
    Includes old now → CoversSearched N slot t near is old → CoversSearched N slot t near is now
covers_grown N slot t near is old now grows h k i at off = h k i at (unfound old now k grows off)

pub changed_grown : (cs : Changes) (is : List Item) (old now : List ℕ) → Includes old now → FindsChanged cs is old →
    FindsChanged cs is now
changed_grown cs is old now grows h k i at off = h k i at (unfound old now k grows off)

-- if the position of the name is added, the others have other names
pub others_apart : (es : Entries) (name : List ℕ) (q : ℕ) (old : List ℕ) → First name es q →
    NamesDiffer (all_named (items_of es)) → (k : ℕ) (i : Item) → slice_get (items_of es) k ≡ Some i →
    has (old ++ q ∷ []) k ≡ false → same_name name i.name ≡ false
others_apart es name q old first differ k i at off =
    grind (arith, first_only es name q k i first differ at, pushed_there old q k, same_flip name i.name)
