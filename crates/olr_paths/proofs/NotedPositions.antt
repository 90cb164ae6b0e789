-- Index entries that are added and removed one by one, and results to be stored at positions.
use Rattle.olr_paths.proofs.Common.{results_of_named, option_to_list, CoverageQuery, All-contains, ArePublished, set_value_at, []}
use Rattle.olr_paths.proofs.Common.{LackQueries, path_ids_of, ChangesOnly, option_map, named_keys, AreNotedAt, map-append, length}
use Rattle.olr_paths.proofs.Common.{AreEncoded, results_of, true≢false, nat_tests, slice_get, Published, NamedPath, values_of, ap}
use Rattle.olr_paths.proofs.Common.{Contains, AddsOnly, BeginsIn, PathList, IsNoted, keys_by, all_put, puts_of, Results, is_some}
use Rattle.olr_paths.proofs.Common.{get_or, IsTrue, Option, Begins, Finder, String, Global, subst, arith, holds, Index, Grows, Rc}
use Rattle.olr_paths.proofs.Common.{items, false, ◌==◌, List, ◌||◌, ◌&&◌, take, zero, Some, None, refl, Item, ◌++◌, Path, Bool, ℕ}
use Rattle.olr_paths.proofs.Common.{◌≡◌, ◌≢◌, ◌+◌, ◌<◌, not, All, suc, ◌∷◌, sym, ◌∙◌, has, ◌≤◌, Put, put}
use Rattle.olr_paths.proofs.Alls.{all_more, at_position}
use Rattle.olr_paths.proofs.NamedEntries.{Entries, item_of, items_of, item_at}
use Rattle.olr_paths.proofs.PathIdLemmas.{NamedNoted, noted_grown}

-- after this many of the numbers
pub record Noted {A : Type 0} (number : A → ℕ) (path_id : ℕ) (old now : Index) (xs : List A) : Type 0 where
  pub noted : All (λ x. IsTrue (holds now (number x) path_id)) xs
  pub grows : AddsOnly old now
  pub spares : ChangesOnly path_id old now

module _ {A : Type 0} (number : A → ℕ) (path_id : ℕ) (old : Index) where
  pub noted_more : (now new : Index) (xs : List A) (k : ℕ) (d : A) (v : ℕ) → k < length xs →
      v ≡ number (get_or xs k d) → Noted number path_id old now (take k xs)
      → ((n m : ℕ) → holds new n m ≡ (holds now n m || ((v == n) && (path_id == m)))) →
      Noted number path_id old new (take (k + 1) xs)
  noted_more now new xs k d v lt is h added =
      let P : A → Type 0 = λ x. IsTrue (holds new (number x) path_id) in
      let grown : AddsOnly now new = λ n m t. grind (arith, added n m) in
      record {
        noted = all_more P xs k d lt (λ i e low. grown (number (get_or (take k xs) i e)) path_id (h.noted i e low))
            (grind (arith, nat_tests, added v path_id));
        grows = λ n m t. grown n m (h.grows n m t);
        spares = λ n m ne. grind (arith, nat_tests, added n m, h.spares n m ne);
      }

-- after some of them were removed; the numbers of the path now still have the path id
pub record Forgot (Stays : ℕ → Type 0) (path_id : ℕ) (old now : Index) : Type 0 where
  pub stays : (n : ℕ) → Stays n → IsTrue (holds old n path_id) → IsTrue (holds now n path_id)
  pub spares : ChangesOnly path_id old now

module _ (Stays : ℕ → Type 0) (path_id : ℕ) (old : Index) where
  pub forgot_more : (now new : Index) (v : ℕ) → Forgot Stays path_id old now → ¬ Stays v →
      ((n m : ℕ) → holds new n m ≡ (holds now n m && not ((v == n) && (path_id == m)))) → Forgot Stays path_id old new
  forgot_more now new v h free taken = record {
    stays = λ n k t. let apart : n ≢ v = λ e. free (subst Stays e k) in
        grind (arith, nat_tests, taken n path_id, h.stays n k t);
    spares = λ n m ne. grind (arith, nat_tests, taken n m, h.spares n m ne);
  }

-- the numbers of the path now
module _ {A : Type 0} (number : A → ℕ) (xs : List A) where
  abbrev pub NumberIn : ℕ → Type 0
  NumberIn n = (x : A) × Contains xs x × (number x ≡ n)

abbrev pub One : Type 0
One = ℕ × NamedPath

-- one of them
abbrev pub NotedAt : List ℕ → Finder → One → Type 0
NotedAt ms f r = r.0 < length ms → NamedNoted f (get_or ms r.0 0) r.1

pub at_grown : (ms : List ℕ) (f g : Finder) (fresh : List One) → Grows f g → AreNotedAt ms f fresh →
    AreNotedAt ms g fresh
at_grown ms f g fresh more h k d lt low = noted_grown f g _ (named_keys (get_or fresh k d).1) more (h k d lt low)

-- of the first k, and of one more
pub at_more : (ms : List ℕ) (f g : Finder) (fresh : List One) (k : ℕ) (d : One) → k < length fresh → Grows f g →
    AreNotedAt ms f (take k fresh) → NotedAt ms g (get_or fresh k d) → AreNotedAt ms g (take (k + 1) fresh)
at_more ms f g fresh k d lt more h one =
    all_more (NotedAt ms g) fresh k d lt (at_grown ms f g (take k fresh) more h) one

-- something is published, by the test
pub is_published : (o : Option (Rc Published Global)) (b : Bool) → is_some o ≡ not b → b ≡ false → o ≢ None
is_published o b is off gone = true≢false (sym (is ∙ ap not off) ∙ ap is_some gone)

-- if each path was encoded, something is published of each
pub all_published : (es : Entries) → AreEncoded (items_of es) → ArePublished es
all_published es h k e at none =
    at_position AreEncoded (λ i. i.results ≢ None) (λ x xs r. r) (items_of es) k (item_of e) h (item_at es k e at)
    (ap (option_map (λ p. results_of p.value)) none)

-- ---- no path has a coverage query, if none begins at a node

pub back : (es : Entries) (k : ℕ) (i : Item) → slice_get (items_of es) k ≡ Some i → (e : String Global × NamedPath)
    × (slice_get es k ≡ Some e) × (item_of e ≡ i)
back [] k i at = absurd cc
back (x ∷ es) zero i at = let same : item_of x ≡ i = cc (at) in (x, refl, same)
back (x ∷ es) (suc k) i at = back es k i at

lack_from : (es : Entries) (l : CoverageQuery)
    → ((k : ℕ) (e : String Global × NamedPath) → slice_get es k ≡ Some e → BeginsIn (results_of_named e.1) l → ⊥) →
    Begins (items_of es) l → ⊥
lack_from [] l none h = h
lack_from (e ∷ es) l none h = grind (arith, none 0 e refl, lack_from es l (λ k. none (suc k)))

-- what is published of a path is noted
pub noted_as : (f : Finder) (m : ℕ) (n : NamedPath) (p : Rc Published Global) → n.published ≡ Some p → NamedNoted f m n →
    IsNoted f m (keys_by n.path.value.lines (Some p))
noted_as f m n p is h = subst (λ (o : Option (Rc Published Global)). IsNoted f m (keys_by n.path.value.lines o)) is h

pub lack_by : (p : PathList) → IsTrue p.finder.indexed → ((number : ℕ) → path_ids_of p.finder.by_query_origin number ≡ []) →
    LackQueries (items p)
lack_by p indexed empty l = lack_from p.paths.entries l (λ k e at. by k e at e.1.published refl) where
  by : (k : ℕ) (e : String Global × NamedPath) → slice_get p.paths.entries k ≡ Some e →
      (o : Option (Rc Published Global)) → e.1.published ≡ o → BeginsIn (option_map (λ r. results_of r.value) o) l → ⊥
  by k e at None is b = b
  by k e at (Some r) is b =
      let id = get_or p.path_ids.items k 0 in
      let held : IsTrue (holds p.finder.by_query_origin l.from id) =
      All-contains (λ (q : CoverageQuery). IsTrue (holds p.finder.by_query_origin q.from id)) r.value.queries.items l
      (noted_as p.finder id e.1 r is (p.noted k e at) indexed).1 b in
      let off = ap (λ (xs : List ℕ). has xs id) (empty l.from) in
      cc (held, off)

-- lists with the same items are encoded alike
pub all_same : (es fs : Entries) → items_of fs ≡ items_of es → ArePublished es → ArePublished fs
all_same es fs same h = all_published fs (subst AreEncoded (sym same) (encoded es h))
  where
    encoded : (es : Entries) → ArePublished es → AreEncoded (items_of es)
    encoded [] h = tt
    encoded (e ∷ es) h = ((λ none. h 0 e refl (not_published e.1.published none)), encoded es (λ k. h (suc k)))
      where
        not_published : (o : Option (Rc Published Global)) → option_map (λ p. results_of p.value) o ≡ None → o ≡ None
        not_published o none = grind arith

-- after the first ones
pub put_behind : (xs : List Item) (k : ℕ) (i : Item) (ys : List Item) (path : Path) (results : Option Results) →
    k ≤ length xs →
    put (take k xs ++ i ∷ ys) k path results ≡ take k xs ++ record { name = i.name; path = path; results = results } ∷ ys
put_behind xs zero i ys path results le = refl
put_behind [] (suc k) i ys path results le = absurd (omega arith)
put_behind (x ∷ xs) (suc k) i ys path results le = ap (λ zs. x ∷ zs) (put_behind xs k i ys path results (omega arith))

-- the last of a list is stored first
pub all_put-push : (is : List Item) (ps : List Put) (p : Put) →
    all_put is (ps ++ p ∷ []) ≡ all_put (put is p.position p.path p.results) ps
all_put-push is [] p = refl
all_put-push is (q ∷ ps) p = ap (λ js. put js q.position q.path q.results) (all_put-push is ps p)

-- ---- in the entries of a map

-- the new value replaces the old one
pub put_at : (es : Entries) (k : ℕ) (n : NamedPath) →
    items_of (set_value_at es k n) ≡ put (items_of es) k n.path.value (results_of_named n)
put_at [] k n = refl
put_at (e ∷ es) zero n = refl
put_at (e ∷ es) (suc k) n = ap (λ (is : List Item). item_of e ∷ is) (put_at es k n)

-- if there is no entry, nothing is stored
put_nowhere : (es : Entries) (k : ℕ) (path : Path) (results : Option Results) → None ≡ slice_get (values_of es) k →
    put (items_of es) k path results ≡ items_of es
put_nowhere [] k path results at = refl
put_nowhere (e ∷ es) zero path results at = absurd cc
put_nowhere (e ∷ es) (suc k) path results at = ap (λ (is : List Item). item_of e ∷ is) (put_nowhere es k path results at)

module _ (es : Entries) (k : ℕ) (n : NamedPath) (all rest : List One) (o : Option One)
    (last : all ≡ rest ++ option_to_list o) (is : o ≡ Some (k, n))
    (whole : List Item) (h : all_put (items_of es) (puts_of all) ≡ whole) where
  -- the last of the remaining ones, stored first
  taken : all_put (put (items_of es) k n.path.value (results_of_named n)) (puts_of rest) ≡ whole
  taken = rw (last, is, map-append, all_put-push) at h

  pub placed : all_put (items_of (set_value_at es k n)) (puts_of rest) ≡ whole
  placed = ap (λ (js : List Item). all_put js (puts_of rest)) (put_at es k n) ∙ taken

  pub passed_by : None ≡ slice_get (values_of es) k → all_put (items_of es) (puts_of rest) ≡ whole
  passed_by at = rw (put_nowhere es k n.path.value (results_of_named n) at) at taken
