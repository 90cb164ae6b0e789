-- The coverage queries of a list in which an item was replaced, or a path was added, set or dropped.
use Rattle.olr_paths.proofs.Common.{inl, inr, ◌≡◌, ℕ, zero, suc, ◌⊎◌, Bool, List, [], ◌∷◌, ◌++◌, map, slice_get, Option, Some}
use Rattle.olr_paths.proofs.Common.{arith, filter, option_map, Path, CoverageQuery, Results, Item, results_of, set_item, BeginsIn}
use Rattle.olr_paths.proofs.Common.{Begins, BeginsPut, Put, put, all_put, puts_of, NamedPath, Near}
use Rattle.std.specs.Prelude.{min}
use Rattle.olr_spec.specs.Map.{Map}
use Rattle.olr_search.specs.declared.frontier.TheConstants.{GREATEST_LIMIT}

-- no query reaches one of the nodes T
abbrev pub AreFar : Map → List ℕ → List Item → Type 0
AreFar N T is = (l : CoverageQuery) → Begins is l → ¬ Near N T l.from (min l.within GREATEST_LIMIT)

-- of one of the list's items
pub begins_there : (is : List Item) (k : ℕ) (i : Item) (v : CoverageQuery) → slice_get is k ≡ Some i →
    BeginsIn i.results v → Begins is v
begins_there [] k i v at h = absurd cc
begins_there (x ∷ is) zero i v at h = let e : x ≡ i = cc in inl (rw e h)
begins_there (x ∷ is) (suc k) i v at h = inr (begins_there is k i v at h)

-- ---- after results are stored

begins_put : (is : List Item) (k : ℕ) (path : Path) (results : Option Results) (v : CoverageQuery) →
    Begins (put is k path results) v →
    Begins is v ⊎ BeginsIn results v
begins_put [] k path results v h = absurd h
begins_put (i ∷ is) zero path results v h = grind arith
begins_put (i ∷ is) (suc k) path results v h = grind (arith, begins_put is k path results v)

pub begins_all_put : (is : List Item) (ps : List Put) (v : CoverageQuery) → Begins (all_put is ps) v → Begins is v
    ⊎ BeginsPut ps v
begins_all_put is [] v h = inl h
begins_all_put is (p ∷ ps) v h =
    grind (arith, begins_put (all_put is ps) p.position p.path p.results v h, begins_all_put is ps v)

-- one more, behind the others
pub begins_push : (es : List (ℕ × NamedPath)) (e : ℕ × NamedPath) (v : CoverageQuery) →
    BeginsPut (puts_of (es ++ e ∷ [])) v →
    BeginsPut (puts_of es) v ⊎ BeginsIn (option_map (λ p. results_of p.value) e.1.published) v
begins_push [] e v h = grind arith
begins_push (x ∷ es) e v h = grind (arith, begins_push es e v)

-- ---- after one path is added, set or dropped

pub begins_add : (is : List Item) (j : Item) (v : CoverageQuery) → Begins (is ++ j ∷ []) v → Begins is v
    ⊎ BeginsIn j.results v
begins_add [] j v h = grind arith
begins_add (i ∷ is) j v h = grind (arith, begins_add is j v)

pub begins_set : (name : List ℕ) (path : Path) (results : Option Results) (is : List Item) (v : CoverageQuery) →
    Begins (map (set_item name path results) is) v → Begins is v ⊎ BeginsIn results v
begins_set name path results [] v h = absurd h
begins_set name path results (i ∷ is) v h = grind (arith, begins_set name path results is v)

pub begins_drop : (stays : Item → Bool) (is : List Item) (v : CoverageQuery) → Begins (filter stays is) v → Begins is v
begins_drop stays [] v h = h
begins_drop stays (i ∷ is) v h = grind (arith, begins_drop stays is v)
