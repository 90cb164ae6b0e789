-- A map's entries as a list of named paths: lookups, edits, and that no name occurs twice.
use Rattle.olr_paths.proofs.Common.{option_and_then, AllByRecursion, slice_get-map, bytes_decides, string_bytes, length}
use Rattle.olr_paths.proofs.Common.{set_value_at, NamesDiffer, option_map, cases_Bool, path_named, slice_get, string_eq}
use Rattle.olr_paths.proofs.Common.{same_name, all_named, NamedPath, bytes_eq, set_item, position, is_some, ℕ, same_is, flipped}
use Rattle.olr_paths.proofs.Common.{results_of_named, results_in, keys_of, get_or, Option, filter, lookup, remove, String, Global}
use Rattle.olr_paths.proofs.Common.{subst, arith, false, zero, Bool, true, List, Some, None, refl, Path, Results, Item, inl, inr}
use Rattle.olr_paths.proofs.Common.{◌≡◌, suc, ◌<◌, not, ◌∷◌, map, sym, ◌∙◌, [], ap}
use Rattle.std.proofs.lemmas.List.Quantifiers.{position-Some}
use Rattle.std.specs.List.{IsDistinct}
use Rattle.olr_paths.specs.Items.{item_of as under}

abbrev pub Entries : Type 0
Entries = List (String Global × NamedPath)

-- an entry as an item
abbrev pub item_of : String Global × NamedPath → Item
item_of e = under (string_bytes e.0) e.1

abbrev pub items_of : Entries → List Item
items_of es = map item_of es

-- the test by which a name is looked up
abbrev pub asks : List ℕ → String Global → Bool
asks name k = bytes_eq name (string_bytes k)

-- ---- names

pub same_flip : (a b : List ℕ) → same_name a b ≡ same_name b a
same_flip a b = elim (cases_Bool (same_name a b)) [
  | inl e ↦ e ∙ sym ((bytes_decides b a).1 (sym (same_is a b e)))
  | inr e ↦ e ∙ sym (flipped a b e)
]

-- ---- lookups

pub looked_up : (es : Entries) (name : List ℕ) →
    results_in (items_of es) name ≡ option_and_then results_of_named (lookup (asks name) es)
looked_up [] name = refl
looked_up (e ∷ es) name = grind (arith, looked_up es name, same_flip (string_bytes e.0) name)

pub named_there : (es : Entries) (name : List ℕ) →
    is_some (lookup (asks name) es) ≡ is_some (path_named (all_named (items_of es)) name)
named_there [] name = refl
named_there (e ∷ es) name = grind (arith, named_there es name, same_flip (string_bytes e.0) name)

-- ---- no name occurs twice

others_named : (k : String Global) (es : Entries) → AllByRecursion (λ y. string_eq k y ≡ false) (keys_of es) →
    is_some (path_named (all_named (items_of es)) (string_bytes k)) ≡ false
others_named k [] h = refl
others_named k (e ∷ es) h = rw (flipped (string_bytes k) (string_bytes e.0) h.0) (others_named k es h.1)

pub names_differ : (es : Entries) → IsDistinct string_eq (keys_of es) → NamesDiffer (all_named (items_of es))
unfolding IsDistinct
names_differ [] h = tt
names_differ (e ∷ es) h = (others_named e.0 es h.0, names_differ es h.1)

-- ---- edits

-- that no item has the name
abbrev pub absent : List Item → List ℕ → Type 0
absent is name = is_some (path_named (all_named is) name) ≡ false

pub not_here : (i : Item) (is : List Item) (name : List ℕ) → absent (i ∷ is) name → (same_name i.name name ≡ false)
    × absent is name
not_here i is name h = grind arith

pub none_filtered : (is : List Item) (name : List ℕ) → absent is name → filter (λ i. not (same_name i.name name)) is ≡ is
none_filtered [] name h = refl
none_filtered (i ∷ is) name h = let r = not_here i is name h in rw r.0 (ap (λ (js : List Item). i ∷ js) (none_filtered is name r.1))

pub sets_none : (is : List Item) (name : List ℕ) (path : Path) (results : Option Results) → absent is name →
    map (set_item name path results) is ≡ is
sets_none [] name path results h = refl
sets_none (i ∷ is) name path results h =
    let r = not_here i is name h in rw r.0 (ap (λ (js : List Item). i ∷ js) (sets_none is name path results r.1))

-- the entry at p is the first of its name
abbrev pub First : List ℕ → Entries → ℕ → Type 0
First name [] p = ⊥
First name (e ∷ es) zero = asks name e.0 ≡ true
First name (e ∷ es) (suc p) = (asks name e.0 ≡ false) × First name es p

first_of : (es : Entries) (name : List ℕ) (d : String Global) (p : ℕ) → p < length (keys_of es) →
    asks name (get_or (keys_of es) p d) ≡ true → ((k : ℕ) → k < p → asks name (get_or (keys_of es) k d) ≡ false) →
    First name es p
first_of [] name d p lt h before = absurd (omega arith)
first_of (e ∷ es) name d zero lt h before = h
first_of (e ∷ es) name d (suc p) lt h before =
    (before zero (omega arith), first_of es name d p (omega arith) h (λ k low. before (suc k) (omega arith)))

pub first_at : (es : Entries) (name : List ℕ) (p : ℕ) → position (asks name) (keys_of es) ≡ Some p → First name es p
first_at [] name p at = absurd cc
first_at (e ∷ es) name p at =
    let h = position-Some (asks name) (keys_of (e ∷ es)) p e.0 at in first_of (e ∷ es) name e.0 p h.0 h.1 h.2

-- the first entry of a name is removed
pub removed_items : (es : Entries) (name : List ℕ) (q : ℕ) → First name es q → NamesDiffer (all_named (items_of es)) →
    items_of (remove es q) ≡ filter (λ i. not (same_name i.name name)) (items_of es)
removed_items [] name q h d = absurd h
removed_items (e ∷ es) name zero h d =
    let here : same_name (string_bytes e.0) name ≡ true = same_flip (string_bytes e.0) name ∙ h in
    rw here (sym (none_filtered (items_of es) name (subst (absent (items_of es)) (same_is (string_bytes e.0) name here) d.0)))
removed_items (e ∷ es) name (suc q) h d =
    let other : same_name (string_bytes e.0) name ≡ false = same_flip (string_bytes e.0) name ∙ h.0 in
    rw other (ap (λ (js : List Item). item_of e ∷ js) (removed_items es name q h.1 d.1))

-- the first entry of a name is replaced
pub set_items : (es : Entries) (name : List ℕ) (q : ℕ) (n : NamedPath) → First name es q →
    NamesDiffer (all_named (items_of es)) →
    items_of (set_value_at es q n) ≡ map (set_item name n.path.value (results_of_named n)) (items_of es)
set_items [] name q n h d = absurd h
set_items (e ∷ es) name zero n h d =
    let here : same_name (string_bytes e.0) name ≡ true = same_flip (string_bytes e.0) name ∙ h in
    rw here (ap (λ (js : List Item). item_of (e.0, n) ∷ js)
    (sym (sets_none (items_of es) name n.path.value (results_of_named n)
    (subst (absent (items_of es)) (same_is (string_bytes e.0) name here) d.0))))
set_items (e ∷ es) name (suc q) n h d =
    let other : same_name (string_bytes e.0) name ≡ false = same_flip (string_bytes e.0) name ∙ h.0 in
    rw other (ap (λ (js : List Item). item_of e ∷ js) (set_items es name q n h.1 d.1))

pub set_absent : (es : Entries) (name : List ℕ) (n : NamedPath) → lookup (asks name) es ≡ None →
    items_of es ≡ map (set_item name n.path.value (results_of_named n)) (items_of es)
set_absent es name n h =
    sym (sets_none (items_of es) name n.path.value (results_of_named n) (sym (named_there es name) ∙ ap is_some h))

-- ---- one entry

pub paths_named : (es : Entries) (name : List ℕ) →
    path_named (all_named (items_of es)) name ≡ option_map (λ n. n.path.value) (lookup (asks name) es)
paths_named [] name = refl
paths_named (e ∷ es) name = grind (arith, paths_named es name, same_flip (string_bytes e.0) name)

-- the item of an entry
pub item_at : (es : Entries) (k : ℕ) (e : String Global × NamedPath) → slice_get es k ≡ Some e →
    slice_get (items_of es) k ≡ Some (item_of e)
item_at es k e at = slice_get-map item_of es k ∙ ap (option_map item_of) at
