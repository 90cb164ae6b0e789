-- Lists of named paths under changes: which names they have, and the effect of one more change.
use Rattle.olr_paths.proofs.Common.{◌≡◌, ℕ, not, List, ◌∷◌, ◌++◌, map, Some, None, refl, sym, ap, ◌∙◌, Rc, Path, Item, Bool}
use Rattle.olr_paths.proofs.Common.{append_assoc, string_bytes, insert_entry, under_changes, bytes_decides, filter-append, true}
use Rattle.olr_paths.proofs.Common.{option_map, map-append, path_named, NamesDiffer, under_change, changes_in, append-nil}
use Rattle.olr_paths.proofs.Common.{false, ◌&&◌, cond, [], Option, subst, arith, filter, lookup, drops, String, Global}
use Rattle.olr_paths.proofs.Common.{is_some, string_eq, same_name, same_is, all_named, set_item, NamedPath, Changes, change_at}
use Rattle.olr_paths.specs.Items.{item_of}
use Rattle.olr_paths.proofs.NamedEntries.{asks, same_flip, absent, none_filtered, sets_none}

abbrev pub Entered : Type 0
Entered = List (String Global × Option (Rc Path Global))

abbrev pub path_in : Option (Rc Path Global) → Option Path
path_in o = option_map (λ p. p.value) o

abbrev pub has_name : List Item → List ℕ → Bool
has_name is name = is_some (path_named (all_named is) name)

-- ---- the change of a name

pub change_found : (es : Entered) (name : List ℕ) →
    change_at (changes_in es) name ≡ option_map path_in (lookup (asks name) es)
change_found [] name = refl
change_found (e ∷ es) name = grind (arith, change_found es name, same_flip (string_bytes e.0) name)

-- after one more change
pub change_put : (es : Entered) (k : String Global) (o : Option (Rc Path Global)) (name : List ℕ) →
    change_at (changes_in (insert_entry string_eq es k o)) name
    ≡ cond (same_name (string_bytes k) name) (Some (path_in o)) (change_at (changes_in es) name)
change_put [] k o name = refl
change_put (e ∷ es) k o name =
    grind (arith, change_put es k o name, same_is (string_bytes k) (string_bytes e.0), same_is (string_bytes e.0) name)

-- ---- names

-- with one path in front, under its change
one_has : (c : Option (Option Path)) (i : Item) (L : List Item) (name : List ℕ) →
    has_name (under_change c i ++ L) name ≡ cond (same_name i.name name && not (drops c)) true (has_name L name)
one_has c i L name = grind arith

pub overlaid_has : (cs : Changes) (is : List Item) (name : List ℕ) →
    has_name (under_changes cs is) name ≡ cond (drops (change_at cs name)) false (has_name is name)
overlaid_has cs [] name = grind arith
overlaid_has cs (i ∷ is) name = grind (
  arith,
  one_has (change_at cs i.name) i (under_changes cs is) name,
  overlaid_has cs is name,
  same_is i.name name,
)

-- in two lists
pub both_have : (xs ys : List Item) (name : List ℕ) →
    has_name (xs ++ ys) name ≡ cond (has_name ys name) true (has_name xs name)
both_have [] ys name = grind arith
both_have (x ∷ xs) ys name = grind (arith, both_have xs ys name)

-- in a list under changes, or among new paths
pub has_under : (es : Entered) (is ys : List Item) (name : List ℕ) →
    has_name (under_changes (changes_in es) is ++ ys) name
    ≡ cond (has_name ys name) true (cond (drops (option_map path_in (lookup (asks name) es))) false (has_name is name))
has_under es is ys name =
    both_have (under_changes (changes_in es) is) ys name
    ∙ ap (cond (has_name ys name) true) (overlaid_has (changes_in es) is name
    ∙ ap (λ (c : Option (Option Path)). cond (drops c) false (has_name is name)) (change_found es name))

pub first_differ : (xs ys : List Item) → NamesDiffer (all_named (xs ++ ys)) → NamesDiffer (all_named xs)
first_differ [] ys d = tt
first_differ (x ∷ xs) ys d =
    let first : absent xs x.name = let free = d.0 in grind (arith, both_have xs ys x.name) in
    (first, first_differ xs ys d.1)

-- a name of the second list is not in the first
pub first_absent : (xs ys : List Item) (name : List ℕ) → NamesDiffer (all_named (xs ++ ys)) → has_name ys name ≡ true →
    absent xs name
first_absent [] ys name d there = refl
first_absent (x ∷ xs) ys name d there =
    let free = d.0 in
    let rest = first_absent xs ys name d.1 there in
    grind (arith, both_have xs ys x.name, same_is x.name name)

-- ---- one more change

abbrev pub Puts : Changes → List ℕ → Option Path → Changes → Type 0
Puts cs name o ds = (q : List ℕ) → change_at ds q ≡ cond (same_name name q) (Some o) (change_at cs q)

pub puts_one : (es new : Entered) (k : String Global) (o : Option (Rc Path Global)) (name : List ℕ) (p : Option Path) →
    new ≡ insert_entry string_eq es k o → string_bytes k ≡ name → path_in o ≡ p →
    Puts (changes_in es) name p (changes_in new)
puts_one es new k o name p is key path q = rw (is, change_put es k o q, key, path) refl

one_set : (name : List ℕ) (path : Path) (c : Option (Option Path)) (i : Item) →
    (same_name i.name name ≡ true → drops c ≡ false) →
    under_change (cond (same_name i.name name) (Some (Some path)) c) i
    ≡ map (set_item name path None) (under_change c i)
one_set name path c i stays = grind arith

pub overlaid_set : (cs ds : Changes) (name : List ℕ) (path : Path) (is : List Item) → Puts cs name (Some path) ds →
    drops (change_at cs name) ≡ false → under_changes ds is ≡ map (set_item name path None) (under_changes cs is)
overlaid_set cs ds name path [] puts stays = refl
overlaid_set cs ds name path (i ∷ is) puts stays =
    let c = change_at cs i.name in
    let one = one_set name path c i (λ h. ap (λ (q : List ℕ). drops (change_at cs q)) (same_is i.name name h) ∙ stays) in
    rw (puts i.name, same_flip name i.name, one, overlaid_set cs ds name path is puts stays)
    (sym (map-append (set_item name path None) (under_change c i) (under_changes cs is)))

-- the items of other names
abbrev pub others : List ℕ → List Item → List Item
others name is = filter (λ i. not (same_name i.name name)) is

one_dropped : (name : List ℕ) (c : Option (Option Path)) (i : Item) →
    under_change (cond (same_name i.name name) (Some None) c) i ≡ others name (under_change c i)
one_dropped name c i = grind arith

pub overlaid_drop : (cs ds : Changes) (name : List ℕ) (is : List Item) → Puts cs name None ds →
    under_changes ds is ≡ others name (under_changes cs is)
overlaid_drop cs ds name [] puts = refl
overlaid_drop cs ds name (i ∷ is) puts =
    let c = change_at cs i.name in
    rw (puts i.name, same_flip name i.name, one_dropped name c i, overlaid_drop cs ds name is puts)
    (sym (filter-append (λ (j : Item). not (same_name j.name name)) (under_change c i) (under_changes cs is)))

-- ---- a list under changes, with new paths at the end

-- what changes only the path of that name
pub record ActsOn (name : List ℕ) (f : List Item → List Item) : Type 0 where
  pub split : (us vs : List Item) → f (us ++ vs) ≡ f us ++ f vs
  pub free : (us : List Item) → absent us name → f us ≡ us

pub sets : (name : List ℕ) (path : Path) → ActsOn name (map (set_item name path None))
sets name path = record {
  split = map-append (set_item name path None);
  free = λ us off. sets_none us name path None off;
}

pub removes : (name : List ℕ) → ActsOn name (others name)
removes name = record {
  split = filter-append (λ i. not (same_name i.name name));
  free = λ us off. none_filtered us name off;
}

-- in the list, or among the new paths
module _ {name : List ℕ} {f : List Item → List Item} (acts : ActsOn name f) (xs ys zs : List Item) where
  pub acts_before : zs ≡ f xs → absent ys name → zs ++ ys ≡ f (xs ++ ys)
  acts_before e off = rw (acts.split xs ys, e, acts.free ys off) refl

  pub acts_behind : zs ≡ f ys → NamesDiffer (all_named (xs ++ ys)) → has_name ys name ≡ true → xs ++ zs ≡ f (xs ++ ys)
  acts_behind e d there = rw (acts.split xs ys, e, acts.free xs (first_absent xs ys name d there)) refl

-- a path of the list that is not among the new ones is not removed
pub not_dropped : (cs : Changes) (is ys : List Item) (name : List ℕ) →
    has_name (under_changes cs is ++ ys) name ≡ true → has_name ys name ≡ false → drops (change_at cs name) ≡ false
not_dropped cs is ys name there free = grind (arith, both_have (under_changes cs is) ys name, overlaid_has cs is name)

-- ---- copying the changed list, path by path

pub overlaid_none : (is : List Item) → under_changes [] is ≡ is
overlaid_none [] = refl
overlaid_none (i ∷ is) = ap (λ (js : List Item). i ∷ js) (overlaid_none is)

overlaid_name : (c : Option (Option Path)) (i j : Item) → under_change c i ≡ j ∷ [] → j.name ≡ i.name
overlaid_name c i j e = grind arith

-- what was copied, so that the paths that are left give the whole
pub record Copied (cs : Changes) (left is to now : List Item) : Type 0 where
  pub done : List Item
  pub put : now ≡ to ++ done
  pub rest : done ++ under_changes cs left ≡ under_changes cs is

module _ (cs : Changes) (left is to now : List Item) (i : Item) (h : Copied cs (i ∷ left) is to now) where
  -- one more is added if none has its name
  pub put_free : (n : NamedPath) (j : Item) → under_change (change_at cs i.name) (item_of i.name n) ≡ j ∷ [] →
      item_of i.name n ≡ i → NamesDiffer (all_named (to ++ under_changes cs is)) → absent now i.name
  put_free n j e same d =
      let c = change_at cs i.name in
      let is_j : under_change c i ≡ j ∷ [] = ap (under_change c) (sym same) ∙ e in
      let rest = under_changes cs left in
      let all : to ++ under_changes cs is ≡ now ++ j ∷ rest =
      rw (← h.rest, is_j, h.put, append_assoc to h.done (j ∷ rest)) refl in
      let here : same_name j.name j.name ≡ true = (bytes_decides j.name j.name).1 refl in
      rw (← overlaid_name c i j is_j)
      (first_absent now (j ∷ rest) j.name (subst (λ (js : List Item). NamesDiffer (all_named js)) all d) (rw here))

-- ---- no changes, and two lists, one after the other

pub no_changes : (es : Entered) (added is : List Item) → es ≡ [] → added ≡ [] →
    under_changes (changes_in es) is ++ added ≡ is
no_changes es added is none empty = rw (none, empty, append-nil (under_changes [] is)) (overlaid_none is)

pub behind_none : (es : Entered) (xs ys : List Item) → es ≡ [] → xs ++ under_changes (changes_in es) ys ≡ xs ++ ys
behind_none es xs ys none = rw (none, overlaid_none ys) refl
