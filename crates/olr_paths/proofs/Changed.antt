-- A list under changes that remove no path: position by position, and with new results stored.
--     changed_by cs i      one path under the changes.
--     Lies us vs      vs is us, with some paths replaced by paths that are not encoded yet
use Rattle.olr_paths.proofs.Common.{list_any, values_of, not, inl, inr, ◌≡◌, ◌⊎◌, ℕ, zero, suc, ◌+◌, true, false, cond, List, []}
use Rattle.olr_paths.proofs.Common.{◌∷◌, ◌++◌, map, length, slice_get, Option, Some, None, is_some, refl, sym, ap, ◌∙◌, subst}
use Rattle.olr_paths.proofs.Common.{arith, Path, same_name, path_named, NamesDiffer, Entry, Results, Item, all_named, Reported}
use Rattle.olr_paths.proofs.Common.{Changes, RemovesNone, change_at, drops, under_change, under_changes, Put, put, all_put}
use Rattle.olr_paths.proofs.Common.{string_bytes, Rc, same_is, changes_in, String, Global, without_answer, length-map}
use Rattle.std.proofs.Common.{length-append}
use Rattle.std.proofs.lemmas.Bool.{or_parts}
use Rattle.olr_spec.proofs.Common.{not-false}
use Rattle.olr_paths.proofs.NamedEntries.{Entries, First, item_of, items_of, same_flip}
use Rattle.olr_paths.proofs.Overlaying.{Entered, has_name, path_in}

-- ---- one path

abbrev pub changed : Option (Option Path) → Item → Item
changed None i = i
changed (Some None) i = i
changed (Some (Some path)) i = record { name = i.name; path = path; results = None }

abbrev pub changed_by : Changes → Item → Item
changed_by cs i = changed (change_at cs i.name) i

pub one_changed : (c : Option (Option Path)) (i : Item) → drops c ≡ false → under_change c i ≡ changed c i ∷ []
one_changed c i h = grind arith

one_lies : (c : Option (Option Path)) (i : Item) → (i.name ≡ (changed c i).name)
    × (((changed c i).results ≡ None) ⊎ (i ≡ changed c i))
one_lies c i = grind arith

-- ---- the list, position by position

pub all_changed : (cs : Changes) (is : List Item) → RemovesNone cs → under_changes cs is ≡ map (changed_by cs) is
all_changed cs [] h = refl
all_changed cs (i ∷ is) h =
    ap (λ (js : List Item). js ++ under_changes cs is) (one_changed (change_at cs i.name) i (h i.name))
    ∙ ap (λ (js : List Item). changed_by cs i ∷ js) (all_changed cs is h)

map_at : (f : Item → Item) (is ys : List Item) (k : ℕ) (i : Item) → slice_get is k ≡ Some i →
    slice_get (map f is ++ ys) k ≡ Some (f i)
map_at f [] ys k i at = absurd cc
map_at f (x ∷ is) ys zero i at = let same : x ≡ i = cc (at) in ap (λ (j : Item). Some (f j)) same
map_at f (x ∷ is) ys (suc k) i at = map_at f is ys k i at

map_behind : (f : Item → Item) (is ys : List Item) (k m : ℕ) → k ≡ length is + m →
    slice_get (map f is ++ ys) k ≡ slice_get ys m
map_behind f [] ys k m e = ap (slice_get ys) (let same : k ≡ m = omega arith in same)
map_behind f (x ∷ is) ys zero m e = absurd (omega arith)
map_behind f (x ∷ is) ys (suc k) m e = map_behind f is ys k m (omega arith)

abbrev Where : (Item → Item) → List Item → List Item → ℕ → Item → Type 0
Where f is ys k j =
    ((i : Item) × (slice_get is k ≡ Some i) × (j ≡ f i)) ⊎ ((m : ℕ) × (k ≡ length is + m) × (slice_get ys m ≡ Some j))

map_from : (f : Item → Item) (is ys : List Item) (k : ℕ) (j : Item) → slice_get (map f is ++ ys) k ≡ Some j →
    Where f is ys k j
map_from f [] ys k j at = inr (k, omega arith, at)
map_from f (x ∷ is) ys zero j at = let same : f x ≡ j = cc (at) in inl (x, refl, sym same)
map_from f (x ∷ is) ys (suc k) j at = grind (arith, map_from f is ys k j at)

module _ (cs : Changes) (is ys : List Item) (none_removed : RemovesNone cs) where
  abbrev pub whole : List Item
  whole = under_changes cs is ++ ys

  pub parts : whole ≡ map (changed_by cs) is ++ ys
  parts = ap (λ (js : List Item). js ++ ys) (all_changed cs is none_removed)

  pub overlaid_long : length whole ≡ length is + length ys
  overlaid_long =
      ap (λ (js : List Item). length js) parts ∙ length-append (map (changed_by cs) is) ys
      ∙ ap (λ (n : ℕ). n + length ys) (length-map is (changed_by cs))

  pub overlaid_at : (k : ℕ) (i : Item) → slice_get is k ≡ Some i → slice_get whole k ≡ Some (changed_by cs i)
  overlaid_at k i at = ap (λ (js : List Item). slice_get js k) parts ∙ map_at (changed_by cs) is ys k i at

  pub overlaid_behind : (k m : ℕ) → k ≡ length is + m → slice_get whole k ≡ slice_get ys m
  overlaid_behind k m e = ap (λ (js : List Item). slice_get js k) parts ∙ map_behind (changed_by cs) is ys k m e

  -- the path at a position was there and is unchanged, or replaces another, or is new
  pub overlaid_from : (k : ℕ) (j : Item) → slice_get whole k ≡ Some j → Where (changed_by cs) is ys k j
  overlaid_from k j at = map_from (changed_by cs) is ys k j (sym (ap (λ (js : List Item). slice_get js k) parts) ∙ at)

-- ---- storing the new results in either list has the same outcome

abbrev pub Lies : List Item → List Item → Type 0
Lies [] vs = vs ≡ []
Lies (a ∷ us) [] = ⊥
Lies (a ∷ us) (b ∷ vs) = (a.name ≡ b.name) × ((b.results ≡ None) ⊎ (a ≡ b)) × Lies us vs

lies_itself : (is : List Item) → Lies is is
lies_itself [] = refl
lies_itself (i ∷ is) = (refl, inr refl, lies_itself is)

map_lies : (cs : Changes) (is ys : List Item) → Lies (is ++ ys) (map (changed_by cs) is ++ ys)
map_lies cs [] ys = lies_itself ys
map_lies cs (i ∷ is) ys = let one = one_lies (change_at cs i.name) i in (one.0, one.1, map_lies cs is ys)

pub overlaid_lies : (cs : Changes) (is ys : List Item) → RemovesNone cs → Lies (is ++ ys) (under_changes cs is ++ ys)
overlaid_lies cs is ys none_removed =
    subst (λ (js : List Item). Lies (is ++ ys) js) (sym (parts cs is ys none_removed)) (map_lies cs is ys)

put_lies : (us vs : List Item) (k : ℕ) (path : Path) (results : Option Results) → Lies us vs →
    Lies (put us k path results) (put vs k path results)
put_lies [] vs k path results h = ap (λ (js : List Item). put js k path results) h
put_lies (a ∷ us) [] k path results h = absurd h
put_lies (a ∷ us) (b ∷ vs) zero path results h = grind arith
put_lies (a ∷ us) (b ∷ vs) (suc k) path results h = (h.0, h.1, put_lies us vs k path results h.2)

all_put_lies : (us vs : List Item) (ps : List Put) → Lies us vs → Lies (all_put us ps) (all_put vs ps)
all_put_lies us vs [] h = h
all_put_lies us vs (p ∷ ps) h = put_lies (all_put us ps) (all_put vs ps) p.position p.path p.results
    (all_put_lies us vs ps h)

-- if each path is reported, none is a replacement that is not encoded yet
lies_same : (before us vs : List Item) (es : List Entry) → Lies us vs → Reported before vs es → us ≡ vs
lies_same before [] vs es h returned = sym h
lies_same before (a ∷ us) [] es h returned = absurd h
lies_same before (a ∷ us) (b ∷ vs) es h returned = grind (arith, lies_same before us vs returned.1 h.2 returned.3)

pub put_on_overlaid : (cs : Changes) (before is ys : List Item) (ps : List Put) (es : List Entry) → RemovesNone cs →
    Reported before (all_put (under_changes cs is ++ ys) ps) es →
    all_put (is ++ ys) ps ≡ all_put (under_changes cs is ++ ys) ps
put_on_overlaid cs before is ys ps es none_removed returned =
    lies_same before _ _ es (all_put_lies _ _ ps (overlaid_lies cs is ys none_removed)) returned

-- so it has where no path was encoded yet
without_lies : (is : List Item) → Lies is (map without_answer is)
without_lies [] = refl
without_lies (i ∷ is) = (refl, inl refl, without_lies is)

pub put_on_without : (before is : List Item) (ps : List Put) (es : List Entry) →
    Reported before (all_put (map without_answer is) ps) es → all_put is ps ≡ all_put (map without_answer is) ps
put_on_without before is ps es returned =
    lies_same before _ _ es (all_put_lies _ _ ps (without_lies is)) returned

-- ---- names

has_one : (i : Item) (L : List Item) (name : List ℕ) →
    has_name (i ∷ L) name ≡ cond (same_name i.name name) true (has_name L name)
has_one i L name = grind arith

names_of_both : (us vs : List Item) (name : List ℕ) → Lies us vs → has_name us name ≡ has_name vs name
names_of_both [] vs name h = ap (λ (js : List Item). has_name js name) (sym h)
names_of_both (a ∷ us) [] name h = absurd h
names_of_both (a ∷ us) (b ∷ vs) name h = grind (arith, names_of_both us vs name h.2)

pub lies_differ : (us vs : List Item) → Lies us vs → NamesDiffer (all_named vs) → NamesDiffer (all_named us)
lies_differ [] vs h d = tt
lies_differ (a ∷ us) [] h d = absurd h
lies_differ (a ∷ us) (b ∷ vs) h d =
    (ap (has_name us) h.0 ∙ names_of_both us vs b.name h.2 ∙ d.0, lies_differ us vs h.2 d.1)

pub grown_differ : (cs : Changes) (is ys : List Item) → RemovesNone cs →
    NamesDiffer (all_named (under_changes cs is ++ ys)) → NamesDiffer (all_named (is ++ ys))
grown_differ cs is ys none_removed d = lies_differ (is ++ ys) (under_changes cs is ++ ys) (overlaid_lies cs is ys none_removed) d

-- ---- which names have changes

pub change_left : (es : Entered) (e : String Global × Option (Rc Path Global)) (name : List ℕ) →
    change_at (changes_in es) name ≡ None → same_name (string_bytes e.0) name ≡ false →
    change_at (changes_in (e ∷ es)) name ≡ None
change_left es e name none other = rw other none

stays_so : (o : Option (Rc Path Global)) → is_some o ≡ true → drops (Some (path_in o)) ≡ false
stays_so o h = grind arith

-- if each change is a replacement, no path is removed
pub none_removed : (es : Entered) → list_any (λ o. not (is_some o)) (values_of es) ≡ false → RemovesNone (changes_in es)
none_removed [] h name = refl
none_removed (e ∷ es) h name =
    let parts = or_parts (not (is_some e.1)) (list_any (λ o. not (is_some o)) (values_of es)) h in
    grind (arith, stays_so e.1 (not-false _ parts.0), none_removed es parts.1 name)

-- ---- the position of a name

there_named : (is : List Item) (k : ℕ) (i : Item) (name : List ℕ) → slice_get is k ≡ Some i →
    same_name i.name name ≡ true → has_name is name ≡ true
there_named [] k i name at same = absurd cc
there_named (x ∷ is) zero i name at same = let e : x ≡ i = cc (at) in grind (arith, has_one x is name)
there_named (x ∷ is) (suc k) i name at same = grind (arith, has_one x is name, there_named is k i name at same)

-- the first path of a name is the only one
pub first_only : (es : Entries) (name : List ℕ) (q k : ℕ) (i : Item) → First name es q →
    NamesDiffer (all_named (items_of es)) → slice_get (items_of es) k ≡ Some i → same_name i.name name ≡ true → q ≡ k
first_only [] name q k i h d at same = absurd h
first_only (e ∷ es) name zero zero i h d at same = refl
first_only (e ∷ es) name zero (suc k) i h d at same =
    let free = d.0 in
    let is : name ≡ string_bytes e.0 = same_is name (string_bytes e.0) h in
    absurd (grind (arith, there_named (items_of es) k i (string_bytes e.0) at))
first_only (e ∷ es) name (suc q) zero i h d at same =
    let is : item_of e ≡ i = cc (at) in
    let other = h.0 in
    absurd (grind (arith, same_flip name (string_bytes e.0)))
first_only (e ∷ es) name (suc q) (suc k) i h d at same = ap suc (first_only es name q k i h.1 d.1 at same)

pub not_there : (es : Entries) (name : List ℕ) (k : ℕ) (i : Item) →
    is_some (path_named (all_named (items_of es)) name) ≡ false → slice_get (items_of es) k ≡ Some i →
    same_name i.name name ≡ false
not_there es name k i free at = grind (arith, there_named (items_of es) k i name at)

-- ---- if nothing changes, no path is removed

pub none_removed_by : (cs : Changes) (ys : List Item) → ((is : List Item) → under_changes cs is ++ ys ≡ is) → RemovesNone cs
none_removed_by cs ys h name = is_there (change_at cs name) (h (i ∷ [])) where
  i : Item
  i = record { name = name; path = record { lines = []; pos = 0; neg = 0 }; results = None }

  is_there : (c : Option (Option Path)) → (under_change c i ++ []) ++ ys ≡ i ∷ [] → drops c ≡ false
  is_there None e = refl
  is_there (Some None) e = let empty : ys ≡ [] = h [] in absurd (cc (e, empty))
  is_there (Some (Some p)) e = refl
