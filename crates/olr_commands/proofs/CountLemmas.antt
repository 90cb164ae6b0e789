-- A path that is added or set outside of batches is encoded, and no other.
use Rattle.olr_commands.proofs.Common.{cases_Bool, both_ways, not-false, bytes_decides, Path, is_path}
use Rattle.std.proofs.Common.{rules, arith, inr, ◌⊎◌, ◌≡◌, ℕ, true, false, not, List, [], ◌∷◌, ◌++◌, map, Option, Some}
use Rattle.std.proofs.Common.{None, is_some, Ok, refl, ap, sym, subst, ◌∙◌}
use Rattle.std.proofs.Math.Bool.{or-false}
use Rattle.olr_commands.specs.State.{changes_made, NamesDiffer, Path_exists, with_change, path_named, same_name, with_path, Named}
use Rattle.olr_commands.specs.State.{Bad_path, Add_path, Set_path, Content, IsState, Change, State, when, Make, step}
use Rattle.olr_commands.specs.Counts.{Affects, By_name, By_node, By_line, CountIs, all_nodes, all_lines, gives, Raises}
use Rattle.olr_commands.proofs.NameLemmas.{same_is, not_named, set_name}
use Rattle.olr_commands.proofs.StateLemmas.{ends, when_ok, passed, steps_keep}

-- ---- one path of a list without repeats

-- the path of that name is the first, and the others have other names; or it is a later one
found : (p : Named) (ps : List Named) (name : List ℕ) (path : Path) → NamesDiffer (p ∷ ps) →
    path_named (p ∷ ps) name ≡ Some path
    → ((same_name p.name name ≡ true) × (p.path ≡ path) × (is_some (path_named ps name) ≡ false))
    ⊎ ((same_name p.name name ≡ false) × (path_named ps name ≡ Some path))
found p ps name path d h = search (rules, arith, cases_Bool, same_is)

-- what is counted of it
module _ (E : Named → Type 0) (name : List ℕ) (only : (p : Named) → E p → same_name p.name name ≡ true)
    (all : (p : Named) → same_name p.name name ≡ true → E p) where
  other : (p : Named) → same_name p.name name ≡ false → ¬ E p
  other p e h = both_ways (same_name p.name name) e (only p h)

  none_counted : (ps : List Named) → is_some (path_named ps name) ≡ false → CountIs E ps 0
  none_counted [] h = refl
  none_counted (p ∷ ps) h = let r = not_named p ps name h in inr (other p r.0, none_counted ps r.1)

  one_counted : (path : Path) (ps : List Named) → NamesDiffer ps → path_named ps name ≡ Some path → CountIs E ps 1
  one_counted path [] d h = absurd cc
  one_counted path (p ∷ ps) d h = grind (arith, found, none_counted, other, one_counted path ps d.1)

-- ---- the path of the name, after the change

path_at_end : (ps : List Named) (n : Named) → is_some (path_named ps n.name) ≡ false →
    path_named (ps ++ n ∷ []) n.name ≡ Some n.path
path_at_end [] n free = grind (arith, bytes_decides)
path_at_end (p ∷ ps) n free = grind (arith, not_named, path_at_end ps n)

path_set : (name : List ℕ) (path : Path) (ps : List Named) → is_some (path_named ps name) ≡ true →
    path_named (map (with_path name path) ps) name ≡ Some path
path_set name path [] h = absurd cc
path_set name path (p ∷ ps) h = grind (arith, set_name, cases_Bool, path_set name path ps)

-- ---- a change of one name

-- a change of one name affects only the path of that name
only_name : (c : Content) (x : Change) (name : List ℕ) → all_nodes c (x ∷ []) ≡ [] → all_lines (x ∷ []) ≡ [] →
    ((q : List ℕ) → gives q x ≡ same_name q name) → (p : Named) → Affects c (x ∷ []) p → same_name p.name name ≡ true
only_name c x name a b d p (By_name h) = sym (d p.name) ∙ sym (or-false (gives p.name x)) ∙ h
only_name c x name a b d p h = grind arith

by_name : (c : Content) (x : Change) (name : List ℕ) → ((q : List ℕ) → gives q x ≡ same_name q name) → (p : Named) →
    same_name p.name name ≡ true → Affects c (x ∷ []) p
by_name c x name d p h = By_name (or-false (gives p.name x) ∙ d p.name ∙ h)

-- ---- outside a batch

makes : (s : State) (x : Change) → s.batch ≡ None → changes_made s (Make x) ≡ x ∷ []
makes s x closed =
    ap (λ (o : Option (List Change)). changes_made (record { content = s.content; batch = o }) (Make x)) closed

-- the change that is made
made : (s t : State) (x : Change) → s.batch ≡ None → step s (Make x) ≡ Ok t → with_change s.content x ≡ Ok t.content
made s t x b is = ends (λ u. with_change s.content x ≡ Ok u.content) s t (Make x) is (rw b (λ d e. e))

added_path : (s t : State) (name : List ℕ) (path : Path) → s.batch ≡ None →
    step s (Make (Add_path name path)) ≡ Ok t → path_named t.content.paths name ≡ Some path
added_path s t name path b is =
    let n : Named = record { name = name; path = path } in
    let to = record s.content { paths = s.content.paths ++ n ∷ [] } in
    let p = when_ok _ Path_exists (when (not (is_path path.lines)) Bad_path (Ok to)) t.content
    (made s t (Add_path name path) b is) in
    passed (λ (d : Content). path_named d.paths name ≡ Some path) _ Bad_path to t.content p.1
    (path_at_end s.content.paths n p.0)

replaced_path : (s t : State) (name : List ℕ) (path : Path) → s.batch ≡ None →
    step s (Make (Set_path name path)) ≡ Ok t → path_named t.content.paths name ≡ Some path
replaced_path s t name path b is = grind (arith, when_ok, made, passed, path_set, not-false)

-- no change affects no path
pub unconcerned : (c : Content) (p : Named) → ¬ Affects c [] p
unconcerned c p (By_name h) = absurd cc
unconcerned c p (By_node v h f) = absurd cc
unconcerned c p (By_line x h f) = absurd cc

pub paths_raise : (s t : State) (name : List ℕ) (path : Path) → IsState s → s.batch ≡ None
    → (step s (Make (Add_path name path)) ≡ Ok t → Raises s (Make (Add_path name path)) t 1)
    × (step s (Make (Set_path name path)) ≡ Ok t → Raises s (Make (Set_path name path)) t 1)
paths_raise s t name path i b = (
  λ is. one (Add_path name path) refl refl (λ q. refl) (steps_keep s t (Make (Add_path name path)) i tt is)
      (added_path s t name path b is),
  λ is. one (Set_path name path) refl refl (λ q. refl) (steps_keep s t (Make (Set_path name path)) i tt is)
      (replaced_path s t name path b is),
)
  where
    one : (x : Change) → all_nodes s.content (x ∷ []) ≡ [] → all_lines (x ∷ []) ≡ [] →
        ((q : List ℕ) → gives q x ≡ same_name q name) → IsState t → path_named t.content.paths name ≡ Some path → Raises s (Make x) t 1
    one x nodes lines names keeps there =
        subst (λ (xs : List Change). CountIs (Affects s.content xs) t.content.paths 1) (sym (makes s x b))
        (one_counted (Affects s.content (x ∷ [])) name (only_name s.content x name nodes lines names)
        (by_name s.content x name names) path t.content.paths keeps.content.names there)
