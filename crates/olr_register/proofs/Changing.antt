-- What a change makes of the content of a map and a list.
use Rattle.olr_register.proofs.Common.{arith, Bool, true, false, not, List, filter, Result, Named, Fault, Memory, Margin, Lacks}
use Rattle.olr_register.proofs.Common.{◌≡◌, Option, is_path, Content, No_path, with_map, set_item, has_name, MapFault, Bad_path}
use Rattle.olr_register.proofs.Common.{ℕ, with_change, is_reported_first, MatchResult, edit_fault_of, Path_exists, map_fault_of}
use Rattle.olr_register.proofs.Common.{[], same_name, has_path, Add_path, Set_path, Drop_path, content_on, MayReport, Map_fault}
use Rattle.olr_register.proofs.Common.{◌∷◌, ◌++◌, map, Ok, Err, IsOk, refl, sym, ap, Map, Path, when, Results, Item}
use Rattle.olr_map.specs.declared.judging.EditPlan.{EditPlan}
use Rattle.olr_model.specs.declared.edit.EditFault.{EditFault}
use Rattle.olr_register.proofs.Listed.{names_add, names_set, names_drop}

abbrev content_from : Margin → Map → List Named → Result Content Fault
content_from g M ps = Ok (record { map = M; paths = ps; margin = g })

-- ---- the fault of the name takes precedence, then that of the lines

pub bad_path_last : (b : Bool) (c : Content) (g : Fault) → when b Bad_path (Ok c) ≡ Err g → is_reported_first g ≡ false
bad_path_last b c g e = grind arith

-- the fault of a path that is made after its name was tested
abbrev pub PathFails : Bool → Fault → Path → Fault → Type 0
PathFails wrong g path f = (d : Content) → MayReport (when wrong g (when (not (is_path path.lines)) Bad_path (Ok d))) f

pub add_refused : (c : Content) (name : List ℕ) (path : Path) (wrong : Bool) (f : Fault) → wrong ≡ has_path c name →
    PathFails wrong Path_exists path f → MayReport (with_change c (Add_path name path)) f
add_refused c name path wrong f is fails = rw (← is) (fails _)

pub set_refused : (c : Content) (name : List ℕ) (path : Path) (wrong : Bool) (f : Fault) → wrong ≡ not (has_path c name) →
    PathFails wrong No_path path f → MayReport (with_change c (Set_path name path)) f
set_refused c name path wrong f is fails = rw (← is) (fails _)

pub drop_lacks : (c : Content) (name : List ℕ) → has_path c name ≡ true →
    MayReport (with_change c (Drop_path name)) Memory
drop_lacks c name there = rw there (Lacks refl (λ g e. absurd cc))

-- ---- faults of an edit, from the result of judging it

reported_by_map : (g : MapFault) → map_fault_of (edit_fault_of g) ≡ Map_fault g
reported_by_map g = grind arith

pub edit_refused : (c : Content) (r : Result Map MapFault) (f : EditFault) →
    MatchResult r (λ _. IsOk {T = EditPlan} (Err f))
    (λ g. ◌≡◌ {A = Result EditPlan EditFault} (Err f) (Err (edit_fault_of g))) → with_map c r ≡ Err (map_fault_of f)
edit_refused c r f h = grind (arith, reported_by_map)

pub edit_lacks : (c : Content) (r : Result Map MapFault) → IsOk r → MayReport (with_map c r) Memory
edit_lacks c (Ok N) h = Lacks refl (λ g e. absurd cc)
edit_lacks c (Err g) h = absurd cc

-- ---- accepted, with these results of the path

pub add_ok : (g : Margin) (M : Map) (is : List Item) (name : List ℕ) (path : Path) (results : Option Results) → has_name is name ≡ false →
    is_path path.lines ≡ true → with_change (content_on g M is) (Add_path name path)
    ≡ Ok (content_on g M (is ++ record { name = name; path = path; results = results } ∷ []))
add_ok g M is name path results free good = rw (free, good) (ap (content_from g M) (sym (names_add is _)))

pub set_ok : (g : Margin) (M : Map) (is : List Item) (name : List ℕ) (path : Path) (results : Option Results) → has_name is name ≡ true →
    is_path path.lines ≡ true
    → with_change (content_on g M is) (Set_path name path) ≡ Ok (content_on g M (map (set_item name path results) is))
set_ok g M is name path results there good = rw (there, good) (ap (content_from g M) (sym (names_set name path results is)))

pub drop_ok : (g : Margin) (M : Map) (is : List Item) (name : List ℕ) → has_name is name ≡ true →
    with_change (content_on g M is) (Drop_path name) ≡ Ok (content_on g M (filter (λ i. not (same_name i.name name)) is))
drop_ok g M is name there = rw there (ap (content_from g M) (sym (names_drop name is)))
