-- By how much an accepted command raises the count of encodings.
--     gives name x      the change adds or sets the path of that name, or sets the margin, with which each path is encoded
--     Affected given g M T X P      the path is given, or its footprint on M has a touched node, or one of its lines was touched
--     Affects c xs p      the changes xs, made from the content c, affect the named path p
--     Picks P xs ys      ys are the elements of xs for which P holds, in order
--     CountIs P ps n      P holds of n of the elements
--     Raises s c t n      the accepted command, which leads from s to t, raises the count of encodings by n
use Rattle.std.specs.Prelude.{◌≡◌, ℕ, suc, Bool, true, false, List, [], ◌∷◌, ◌++◌, flat_map, ◌⊎◌, IsTrue}
use Rattle.std.specs.List.{list_any}
use Rattle.olr_spec.specs.Map.{Map, touched_nodes, touched_lines, has}
use Rattle.olr_spec.specs.Extension.{Path}
use Rattle.olr_spec.specs.Margins.{Margin}
use Rattle.olr_spec.specs.Footprint.{FootWith}
use Rattle.olr_commands.specs.State.{Named, Content, same_name, Change, On_map, Add_path, Set_path, Set_margin, next}
use Rattle.olr_commands.specs.State.{State, Command, changes_made}

-- the nodes and the lines that a change touches
abbrev pub nodes_of_change : Map → Change → List ℕ
nodes_of_change M (On_map e) = touched_nodes M e
nodes_of_change M _ = []

abbrev pub lines_of_change : Change → List ℕ
lines_of_change (On_map e) = touched_lines e
lines_of_change _ = []

abbrev pub gives : List ℕ → Change → Bool
gives name (Add_path other path) = same_name name other
gives name (Set_path other path) = same_name name other
gives name (Set_margin g) = true
gives name _ = false

-- the nodes that each change touches, on the map on which it is made
abbrev pub all_nodes : Content → List Change → List ℕ
all_nodes c [] = []
all_nodes c (x ∷ xs) = nodes_of_change c.map x ++ all_nodes (next c x) xs

abbrev pub all_lines : List Change → List ℕ
all_lines xs = flat_map lines_of_change xs

pub data Affected (given : Type 0) (g : Margin) (M : Map) (T X : List ℕ) (P : Path) : Type 0 where
  By_name : given → Affected given g M T X P
  By_node : (v : ℕ) → IsTrue (has T v) → FootWith g M P v → Affected given g M T X P
  By_line : (x : ℕ) → IsTrue (has X x) → IsTrue (has P.lines x) → Affected given g M T X P

-- a change gives the path, or touches a node of its footprint before all changes, or one of its lines
abbrev pub Affects : Content → List Change → Named → Type 0
Affects c xs p = Affected (IsTrue (list_any (gives p.name) xs)) c.margin c.map (all_nodes c xs) (all_lines xs) p.path

abbrev pub Picks : {A : Type 0} → (A → Type 0) → List A → List A → Type 0
Picks P [] ys = ys ≡ []
Picks {A} P (x ∷ xs) ys =
    (P x × ((rest : List A) × Picks P xs rest × (ys ≡ x ∷ rest))) ⊎ ((¬ P x) × Picks P xs ys)

abbrev pub CountIs : {A : Type 0} → (A → Type 0) → List A → ℕ → Type 0
CountIs P [] n = n ≡ 0
CountIs P (x ∷ xs) n = (P x × ((m : ℕ) × CountIs P xs m × (n ≡ suc m))) ⊎ ((¬ P x) × CountIs P xs n)

-- the number of affected paths of the later list, each counted once
abbrev pub Raises : State → Command → State → ℕ → Type 0
Raises s c t n = CountIs (Affects s.content (changes_made s c)) t.content.paths n
