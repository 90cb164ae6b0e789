-- Changes over a list of named paths.
--     Changes, change_at cs name      changes of paths by their names: a replacement, or None if the path is
--         removed
--     under_changes cs is      the list with these changes.
--     under_overlay is o      the list with the changes of an overlay, and the new paths at the end
--     RemovesNone cs      no path is removed
use Rattle.std.specs.Prelude.{◌≡◌, ℕ, Bool, true, false, cond, List, [], ◌∷◌, ◌++◌, map, Option, Some, None, option_map}
use Rattle.std.specs.Prelude.{string_bytes, String}
use Rattle.olr_spec.specs.Extension.{Path}
use Rattle.olr_commands.specs.State.{same_name}
use Rattle.olr_paths.specs.Items.{Item, items}
use Rattle.std.specs.declared.alloc.Global.{Global}
use Rattle.std.specs.declared.rc.Rc.{Rc}
use Rattle.olr_paths.specs.declared.overlay.Overlay.{Overlay}

abbrev pub Changes : Type 0
Changes = List (List ℕ × Option Path)

abbrev pub change_at : Changes → List ℕ → Option (Option Path)
change_at [] name = None
change_at (c ∷ cs) name = cond (same_name c.0 name) (Some c.1) (change_at cs name)

-- whether it is known that the path is removed
abbrev pub drops : Option (Option Path) → Bool
drops (Some None) = true
drops (Some (Some path)) = false
drops None = false

abbrev pub RemovesNone : Changes → Type 0
RemovesNone cs = (name : List ℕ) → drops (change_at cs name) ≡ false

-- one path under its change; a replacement is not encoded yet
abbrev pub under_change : Option (Option Path) → Item → List Item
under_change None i = i ∷ []
under_change (Some None) i = []
under_change (Some (Some path)) i = record { name = i.name; path = path; results = None } ∷ []

abbrev pub under_changes : Changes → List Item → List Item
under_changes cs [] = []
under_changes cs (i ∷ is) = under_change (change_at cs i.name) i ++ under_changes cs is

abbrev pub changes_in : List (String Global × Option (Rc Path Global)) → Changes
changes_in es = map (λ e. (string_bytes e.0, option_map (λ p. p.value) e.1)) es

abbrev pub overlay_changes : Overlay → Changes
overlay_changes o = changes_in o.changes.entries

abbrev pub under_overlay : List Item → Overlay → List Item
under_overlay is o = under_changes (overlay_changes o) is ++ items o.added
