-- What a change of the map makes of a list of named paths.
--     IsBefore g M N T X C is      the results of the list are right on M with the margin, and edits led from M to N
--     IsAffected g M T X i      the path was not encoded yet, or touched nodes or lines affect it
--     AffectedNames g M T X is names      the names of those of a list, in order
--     AreReencoded g N is js      each path has results that are right on N
--     Follows before is      each path that was encoded has the earlier answer of its name
use Rattle.std.specs.Prelude.{◌≡◌, ℕ, List, [], ◌∷◌, map, Contains, Some, None, option_map, ◌⊎◌, IsTrue, ⊤}
use Rattle.std.specs.List.{AllByRecursion}
use Rattle.olr_spec.specs.Map.{Map, IsMap, has}
use Rattle.olr_spec.specs.Extension.{is_path}
use Rattle.olr_spec.specs.Margins.{Margin, is_margin}
use Rattle.olr_spec.specs.Detours.{ChangedLine, Difference}
use Rattle.olr_commands.specs.Counts.{Affected, Picks}
use Rattle.olr_paths.specs.Items.{Results, Item, IsEncodingOf, AreEncodingsIfAny, answer_in}

abbrev pub with_results : Item → Results → Item
with_results i m = record i { results = Some m }

pub record IsBefore (g : Margin) (M N : Map) (T X : List ℕ) (C : List ChangedLine) (is : List Item) : Type 0 where
  pub margin : IsTrue (is_margin g)
  pub sound : IsMap M
  pub difference : Difference T X C M N
  pub starts : (c : ChangedLine) → Contains C c → IsTrue (has T c.from)
  pub paths : AllByRecursion (λ i. IsTrue (is_path i.path.lines)) is
  pub results : AreEncodingsIfAny g M is

abbrev pub IsAffected : Margin → Map → List ℕ → List ℕ → Item → Type 0
IsAffected g M T X i = Affected (i.results ≡ None) g M T X i.path

abbrev pub AffectedNames : Margin → Map → List ℕ → List ℕ → List Item → List (List ℕ) → Type 0
AffectedNames g M T X is names =
    (js : List Item) × Picks (IsAffected g M T X) is js × (names ≡ map (λ i. i.name) js)

abbrev pub IsReencoded : Margin → Map → Item → Item → Type 0
IsReencoded g N i j = (m : Results) × IsEncodingOf g N i.path m × (j ≡ with_results i m)

abbrev pub AreReencoded : Margin → Map → List Item → List Item → Type 0
AreReencoded g N [] js = js ≡ []
AreReencoded g N (i ∷ is) [] = ⊥
AreReencoded g N (i ∷ is) (j ∷ js) = IsReencoded g N i j × AreReencoded g N is js

abbrev pub Follows : List Item → List Item → Type 0
Follows before [] = ⊤
Follows before (i ∷ is) =
    ((i.results ≡ None) ⊎ (answer_in before i.name ≡ option_map (λ m. m.answer) i.results)) × Follows before is
