-- Which action a renewal takes for a path.
--     Retains N T X C m P      no traversed node and no line of the path is touched, and each coverage query is clear
--     ToName N T X results P      it was not encoded yet, or the edits affect it
--     IsActionFor      the action for a path
use Rattle.std.specs.Prelude.{◌≡◌, ℕ, List, All, Option, Some, None, ◌⊎◌}
use Rattle.olr_spec.specs.Map.{Map}
use Rattle.olr_spec.specs.Detours.{ChangedLine}
use Rattle.olr_spec.specs.Extension.{Path}
use Rattle.olr_spec.specs.Queries.{IsClear}
use Rattle.olr_paths.specs.Items.{Results, known_in}
use Rattle.olr_paths.specs.Changes.{TraversedTouched, LineTouched, Touches, StayKnown}
use Rattle.olr_renewal.specs.declared.actions.Action.{Action}
use Rattle.olr_renewal.specs.declared.actions.Action.TheVariants.{Skip, Retain, Encode}

pub record Retains (N : Map) (T X : List ℕ) (C : List ChangedLine) (m : Results) (P : Path) : Type 0 where
  pub traversed : ¬ TraversedTouched T m
  pub lines : ¬ LineTouched X P
  pub clear : All (IsClear N C) m.queries

abbrev pub ToSkip : Map → List ℕ → List ℕ → Option Results → Path → Type 0
ToSkip N T X results P = (m : Results) × (results ≡ Some m) × ¬ Touches N T X m P

abbrev pub ToName : Map → List ℕ → List ℕ → Option Results → Path → Type 0
ToName N T X results P = (results ≡ None) ⊎ ((m : Results) × (results ≡ Some m) × Touches N T X m P)

abbrev pub ToRetain : Map → List ℕ → List ℕ → List ChangedLine → Option Results → Path → Type 0
ToRetain N T X C results P = (m : Results) × (results ≡ Some m) × Touches N T X m P × Retains N T X C m P

abbrev pub IsActionFor : Map → List ℕ → List ℕ → List ChangedLine → Option Results → Path → Action → Type 0
IsActionFor N T X C results P Skip = ToSkip N T X results P
IsActionFor N T X C results P Retain = ToRetain N T X C results P
IsActionFor N T X C results P (Encode ks) = ToName N T X results P × StayKnown N C (known_in results) ks.items
