-- A register as its callers see it, and what its calls promise of whole commands.
--     Registered      the state that it represents, and the counts of its work
--     PublishedWhole c name results      what is published under a name, with traversed nodes and coverage queries
--     HaveEncodings g M ps xs      the names of the paths in order, each with an encoding of the path on the map.
--     AllPublished c xs      the same for all paths of a content
--     Applied old c o new      from each state that old represents, the command leads with this outcome to a state
--         that new represents
--     Counted old c new      by how much an accepted command raises the count of encodings
use Rattle.std.specs.Prelude.{◌≡◌, ℕ, List, Option, Some, None, [], ◌∷◌, MatchOption, IsSomeAnd}
use Rattle.std.specs.Coded.{Coded, code_by, coded_ℕ, coded×}
use Rattle.std.proofs.Common.{refl}
use Rattle.olr_spec.specs.Map.{Map}
use Rattle.olr_spec.specs.Margins.{Margin}
use Rattle.olr_search.specs.declared.work.Work.{Work}
use Rattle.olr_search.specs.Counts.{no_work, raised_count}
use Rattle.olr_commands.specs.State.{State, Content, Named, no_content, path_named, Command}
use Rattle.olr_commands.specs.Reply.{Outcome, IsOutcome}
use Rattle.olr_commands.specs.Counts.{Raises}
use Rattle.olr_paths.specs.Items.{Results, IsEncodingOf}
use Rattle.olr_register.specs.RegisterState.{RegisterState, Represents, coded_register_state}

pub record Registered : Type 0 where
  pub state : RegisterState
  pub work : Work

abbrev pub coded_work : Coded Work
coded_work =
    code_by (ℕ × (ℕ × ℕ)) (coded× coded_ℕ (coded× coded_ℕ coded_ℕ)) (λ w. (w.encodings, (w.searches, w.settled)))
    (λ t. record { encodings = t.0; searches = t.1.0; settled = t.1.1 }) (λ _. refl)

abbrev pub coded_registered : Coded Registered
coded_registered =
    code_by (RegisterState × Work) (coded× coded_register_state coded_work) (λ r. (r.state, r.work))
    (λ t. record { state = t.0; work = t.1 }) (λ _. refl)

-- no paths, an empty map, and counts of 0
abbrev pub nothing_registered : Registered
nothing_registered =
    record {
      state = record { content = no_content; batch = None };
      work = no_work;
    }

-- an encoding of the path on the map
abbrev pub PublishedWhole : Content → List ℕ → Option Results → Type 0
PublishedWhole c name results =
    MatchOption (path_named c.paths name) (results ≡ None) (λ P. IsSomeAnd results (IsEncodingOf c.margin c.map P))

abbrev pub HaveEncodings : Margin → Map → List Named → List (List ℕ × Option Results) → Type 0
HaveEncodings g M [] xs = xs ≡ []
HaveEncodings g M (p ∷ ps) xs =
    (m : Results) × (rest : List (List ℕ × Option Results)) × IsEncodingOf g M p.path m × HaveEncodings g M ps rest
    × (xs ≡ (p.name, Some m) ∷ rest)

abbrev pub AllPublished : Content → List (List ℕ × Option Results) → Type 0
AllPublished c xs = HaveEncodings c.margin c.map c.paths xs

abbrev pub Applied : Registered → Command → Outcome → Registered → Type 0
Applied old c o new = (s : State) → Represents old.state s → (t : State) × Represents new.state t × IsOutcome s c o t

-- for each two states of such a step: the number of encodings by which it raises the count, which saturates at 64 bits
abbrev pub Counted : Registered → Command → Registered → Type 0
Counted old c new =
    (s t : State) → Represents old.state s → Represents new.state t → (n : ℕ) × Raises s c t n
    × (new.work.encodings ≡ raised_count old.work.encodings n)
