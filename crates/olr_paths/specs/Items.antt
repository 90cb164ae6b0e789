-- A list of named paths, each with what is published of it.
--     Results      the results of a path: answer, traversed nodes, coverage queries, and those along its own lines.
--     IsEncodingOf g M P m      they are the results of the path on the map, with the margin
--     Item      a name, its path and, if it was encoded, its results.
--     results_of_named n, item_of name n      the results of an entry of a list, if it was encoded; and its item under a name
--     items l, left it      the items of a list;  what an iterator has left: the names and the results
--     AreEncodings g M is      each path was encoded, with results that are right on the map.
--     AreEncodingsIfAny g M is      the same for each path that was encoded
use Rattle.std.specs.Prelude.{◌≡◌, ℕ, List, [], ◌∷◌, map, Contains, if◌then◌else◌, Option, Some, None, option_map}
use Rattle.std.specs.Prelude.{IfSome, string_bytes, ◌↔◌, ⊤}
use Rattle.olr_spec.specs.Map.{Map}
use Rattle.olr_spec.specs.Extension.{Path}
use Rattle.olr_spec.specs.Encoding.{Answer, EncodesWith}
use Rattle.olr_spec.specs.Margins.{Margin}
use Rattle.olr_spec.specs.Queries.{CoverageQuery, KnownQuery, TraversedOf, QueriesOfWith, KnownOfWith}
use Rattle.olr_answers.specs.Answers.{answer_of}
use Rattle.olr_commands.specs.State.{Named, same_name}
use Rattle.olr_paths.specs.declared.published.Published.{Published as Encoded}
use Rattle.olr_paths.specs.declared.path_list.NamedPath.{NamedPath}
use Rattle.olr_paths.specs.declared.path_list.PathList.{PathList}
use Rattle.olr_paths.specs.declared.iter.Iter.{Iter}

pub record Results : Type 0 where
  pub answer : Answer
  pub traversed : List ℕ
  pub queries : List CoverageQuery
  pub known : List KnownQuery

pub record Item : Type 0 where
  pub name : List ℕ
  pub path : Path
  pub results : Option Results

-- ---- Rust's values as these

abbrev pub results_of : Encoded → Results
results_of p =
    record {
      answer = answer_of p.answer;
      traversed = p.traversed;
      queries = p.queries.items;
      known = p.known.items;
    }

abbrev pub results_of_named : NamedPath → Option Results
results_of_named n = option_map (λ p. results_of p.value) n.published

abbrev pub item_of : List ℕ → NamedPath → Item
item_of name n = record { name = name; path = n.path.value; results = results_of_named n }

abbrev pub items : PathList → List Item
items l = map (λ e. item_of (string_bytes e.0) e.1) l.paths.entries

abbrev pub left : Iter → List (List ℕ × Option Results)
left it = map (λ e. (string_bytes e.0, results_of_named e.1)) it.entries

-- ---- what is right on a map

pub record IsEncodingOf (g : Margin) (M : Map) (P : Path) (m : Results) : Type 0 where
  pub answer : EncodesWith g M P m.answer
  pub traversed : (v : ℕ) → Contains m.traversed v ↔ TraversedOf M P v
  pub queries : QueriesOfWith g M P m.queries
  pub known : KnownOfWith g M P.lines m.queries m.known

abbrev pub AreEncodings : Margin → Map → List Item → Type 0
AreEncodings g M [] = ⊤
AreEncodings g M (i ∷ is) = ((m : Results) × (i.results ≡ Some m) × IsEncodingOf g M i.path m) × AreEncodings g M is

abbrev pub AreEncodingsIfAny : Margin → Map → List Item → Type 0
AreEncodingsIfAny g M [] = ⊤
AreEncodingsIfAny g M (i ∷ is) = IfSome i.results (IsEncodingOf g M i.path) × AreEncodingsIfAny g M is

-- ---- the list in terms of the register's definitions

abbrev pub named_of : Item → Named
named_of i = record { name = i.name; path = i.path }

abbrev pub all_named : List Item → List Named
all_named is = map named_of is

-- the known coverage queries of results, if there are some
abbrev pub known_in : Option Results → List KnownQuery
known_in None = []
known_in (Some m) = m.known

-- the results of the path of that name
abbrev pub results_in : List Item → List ℕ → Option Results
results_in [] name = None
results_in (i ∷ is) name = if same_name i.name name then i.results else results_in is name

abbrev pub answer_in : List Item → List ℕ → Option Answer
answer_in is name = option_map (λ m. m.answer) (results_in is name)
