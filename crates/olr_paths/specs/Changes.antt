-- What a change of the map, or of one path, means for a list of named paths.
--     Touches N T X m P      a traversed node or a line of the path is touched, or a touched node is near to where a
--         coverage query begins, within its length and the limit
--     StayKnown N C ks rest      where the coverage queries ks along a path's own lines are right before the changed lines
--         C, with any margin, the queries rest are right on N
--     Reported before js es      an entry for each path whose answer is not the earlier one of its name, in order
--     AreEncoded is      each path was encoded
--     to_renew all is      the list or, where the margin was set, the list of which no path is encoded yet
use Rattle.std.specs.Prelude.{◌≡◌, ◌≢◌, ℕ, List, [], ◌∷◌, Contains, Option, Some, None, option_map, ◌⊎◌, IsTrue, ⊤}
use Rattle.std.specs.Prelude.{min, map, Bool, true, false, if◌then◌else◌}
use Rattle.olr_spec.specs.Map.{Map, has}
use Rattle.olr_search.specs.declared.frontier.TheConstants.{GREATEST_LIMIT}
use Rattle.olr_spec.specs.Extension.{Path}
use Rattle.olr_spec.specs.Margins.{Margin}
use Rattle.olr_spec.specs.Encoding.{Answer}
use Rattle.olr_spec.specs.Detours.{ChangedLine, Near, AccountsFor}
use Rattle.olr_spec.specs.Queries.{CoverageQuery, KnownQuery, AreKnownWith}
use Rattle.olr_commands.specs.State.{same_name}
use Rattle.olr_commands.specs.Reply.{Entry, entry}
use Rattle.olr_paths.specs.Items.{Results, Item, answer_in}

abbrev pub TraversedTouched : List ℕ → Results → Type 0
TraversedTouched T m = (v : ℕ) × IsTrue (has T v) × Contains m.traversed v

abbrev pub LineTouched : List ℕ → Path → Type 0
LineTouched X P = (x : ℕ) × IsTrue (has X x) × IsTrue (has P.lines x)

abbrev pub QueryTouched : Map → List ℕ → List CoverageQuery → Type 0
QueryTouched N T queries = (l : CoverageQuery) × Contains queries l × Near N T l.from (min l.within GREATEST_LIMIT)

abbrev pub Touches : Map → List ℕ → List ℕ → Results → Path → Type 0
Touches N T X m P = TraversedTouched T m ⊎ (LineTouched X P ⊎ QueryTouched N T m.queries)

abbrev pub StayKnown : Map → List ChangedLine → List KnownQuery → List KnownQuery → Type 0
StayKnown N C ks rest =
    (g : Margin) (M : Map) (ls : List ℕ) → AccountsFor C M N → AccountsFor C N M → AreKnownWith g M ls ks →
    AreKnownWith g N ls rest

abbrev pub Reported : List Item → List Item → List Entry → Type 0
Reported before [] es = es ≡ []
Reported before (j ∷ js) es =
    (A : Answer) × (rest : List Entry) × (option_map (λ m. m.answer) j.results ≡ Some A) × Reported before js rest
    × (((answer_in before j.name ≡ Some A) × (es ≡ rest))
    ⊎ ((answer_in before j.name ≢ Some A) × (es ≡ entry j.name A ∷ rest)))

abbrev pub AreEncoded : List Item → Type 0
AreEncoded [] = ⊤
AreEncoded (i ∷ is) = (i.results ≢ None) × AreEncoded is

abbrev pub without_answer : Item → Item
without_answer i = record i { results = None }

abbrev pub to_renew : Bool → List Item → List Item
to_renew false is = is
to_renew true is = map without_answer is

-- the path of that name is replaced
abbrev pub set_item : List ℕ → Path → Option Results → Item → Item
set_item name path results i = if same_name i.name name then record { name = i.name; path = path; results = results } else i
