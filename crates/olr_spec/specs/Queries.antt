-- The traversed nodes and the coverage queries of an encoding (profile).
--     NodeOf M ls v      v is an end of one of the lines
--     Traversed M ls b a v      v is on the extended path ls, or on one of the tried runs b and a
--     TraversedOf M P v      v is one of the traversed nodes of the path
--     Needed M ls i m      whether a position that is near enough may be the next LRP after i depends on whether
--         position m is covered
--     IsLastTestedWith g M ls i k      k is the last position that is tested: positions are tested in order from i + 1 on,
--         as long as they are covered and needed
--     CoverageQuery, query_to_with g M ls i k      a coverage query: where it begins, the node of position k, and what the
--         lines between count
--     KnownQuery, IsKnownWith g M ls e      a coverage query along a path's own lines ls, by its positions in them; that
--         it is right
--     AreKnownWith g M ls ks      each of these is
--     KnownOfWith g M ls queries ks      each of these is, and is one of the path's coverage queries
--     IsClear M C l      no detour over the changed lines C is as short
--     QueriesFromWith g M ls is queries, QueriesOfWith g M P queries      one coverage query for each LRP of the list is,
--         in order; the coverage queries of the path
use Rattle.std.specs.Prelude.{◌≡◌, ℕ, ◌+◌, ◌-◌, ◌<◌, ◌≤◌, min, Bool, List, [], ◌∷◌, length, filter, nat_lt, slice_index}
use Rattle.std.specs.Prelude.{MatchOption, Contains, ◌⊎◌, ◌↔◌, IsTrue}
use Rattle.std.specs.List.{All, AllZip}
use Rattle.olr_spec.specs.Margins.{Margin, CountedRoute, counted_dm_of}
use Rattle.olr_spec.specs.Map.{Map, start, end, has}
use Rattle.olr_spec.specs.Routes.{IsRoute, dm_of}
use Rattle.olr_spec.specs.Extension.{Path, Tried, extended_path, limit}
use Rattle.olr_spec.specs.Points.{stretch, CoveredWith, OfPathWith}
use Rattle.olr_spec.specs.Encoding.{path_fault}
use Rattle.olr_spec.specs.Detours.{ChangedLine, Detour}

-- ---- traversed nodes

abbrev pub NodeOf : Map → List ℕ → ℕ → Type 0
NodeOf M ls v = (x : ℕ) × IsTrue (has ls x) × ((start M x ≡ v) ⊎ (end M x ≡ v))

abbrev pub Traversed : Map → List ℕ → List ℕ → List ℕ → ℕ → Type 0
Traversed M ls b a v = NodeOf M ls v ⊎ (NodeOf M b v ⊎ NodeOf M a v)

pub record TraversedOfExtended (M : Map) (P : Path) (v : ℕ) : Type 0 where
  pub before : List ℕ
  pub after : List ℕ
  pub tried : Tried M P before after
  pub traversed : Traversed M (extended_path M P before after).lines before after v

-- none if the path's own lines give a reason
abbrev pub TraversedOf : Map → Path → ℕ → Type 0
TraversedOf M P v = MatchOption (path_fault M P) (TraversedOfExtended M P v) (λ _. ⊥)

-- ---- what is tested

-- position j is at most 15,000 m from i, and m is before j or is j; if j is the end, the last line is tested
abbrev pub Needed : Map → List ℕ → ℕ → ℕ → Type 0
Needed M ls i m = (j : ℕ) × (j ≤ length ls) × (dm_of M (stretch ls i j) ≤ limit) × (m ≤ min j (length ls - 1))

-- position i + 1 is where the search begins. It is the last one if no position after it is needed, as when line i is
-- longer than the limit
pub record IsLastTestedWith (g : Margin) (M : Map) (ls : List ℕ) (i k : ℕ) : Type 0 where
  pub after : i < k
  pub inside : k < length ls
  pub before : (m : ℕ) → i < m → m < k → CoveredWith g M ls i m
  pub needed : (k ≡ i + 1) ⊎ Needed M ls i k
  pub last : ¬ CoveredWith g M ls i k ⊎ ((m : ℕ) → Needed M ls i m → m ≤ k)

-- ---- coverage queries

-- two nodes, and a length in decimetres
pub record CoverageQuery : Type 0 where
  pub from : ℕ
  pub to : ℕ
  pub within : ℕ

-- from the end of line i to the start of line k, with the length of the lines between. If position k isn't covered,
-- this is still the length along the path, and not that of a shorter route
abbrev pub query_to_with : Margin → Map → List ℕ → ℕ → ℕ → CoverageQuery
query_to_with g M ls i k =
    record { from = end M (slice_index ls i); to = start M (slice_index ls k); within = counted_dm_of g M (stretch ls (i + 1) k) }

abbrev pub IsQueryWith : Margin → Map → List ℕ → ℕ → CoverageQuery → Type 0
IsQueryWith g M ls i l = (k : ℕ) × IsLastTestedWith g M ls i k × (l ≡ query_to_with g M ls i k)

-- the LRPs whose line is followed by two or more lines: for later ones nothing is searched
abbrev pub querying : List ℕ → List ℕ → List ℕ
querying ls is = filter (λ i. nat_lt (i + 2) (length ls)) is

-- the coverage query of each LRP, in order
abbrev pub QueriesFromWith : Margin → Map → List ℕ → List ℕ → List CoverageQuery → Type 0
QueriesFromWith g M ls is queries = AllZip (IsQueryWith g M ls) is queries

abbrev pub QueriesOfExtendedWith : Margin → Map → Path → List CoverageQuery → Type 0
QueriesOfExtendedWith g M P queries = OfPathWith g M P (λ E _ _ js. QueriesFromWith g M E.lines (querying E.lines (0 ∷ js)) queries)

-- none if the path's own lines give a reason
abbrev pub QueriesOfWith : Margin → Map → Path → List CoverageQuery → Type 0
QueriesOfWith g M P queries = MatchOption (path_fault M P) (QueriesOfExtendedWith g M P queries) (λ _. queries ≡ [])

-- ---- coverage queries along a path's own lines

-- from the start of line first to the end of line last - 1, whose position is covered or not
pub record KnownQuery : Type 0 where
  pub query : CoverageQuery
  pub first : ℕ
  pub last : ℕ
  pub covered : Bool

-- as far as the line before the last one the lines are the unique shortest path; and with this line exactly if the
-- position is covered. So nothing but routes from the query's one node to its other says whether this holds
pub record IsKnownWith (g : Margin) (M : Map) (ls : List ℕ) (e : KnownQuery) : Type 0 where
  pub order : e.first < e.last
  pub upto : e.last ≤ length ls
  pub route : IsRoute M e.query.from e.query.to (stretch ls e.first e.last)
  pub within : e.query.within ≡ counted_dm_of g M (stretch ls e.first e.last)
  pub before : (m : ℕ) → e.first ≤ m → m < e.last →
      CountedRoute g M e.query.from (start M (slice_index ls m)) (stretch ls e.first m)
  pub covered : IsTrue e.covered ↔ CountedRoute g M e.query.from e.query.to (stretch ls e.first e.last)

abbrev pub AreKnownWith : Margin → Map → List ℕ → List KnownQuery → Type 0
AreKnownWith g M ls ks = All (IsKnownWith g M ls) ks

pub record IsKnownOfWith (g : Margin) (M : Map) (ls : List ℕ) (queries : List CoverageQuery) (e : KnownQuery) : Type 0 where
  pub among : Contains queries e.query
  pub right : IsKnownWith g M ls e

abbrev pub KnownOfWith : Margin → Map → List ℕ → List CoverageQuery → List KnownQuery → Type 0
KnownOfWith g M ls queries ks = All (IsKnownOfWith g M ls queries) ks

-- no detour over the changed lines is as short as the path
abbrev pub IsClear : Map → List ChangedLine → CoverageQuery → Type 0
IsClear M C l = ¬ Detour M C l.from l.to l.within
