-- Which path ids a finder has, and that it has the entries of each path.
--     keys_in k      what a path is found by, as lists
--     named_keys n      what a path of a list is found by; nothing if it is not encoded
--     AllNoted number i path_id xs      each of these has the path id, by its number
--     IsNoted      all that a path is found by, if the entries are there
--     AddsOnly i j      each number still has its path ids
--     ChangesOnly path_id i j      each number has the same path ids, except for one id
--     Grows f g, Spares f g path_id      the same two for a finder
--     AreNoted es path_ids f      each path that was encoded has index entries with the id at its position
--     AreNotedAt path_ids f fresh      the results for positions have index entries with their path ids
--     ArePublished es      each path was encoded
use Rattle.std.specs.Prelude.{◌≡◌, ◌≢◌, ◌<◌, ℕ, List, [], All, Option, Some, None, length, get_or, slice_get, IsTrue, String}
use Rattle.std.specs.declared.alloc.Global.{Global}
use Rattle.std.specs.declared.rc.Rc.{Rc}
use Rattle.olr_spec.specs.Queries.{CoverageQuery}
use Rattle.olr_paths.specs.PathIds.{holds}
use Rattle.olr_paths.specs.declared.index.Index.{Index}
use Rattle.olr_paths.specs.declared.finder.Finder.{Finder}
use Rattle.olr_paths.specs.declared.keys.Keys.{Keys}
use Rattle.olr_paths.specs.declared.published.Published.{Published}
use Rattle.olr_paths.specs.declared.path_list.NamedPath.{NamedPath}

-- what a path is found by
pub record KeyLists : Type 0 where
  pub lines : List ℕ
  pub traversed : List ℕ
  pub queries : List CoverageQuery

abbrev pub keys_in : Keys → KeyLists
keys_in k = record { lines = k.lines.now; traversed = k.traversed.now; queries = k.queries.now }

abbrev pub no_keys : KeyLists
no_keys = record { lines = []; traversed = []; queries = [] }

-- of a path of these lines, if it was encoded
abbrev pub keys_by : List ℕ → Option (Rc Published Global) → KeyLists
keys_by xs None = no_keys
keys_by xs (Some p) = record { lines = xs; traversed = p.value.traversed; queries = p.value.queries.items }

abbrev pub named_keys : NamedPath → KeyLists
named_keys n = keys_by n.path.value.lines n.published

abbrev pub AllNoted : {A : Type 0} → (A → ℕ) → Index → ℕ → List A → Type 0
AllNoted number i path_id xs = All (λ x. IsTrue (holds i (number x) path_id)) xs

abbrev pub IsNoted : Finder → ℕ → KeyLists → Type 0
IsNoted f path_id k =
    IsTrue f.indexed → AllNoted (λ v. v) f.traversed path_id k.traversed
    × AllNoted (λ l. l.from) f.by_query_origin path_id k.queries × AllNoted (λ x. x) f.lines path_id k.lines

abbrev pub AddsOnly : Index → Index → Type 0
AddsOnly i j = (n m : ℕ) → IsTrue (holds i n m) → IsTrue (holds j n m)

abbrev pub ChangesOnly : ℕ → Index → Index → Type 0
ChangesOnly path_id i j = (n m : ℕ) → m ≢ path_id → holds j n m ≡ holds i n m

abbrev pub Grows : Finder → Finder → Type 0
Grows f g = AddsOnly f.traversed g.traversed × AddsOnly f.by_query_origin g.by_query_origin
    × AddsOnly f.lines g.lines × (IsTrue g.indexed → IsTrue f.indexed)

abbrev pub Spares : ℕ → Finder → Finder → Type 0
Spares path_id f g = ChangesOnly path_id f.traversed g.traversed × ChangesOnly path_id f.by_query_origin g.by_query_origin
    × ChangesOnly path_id f.lines g.lines × (IsTrue g.indexed → IsTrue f.indexed)

abbrev pub AreNoted : List (String Global × NamedPath) → List ℕ → Finder → Type 0
AreNoted es path_ids f =
    (k : ℕ) (e : String Global × NamedPath) → slice_get es k ≡ Some e →
    IsNoted f (get_or path_ids k 0) (named_keys e.1)

-- the results to be stored at positions have index entries with the ids of these
abbrev pub AreNotedAt : List ℕ → Finder → List (ℕ × NamedPath) → Type 0
AreNotedAt path_ids f fresh =
    All (λ r. r.0 < length path_ids → IsNoted f (get_or path_ids r.0 0) (named_keys r.1)) fresh

abbrev pub ArePublished : List (String Global × NamedPath) → Type 0
ArePublished es = (k : ℕ) (e : String Global × NamedPath) → slice_get es k ≡ Some e → e.1.published ≢ None
