-- Distance bounds, by the slots of the nodes, and how they keep up with edits.
--     source_of f v      the bound, in decimetres, that the queries from node v require there
--     bound_at f p      the bound in slot p; greater than the limit if there is none
--     Within S v d      S has a bound for node v, of at most d
--     IsSource f v w      a query of length w begins at node v, and requires a bound of at most the limit less w there
--     IsClosed M s L x      where line x leads within the limit, the bound at its end is no greater than the way there
--     AreClosed M s L P      so for each line, but where P allows otherwise at the line's start
--     AreMet M s S L P      each bound that a source S requires is met, but where P allows otherwise
--     IsRight M s f      all lines are closed, and all sources are met. Then each node that a query reaches has a bound
--     IsDue T f v      the edits touched node v, or it is open: its lines and its source may be looked at again
--     IsUnderWay M s T f      lines are closed and sources are met, but where due
--     SameBut T M N      round all nodes but T the maps are the same
--     IsEdit T M s N r      an edit that touched the nodes T leads from map M to map N. The nodes of M have the slots s, and
--         nodes that stay keep them; a new node has no lines
--     IsUnbounded M s f v      no query begins at node v, and it has no bound
--     IsLowered f g v d      only the source at v changed: it is the lesser of d and the one before
--     IsReopened f g      the bounds are the same, what was open still is, and so is each source that is new or less
--     IsLed M s S L p d      a route leads to the node in slot p; d is its length and the bound, or the source, where it
--         begins
--     AreLed M s S L K      each of the bounds K is that of L, or it was led there
--     IsFollowed M s f v      the lines from v are closed, or its slot is queued at its bound
-- Where the bounds are invalid nothing is said.
use Rattle.std.specs.Prelude.{◌≡◌, ◌≢◌, ℕ, ◌+◌, ◌-◌, ◌≤◌, ◌<◌, ◌⊎◌, List, Option, Some, None, IsTrue, IsFalse, nat_eq, min}
use Rattle.std.specs.HashMap.{get}
use Rattle.olr_spec.specs.Map.{Map, IsMap, has_node, has_line, start, end, dm, SameRound, has}
use Rattle.olr_spec.specs.Routes.{IsRoute, dm_of}
use Rattle.olr_search.specs.declared.frontier.TheConstants.{GREATEST_LIMIT}
use Rattle.olr_search.specs.Bounds.{AreBounds}
use Rattle.olr_search.specs.Frontiers.{label_of, IsQueued}
use Rattle.olr_search.specs.declared.distances.Direction.TheVariants.{Against}
use Rattle.olr_search.specs.declared.frontier.Frontier.{Frontier}
use Rattle.olr_renewal.specs.declared.distance_bounds.DistanceBounds.{DistanceBounds}

abbrev pub source_of : DistanceBounds → ℕ → Option ℕ
source_of f v = get nat_eq f.sources v

abbrev pub bound_at : DistanceBounds → ℕ → ℕ
bound_at f p = label_of f.bounds p

pub record Within (S : ℕ → Option ℕ) (v d : ℕ) : Type 0 where
  pub number : ℕ
  pub at : S v ≡ Some number
  pub low : number ≤ d

abbrev pub IsSource : DistanceBounds → ℕ → ℕ → Type 0
IsSource f v w = IsTrue f.valid → Within (source_of f) v (GREATEST_LIMIT - w)

-- ---- what the bounds say of a map

abbrev pub IsClosed : Map → (ℕ → ℕ) → (ℕ → ℕ) → ℕ → Type 0
IsClosed M s L x = L (s (end M x)) ≤ L (s (start M x)) + dm M x

abbrev pub AreClosed : Map → (ℕ → ℕ) → (ℕ → ℕ) → (ℕ → Type 0) → Type 0
AreClosed M s L P =
    (x : ℕ) → IsTrue (has_line M x) → L (s (start M x)) + dm M x ≤ GREATEST_LIMIT → IsClosed M s L x ⊎ P (start M x)

abbrev pub AreMet : Map → (ℕ → ℕ) → (ℕ → Option ℕ) → (ℕ → ℕ) → (ℕ → Type 0) → Type 0
AreMet M s S L P = (v d : ℕ) → S v ≡ Some d → IsTrue (has_node M v) → (L (s v) ≤ d) ⊎ P v

pub record AreRight (M : Map) (s : ℕ → ℕ) (f : DistanceBounds) : Type 0 where
  pub closed : AreBounds M s Against f.bounds
  pub sources : (v d : ℕ) → source_of f v ≡ Some d → IsTrue (has_node M v) → bound_at f (s v) ≤ d

abbrev pub IsRight : Map → (ℕ → ℕ) → DistanceBounds → Type 0
IsRight M s f = IsTrue f.valid → AreRight M s f

abbrev pub IsDue : List ℕ → DistanceBounds → ℕ → Type 0
IsDue T f v = IsTrue (has T v) ⊎ IsTrue (has f.opened.items v)

pub record AreUnderWay (M : Map) (s : ℕ → ℕ) (T : List ℕ) (f : DistanceBounds) : Type 0 where
  pub closed : AreClosed M s (bound_at f) (IsDue T f)
  pub sources : AreMet M s (source_of f) (bound_at f) (IsDue T f)

abbrev pub IsUnderWay : Map → (ℕ → ℕ) → List ℕ → DistanceBounds → Type 0
IsUnderWay M s T f = IsTrue f.valid → AreUnderWay M s T f

-- ---- edits

abbrev pub SameBut : List ℕ → Map → Map → Type 0
SameBut T M N = (v : ℕ) → IsFalse (has T v) → SameRound M N v

pub record IsEdit (T : List ℕ) (M : Map) (s : ℕ → ℕ) (N : Map) (r : ℕ → ℕ) : Type 0 where
  pub sound : IsMap N
  pub alike : SameBut T M N
  pub slots : (v : ℕ) → IsTrue (has_node M v) → IsTrue (has_node N v) → r v ≡ s v
  pub starts : (x : ℕ) → IsTrue (has_line N x) → IsTrue (has_node M (start N x))
  pub ends : (x : ℕ) → IsTrue (has_line N x) → IsTrue (has_node M (end N x))

pub record IsUnbounded (M : Map) (s : ℕ → ℕ) (f : DistanceBounds) (v : ℕ) : Type 0 where
  pub source : source_of f v ≡ None
  pub bound : IsTrue (has_node M v) → GREATEST_LIMIT < bound_at f (s v)

-- ---- how bounds change

-- of a number, if there is one, and d
abbrev pub lesser : Option ℕ → ℕ → ℕ
lesser None d = d
lesser (Some e) d = min e d

pub record IsLowered (f g : DistanceBounds) (v d : ℕ) : Type 0 where
  pub at : source_of g v ≡ Some (lesser (source_of f v) d)
  pub others : (q : ℕ) → q ≢ v → source_of g q ≡ source_of f q

pub record IsReopened (f g : DistanceBounds) : Type 0 where
  pub bounds : g.bounds ≡ f.bounds
  pub valid : g.valid ≡ f.valid
  pub kept : (v : ℕ) → IsTrue (has f.opened.items v) → IsTrue (has g.opened.items v)
  pub fresh : (v : ℕ) → (source_of g v ≡ source_of f v) ⊎ IsTrue (has g.opened.items v)

pub record IsLed (M : Map) (s : ℕ → ℕ) (S : ℕ → Option ℕ) (L : ℕ → ℕ) (p d : ℕ) : Type 0 where
  pub from : ℕ
  pub to : ℕ
  pub there : IsTrue (has_node M to)
  pub slot : s to ≡ p
  pub begun : ℕ
  pub begins : (L (s from) ≡ begun) ⊎ (S from ≡ Some begun)
  pub route : List ℕ
  pub leads : IsRoute M from to route
  pub long : begun + dm_of M route ≡ d

abbrev pub AreLed : Map → (ℕ → ℕ) → (ℕ → Option ℕ) → (ℕ → ℕ) → (ℕ → ℕ) → Type 0
AreLed M s S L K = (p : ℕ) → (K p ≡ L p) ⊎ IsLed M s S L p (K p)

abbrev pub IsFollowed : Map → (ℕ → ℕ) → Frontier → ℕ → Type 0
IsFollowed M s f v =
    (x : ℕ) → IsTrue (has_line M x) → start M x ≡ v → label_of f (s v) + dm M x ≤ GREATEST_LIMIT →
    IsClosed M s (label_of f) x ⊎ IsQueued f (label_of f (s v)) (s v)
