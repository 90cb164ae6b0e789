-- What changes of a map can affect (profile). M and N are the maps before and after, or after and before.
--     ChangedLine, changes_of M e      the ends of a changed line, and a length that is at most its own; the changed
--         lines of an edit of M
--     SameWay M N x      line x is on both maps or on neither, with the same ends and the same length
--     AccountsFor C M N      C lists every line of M that has other ends or another length on N, or isn't there
--     Difference T X C M N      the maps differ only around the nodes T and in the lines X, and C lists the changed
--         lines
--     Detour M C s t d      a route from s to a changed line, this line, and a route from a changed line to t, of at
--         most d decimetres together
--     Near M T s d      a route of at most d decimetres from s to one of the nodes T
use Rattle.std.specs.Prelude.{◌≡◌, ℕ, ◌+◌, ◌≤◌, ◌==◌, min, List, [], ◌∷◌, ◌⊎◌, Contains, IsTrue, IsFalse, if◌then◌else◌}
use Rattle.olr_spec.specs.Map.{Map, Edit, Add_line, Set_line, Drop_line, has_line, start, end, dm, SameLine, SameRound, has}
use Rattle.olr_spec.specs.Routes.{IsRoute, dm_of}

pub record ChangedLine : Type 0 where
  pub from : ℕ
  pub to : ℕ
  pub len : ℕ

-- for a line that is set to another length, the lesser of its lengths before and after; an edit of a node changes no
-- route, nor does one that leaves a line as long as it was
abbrev pub changes_of : Map → Edit → List ChangedLine
changes_of M (Add_line x l) = record { from = l.from; to = l.to; len = l.len } ∷ []
changes_of M (Set_line x frc fow len shape) =
    if dm M x == len then [] else record { from = start M x; to = end M x; len = min (dm M x) len } ∷ []
changes_of M (Drop_line x) = record { from = start M x; to = end M x; len = dm M x } ∷ []
changes_of M _ = []

-- routes and their lengths depend on nothing else of a line
pub record SameWay (M N : Map) (x : ℕ) : Type 0 where
  pub known : has_line M x ≡ has_line N x
  pub from : start M x ≡ start N x
  pub to : end M x ≡ end N x
  pub len : dm M x ≡ dm N x

-- C lists line x of M
pub record IsChangedLine (C : List ChangedLine) (M : Map) (x : ℕ) : Type 0 where
  pub change : ChangedLine
  pub listed : Contains C change
  pub from : change.from ≡ start M x
  pub to : change.to ≡ end M x
  pub len : change.len ≤ dm M x

-- C may list other lines as well
abbrev pub AccountsFor : List ChangedLine → Map → Map → Type 0
AccountsFor C M N = (x : ℕ) → IsTrue (has_line M x) → SameWay M N x ⊎ IsChangedLine C M x

pub record Difference (T X : List ℕ) (C : List ChangedLine) (M N : Map) : Type 0 where
  pub nodes : (v : ℕ) → IsFalse (has T v) → SameRound M N v
  pub lines : (x : ℕ) → IsFalse (has X x) → SameLine M N x
  pub there : AccountsFor C M N
  pub here : AccountsFor C N M

-- the two changed lines may be the same; the distance from the one to the other isn't counted
pub record Detour (M : Map) (C : List ChangedLine) (s t d : ℕ) : Type 0 where
  pub first : ChangedLine
  pub last : ChangedLine
  pub first_listed : Contains C first
  pub last_listed : Contains C last
  pub before : List ℕ
  pub after : List ℕ
  pub leads : IsRoute M s first.from before
  pub returns : IsRoute M last.to t after
  pub within : dm_of M before + first.len + dm_of M after ≤ d

pub record Near (M : Map) (T : List ℕ) (s d : ℕ) : Type 0 where
  pub node : ℕ
  pub route : List ℕ
  pub touched : IsTrue (has T node)
  pub leads : IsRoute M s node route
  pub within : dm_of M route ≤ d
