-- The location reference points (LRPs) of an extended path, by position: position i below n is the start of line i, and
-- position n the end of the last line (White Paper, encoding steps, intermediate points).
--     node_at M ls i, stretch ls i j      the node at position i; the lines from position i to position j
--     CoveredWith g M ls i j      position j is covered: the path reaches it from line i by the unique shortest path
--     CandidateWith g M ls i j, NextWith g M ls i j      j may be the next LRP after i; j is the next LRP after i
--     FollowWith g M ls i js      js are the LRPs after i, up to the one that has no next
--     OfPathWith g M P Q      Q holds of the extended path, its tried runs and its LRPs
use Rattle.std.specs.Prelude.{◌≡◌, ℕ, ◌+◌, ◌-◌, ◌<◌, ◌≤◌, min, Bool, ◌&&◌, List, [], ◌∷◌, length, nat_lt, slice_index}
use Rattle.std.specs.Prelude.{slice_range, if◌then◌else◌, IsTrue, IsFalse}
use Rattle.olr_spec.specs.Margins.{Margin, CountedRoute}
use Rattle.olr_spec.specs.Coordinates.{Coord, relative, fits16}
use Rattle.olr_spec.specs.Map.{Map, start, end, coord_at}
use Rattle.olr_spec.specs.Routes.{dm_of}
use Rattle.olr_spec.specs.Extension.{Path, Tried, extended_path, passing, last, limit}

-- the node at position i
abbrev pub node_at : Map → List ℕ → ℕ → ℕ
node_at M ls i = if nat_lt i (length ls) then start M (slice_index ls i) else end M (last ls)

-- lines i .. j - 1
abbrev pub stretch {ℓ} : {A : Type ℓ} → List A → ℕ → ℕ → List A
stretch ls i j = slice_range ls i j

-- from the end of line i to the start of line m, where m is j, or the last line if j is the end: the lines between are
-- the unique shortest path, where they count longer and no other lines do. Nothing is required from the last line to
-- the end (White Paper, encoding steps, coverage by shortest paths; the margin: profile)
abbrev pub CoveredWith : Margin → Map → List ℕ → ℕ → ℕ → Type 0
CoveredWith g M ls i j =
    let m = min j (length ls - 1) in
    i < m → CountedRoute g M (end M (slice_index ls i)) (start M (slice_index ls m)) (stretch ls (i + 1) m)

-- the relative coordinates from p to q fit 16 bits each (White Paper, binary format)
abbrev pub fit16 : Coord → Coord → Bool
fit16 p q = fits16 (relative p.lon q.lon) && fits16 (relative p.lat q.lat)

-- at most 15,000 m after i (White Paper, data format rules)
pub record CandidateWith (g : Margin) (M : Map) (ls : List ℕ) (i j : ℕ) : Type 0 where
  pub after : i < j
  pub upto : j ≤ length ls
  pub covered : CoveredWith g M ls i j
  pub near : dm_of M (stretch ls i j) ≤ limit
  pub fits : IsTrue (fit16 (coord_at M (node_at M ls i)) (coord_at M (node_at M ls j)))

-- a candidate at a valid node
abbrev pub ValidCandidateWith : Margin → Map → List ℕ → ℕ → ℕ → Type 0
ValidCandidateWith g M ls i j = CandidateWith g M ls i j × IsFalse (passing M (node_at M ls j))

-- j is the greatest number for which P holds
pub record Greatest (P : ℕ → Type 0) (j : ℕ) : Type 0 where
  pub holds : P j
  pub others : (k : ℕ) → P k → k ≤ j

-- the end if it is a candidate, else the greatest candidate at a valid node, else the greatest candidate (profile)
pub data NextWith (g : Margin) (M : Map) (ls : List ℕ) (i j : ℕ) : Type 0 where
  To_end : j ≡ length ls → CandidateWith g M ls i (length ls) → NextWith g M ls i j
  To_valid : ¬ CandidateWith g M ls i (length ls) → Greatest (ValidCandidateWith g M ls i) j → NextWith g M ls i j
  To_passing : ¬ CandidateWith g M ls i (length ls) → ((k : ℕ) → ¬ ValidCandidateWith g M ls i k) → Greatest (CandidateWith g M ls i) j →
      NextWith g M ls i j

-- no position may be the next LRP after i
abbrev pub NoNextWith : Margin → Map → List ℕ → ℕ → Type 0
NoNextWith g M ls i = (j : ℕ) → ¬ CandidateWith g M ls i j

-- js are the next LRP after i, the next after that, and so on, up to a position without a next; the end, position n,
-- has none
abbrev pub FollowWith : Margin → Map → List ℕ → ℕ → List ℕ → Type 0
FollowWith g M ls i [] = NoNextWith g M ls i
FollowWith g M ls i (j ∷ js) = NextWith g M ls i j × FollowWith g M ls j js

-- the last of i and js
abbrev pub last_position : ℕ → List ℕ → ℕ
last_position i [] = i
last_position i (j ∷ js) = last_position j js

-- Q holds of the extended path, of both tried runs, and of the LRPs after position 0. For a path without a fault of its
-- own each of these is unique
pub record OfPathWith (g : Margin) (M : Map) (P : Path) (Q : Path → List ℕ → List ℕ → List ℕ → Type 0) : Type 0 where
  pub before : List ℕ
  pub after : List ℕ
  pub points : List ℕ
  pub tried : Tried M P before after
  pub follow : FollowWith g M (extended_path M P before after).lines 0 points
  pub holds : Q (extended_path M P before after) before after points
