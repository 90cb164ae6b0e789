-- Positions along the lines of a path.
--     DistancesTo M ls n ds      ds are the distances of positions 0 to n from the start, in decimetres
use Rattle.std.specs.Prelude.{◌≡◌, ℕ, ◌+◌, ◌<◌, ◌≤◌, List, [], ◌∷◌, length, take, slice_index}
use Rattle.std.proofs.Props.{props}
use Rattle.std.specs.Coded.{Coded-set, coded_ℕ, coded_bool}
use Rattle.olr_spec.specs.Map.{Map, start, end}
use Rattle.olr_spec.specs.Routes.{IsRoute, dm_of}
use Rattle.olr_spec.specs.Extension.{first, last, limit, AreJoined}
use Rattle.olr_spec.specs.Margins.{Margin}
use Rattle.olr_spec.specs.Points.{stretch, CoveredWith}

pub record DistancesTo (M : Map) (ls : List ℕ) (n : ℕ) (ds : List ℕ) : Type 0 where
  pub long : length ds ≡ n + 1
  pub each : (k : ℕ) → k ≤ n → slice_index ds k ≡ dm_of M (take k ls)

-- the positions after i that are covered and within the limit are those up to k
pub record IsReach (g : Margin) (M : Map) (ls : List ℕ) (i k : ℕ) : Type 0 where
  pub from : i ≤ k
  pub upto : k ≤ length ls
  pub within : (j : ℕ) → i < j → j ≤ k → CoveredWith g M ls i j × (dm_of M (stretch ls i j) ≤ limit)
  pub beyond : (j : ℕ) → k < j → j ≤ length ls → CoveredWith g M ls i j → limit < dm_of M (stretch ls i j)

-- the positions after i within the limit are those up to k
pub record IsLastNear (M : Map) (ls : List ℕ) (i k : ℕ) : Type 0 where
  pub from : i ≤ k
  pub upto : k ≤ length ls
  pub near : (j : ℕ) → i < j → j ≤ k → dm_of M (stretch ls i j) ≤ limit
  pub beyond : (j : ℕ) → k < j → j ≤ length ls → limit < dm_of M (stretch ls i j)

-- lines are joined by at most one proof, as the compiler requires for a fact that a value carries
pub IsRoute-prop : (M : Map) (s t : ℕ) (xs : List ℕ) → IsProp (IsRoute M s t xs)
IsRoute-prop M s t [] = Coded-set coded_ℕ s t
IsRoute-prop M s t (x ∷ xs) = hlevel (props, Coded-set coded_ℕ, Coded-set coded_bool, IsRoute-prop M (end M x) t xs)

pub AreJoined-prop : (M : Map) (ls : List ℕ) → IsProp (AreJoined M ls)
AreJoined-prop M ls = IsRoute-prop M (start M (first ls)) (end M (last ls)) ls
