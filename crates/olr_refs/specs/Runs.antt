-- Runs of degree-two nodes that lead out from some lines: along them from the last one, or against them from the first.
--     outermost d ls      the last of the lines along them, the first against them
--     joined d ls c      the lines and the run c, in the order of travel
--     in_order d xs      the elements of a run, which are listed from the outermost one inwards, in the order of travel
--     LeadsOn M d z x      line x leads on from line z through a degree-two node, and not back to where z is entered
--     LiesBeyond M d z through line      whether the node beyond line z is a degree-two node, and the line that leads on
--         through it, or that there is none
--     GrowsBy M slot next len used r      a run of length len grows by line r, the next one, as the map has it
--     IsLongest M d ls c      c is the longest run within the limit
--     IsRun M slot d ls rs len valid      rs is that run as the map has it; its length, and whether it leads to a valid node
use Rattle.std.specs.Prelude.{◌≡◌, ◌≢◌, ℕ, ◌+◌, ◌≤◌, Bool, not, List, ◌++◌, reverse, Option, Some, MatchOption, IsTrue, IsFalse}
use Rattle.olr_spec.specs.Map.{Map, has, has_line}
use Rattle.olr_spec.specs.Routes.{dm_of}
use Rattle.olr_spec.specs.Extension.{limit, passing, first, last, LongestStart, LongestEnd}
use Rattle.olr_search.specs.Distances.{near_end, far_end}
use Rattle.olr_search.specs.declared.distances.Direction.{Direction}
use Rattle.olr_search.specs.declared.distances.Direction.TheVariants.{Along, Against}
use Rattle.olr_search.specs.ResolvedLines.{ResolvedLine, IsResolved}
use Rattle.olr_refs.specs.ResolvedLines.{ids, AreRecords}

abbrev pub outermost : Direction → List ℕ → ℕ
outermost Along ls = last ls
outermost Against ls = first ls

abbrev pub joined : Direction → List ℕ → List ℕ → List ℕ
joined Along ls c = ls ++ c
joined Against ls c = c ++ ls

abbrev pub in_order : {X : Type 0} → Direction → List X → List X
in_order Along xs = reverse xs
in_order Against xs = xs

pub record LeadsOn (M : Map) (d : Direction) (z x : ℕ) : Type 0 where
  pub known : IsTrue (has_line M x)
  pub joins : near_end M d x ≡ far_end M d z
  pub through : IsTrue (passing M (near_end M d x))
  pub onward : far_end M d x ≢ near_end M d z

pub record LiesBeyond (M : Map) (d : Direction) (z : ℕ) (through : Bool) (line : Option ℕ) : Type 0 where
  pub node : through ≡ passing M (far_end M d z)
  pub next : MatchOption line ((x : ℕ) → ¬ LeadsOn M d z x) (LeadsOn M d z)

pub record GrowsBy (M : Map) (slot : ℕ → ℕ) (next : Option ℕ) (len : ℕ) (used : List ℕ) (r : ResolvedLine) : Type 0 where
  pub line : next ≡ Some r.id
  pub known : IsResolved M slot r
  pub fresh : IsFalse (has used r.id)
  pub near : len + r.len ≤ limit

abbrev pub IsLongest : Map → Direction → List ℕ → List ℕ → Type 0
IsLongest M Along ls c = LongestEnd M ls c
IsLongest M Against ls c = LongestStart M c ls

pub record IsRun (M : Map) (slot : ℕ → ℕ) (d : Direction) (ls : List ℕ) (rs : List ResolvedLine) (len : ℕ) (valid : Bool) : Type 0
  where
    pub longest : IsLongest M d ls (ids rs)
    pub are : AreRecords M slot rs
    pub long : len ≡ dm_of M (ids rs)
    pub leads : valid ≡ not (passing M (far_end M d (outermost d (joined d ls (ids rs)))))
