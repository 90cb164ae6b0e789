-- The nodes on which an answer depends (profile).
--     Sees M l v      a route of at most the coverage query's length leads from where it begins to node v
--     Foot M P v, FootWith g M P v      node v belongs to the footprint of the path, with a margin
use Rattle.std.specs.Prelude.{ℕ, ◌+◌, ◌<◌, List, ◌∷◌, length, MatchOption, IsTrue}
use Rattle.olr_spec.specs.Margins.{Margin, no_margin}
use Rattle.olr_spec.specs.Map.{Map, has}
use Rattle.olr_spec.specs.Routes.{Reaches}
use Rattle.olr_spec.specs.Extension.{Path}
use Rattle.olr_spec.specs.Points.{OfPathWith}
use Rattle.olr_spec.specs.Encoding.{path_fault}
use Rattle.olr_spec.specs.Queries.{NodeOf, CoverageQuery, IsQueryWith}

-- the search for a coverage query is settled no farther than its length: the standard's 15,000 m limit how far along
-- the path a position may be, and do not decide whether it is covered
abbrev pub Sees : Map → CoverageQuery → ℕ → Type 0
Sees M l v = Reaches M l.from l.within v

-- on the extended path, on one of the tried runs, or reached by the coverage query of an LRP whose line is followed by
-- two or more lines; for later LRPs nothing is searched
pub data TouchedWith (g : Margin) (M : Map) (ls b a js : List ℕ) (v : ℕ) : Type 0 where
  On_path : NodeOf M ls v → TouchedWith g M ls b a js v
  On_start_run : NodeOf M b v → TouchedWith g M ls b a js v
  On_end_run : NodeOf M a v → TouchedWith g M ls b a js v
  Within_reach :
      (i : ℕ) × IsTrue (has (0 ∷ js) i) × (i + 2 < length ls) × ((l : CoverageQuery) × IsQueryWith g M ls i l × Sees M l v) →
      TouchedWith g M ls b a js v

abbrev pub FootOfWith : Margin → Map → Path → ℕ → Type 0
FootOfWith g M P v = OfPathWith g M P (λ E b a js. TouchedWith g M E.lines b a js v)

-- empty if the path's own lines give a reason
abbrev pub FootWith : Margin → Map → Path → ℕ → Type 0
FootWith g M P v = MatchOption (path_fault M P) (FootOfWith g M P v) (λ _. ⊥)

-- ---- without a margin, as the program encodes

abbrev pub Foot : Map → Path → ℕ → Type 0
Foot = FootWith no_margin
