-- Distances from some nodes, each with a start value, along the lines or against them.
--     Way M direction s v xs      the lines xs are a route from s to v, or, if the direction is against them, a route
--         from v to s
--     near_end M direction x, far_end M direction x      where line x is entered in this direction, and where it leads
--     lines_at M direction v, ends_at M slot direction v      the lines that are entered at v, and their far ends
--     Leads M direction from v d      a route in this direction leads to v from a listed node of the map; d is its
--         length plus the start value that is listed with the node
--     IsDistance M direction from v d      the least such d
use Rattle.std.specs.Prelude.{◌≡◌, ℕ, ◌+◌, ◌≤◌, List, Contains, IsTrue}
use Rattle.olr_spec.specs.Map.{Map, has_node, start, end, lines_in, lines_out}
use Rattle.olr_spec.specs.Routes.{IsRoute, dm_of}
use Rattle.olr_model.specs.Ends.{ends_out, ends_in}
use Rattle.olr_model.specs.declared.read.LineEnd.{LineEnd}
use Rattle.olr_search.specs.declared.distances.Direction.{Direction}
use Rattle.olr_search.specs.declared.distances.Direction.TheVariants.{Along, Against}

abbrev pub Way : Map → Direction → ℕ → ℕ → List ℕ → Type 0
Way M Along s v xs = IsRoute M s v xs
Way M Against s v xs = IsRoute M v s xs

abbrev pub near_end : Map → Direction → ℕ → ℕ
near_end M Along x = start M x
near_end M Against x = end M x

abbrev pub far_end : Map → Direction → ℕ → ℕ
far_end M Along x = end M x
far_end M Against x = start M x

abbrev pub lines_at : Map → Direction → ℕ → List ℕ
lines_at M Along v = lines_out M v
lines_at M Against v = lines_in M v

abbrev pub ends_at : Map → (ℕ → ℕ) → Direction → ℕ → List LineEnd
ends_at M slot Along v = ends_out M slot v
ends_at M slot Against v = ends_in M slot v

-- lengths in decimetres; the list has nodes, each with its start value
pub record Leads (M : Map) (direction : Direction) (from : List (ℕ × ℕ)) (v d : ℕ) : Type 0 where
  pub source : ℕ
  pub begun : ℕ
  pub lines : List ℕ
  pub listed : Contains from (source, begun)
  pub there : IsTrue (has_node M source)
  pub way : Way M direction source v lines
  pub long : begun + dm_of M lines ≡ d

pub record IsDistance (M : Map) (direction : Direction) (from : List (ℕ × ℕ)) (v d : ℕ) : Type 0 where
  pub leads : Leads M direction from v d
  pub least : (e : ℕ) → Leads M direction from v e → d ≤ e
