-- The margin: how much longer the lines between two location reference points (LRPs) count where it is tested whether
-- they are the unique shortest route, and by how many classes the lowest class to the next LRP (LFRCNP) is less important
-- than that of the leg. With both 0 nothing counts longer (profile).
--     Margin, is_margin g, no_margin      the two numbers; that they are in range; both 0
--     counted_dm g len      the length that an own line counts, in decimetres
--     counted g M xs      the map as it counts for the lines xs: each of them is longer, all else is as on M
--     CountedRoute g M s t xs, counted_dm_of g M xs      the route between two LRPs where its own lines count longer, and
--         what it counts
--     IsSoundFor g M      the map is sound, or nothing is added
--     allowed g c      the class of the leg with what the margin allows
use Rattle.std.specs.Prelude.{◌≡◌, ◌⊎◌, ℕ, ◌+◌, ◌*◌, ◌/◌, min, Bool, ◌&&◌, List, [], ◌∷◌, nat_le, ◌==◌, if◌then◌else◌}
use Rattle.std.specs.Ordering.{nat_cmp}
use Rattle.std.specs.FinMap.{FinMap, insert}
use Rattle.olr_spec.specs.Map.{Map, IsMap, Line, has_line, line_at}
use Rattle.olr_spec.specs.Routes.{dm_of, UniqueShortest}

-- routes in thousandths of the length, and classes
pub record Margin : Type 0 where
  pub routes : ℕ
  pub classes : ℕ

abbrev pub is_margin : Margin → Bool
is_margin g = nat_le g.routes 1000 && nat_le g.classes 7

abbrev pub no_margin : Margin
no_margin = record { routes = 0; classes = 0 }

-- what is added is rounded up
abbrev pub counted_dm : Margin → ℕ → ℕ
counted_dm g len = len + (len * g.routes + 999) / 1000

-- each of the lines that is on the map, with the length that it counts
abbrev pub counted_lines : Margin → Map → List ℕ → FinMap nat_cmp Line
counted_lines g M [] = M.lines
counted_lines g M (x ∷ xs) =
    if has_line M x
    then insert (counted_lines g M xs) x (record (line_at M x) { len = counted_dm g (line_at M x).len })
    else counted_lines g M xs

-- where nothing is added it is the map itself
abbrev pub counted : Margin → Map → List ℕ → Map
counted g M xs = if g.routes == 0 then M else record M { lines = counted_lines g M xs }

abbrev pub CountedRoute : Margin → Map → ℕ → ℕ → List ℕ → Type 0
CountedRoute g M s t xs = UniqueShortest (counted g M xs) s t xs

abbrev pub counted_dm_of : Margin → Map → List ℕ → ℕ
counted_dm_of g M xs = dm_of (counted g M xs) xs

abbrev pub IsSoundFor : Margin → Map → Type 0
IsSoundFor g M = (g.routes ≡ 0) ⊎ IsMap M

-- class 7 is the least important
abbrev pub allowed : Margin → ℕ → ℕ
allowed g c = if g.classes == 0 then c else min 7 (c + g.classes)
