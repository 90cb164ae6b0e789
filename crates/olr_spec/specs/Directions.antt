-- Directions at a node, and sectors with margins (profile).
--     direction_on s g      the direction of a candidate at its node
--     is_direction v      (0, 0) is no direction
--     margin_start k, margin_end k, is_beyond k v      sector k with a margin of a quarter of a sector on both sides; v is
--         a direction outside of it
use Rattle.std.specs.Prelude.{ℕ, suc, ◌%◌, pos, negsuc, nat_abs, Bool, not, ◌&&◌, ◌==◌, List, [], ◌∷◌, slice_index_or}
use Rattle.olr_spec.specs.Bearings.{Leg, Vector, vector, direction_out, direction_back, quarters, lies_between}
use Rattle.olr_spec.specs.Receiver.{Side, Outgoing, Incoming}

abbrev pub direction_on : Side → Leg → Vector
direction_on Outgoing g = direction_out g
direction_on Incoming g = direction_back g

-- ---- sectors with margins

-- 2.8125 degrees before the boundaries 0 to 7, and after them, as vectors of whole numbers
abbrev pub first_before : List Vector
first_before =
    vector (negsuc 49126) (pos 1000000) ∷ vector (pos 148336) (pos 1000000) ∷ vector (pos 357806) (pos 1000000)
    ∷ vector (pos 599377) (pos 1000000) ∷ vector (pos 906347) (pos 1000000) ∷ vector (pos 1000000) (pos 741651)
    ∷ vector (pos 1000000) (pos 472965) ∷ vector (pos 1000000) (pos 250487) ∷ []

abbrev pub first_after : List Vector
first_after =
    vector (pos 49127) (pos 1000000) ∷ vector (pos 250487) (pos 1000000) ∷ vector (pos 472965) (pos 1000000)
    ∷ vector (pos 741651) (pos 1000000) ∷ vector (pos 1000000) (pos 906347) ∷ vector (pos 1000000) (pos 599377)
    ∷ vector (pos 1000000) (pos 357806) ∷ vector (pos 1000000) (pos 148336) ∷ []

-- a quarter of a sector before sector k, and after it
abbrev pub margin_start : ℕ → Vector
margin_start k = slice_index_or (quarters 4 first_before) k (vector (pos 0) (pos 0))

abbrev pub margin_end : ℕ → Vector
margin_end k = slice_index_or (quarters 4 first_after) (suc k % 32) (vector (pos 0) (pos 0))

-- (0, 0) is no direction
abbrev pub is_direction : Vector → Bool
is_direction v = not (nat_abs v.east == 0 && nat_abs v.north == 0)

-- neither in sector k nor in its margin
abbrev pub is_beyond : ℕ → Vector → Bool
is_beyond k v = is_direction v && not (lies_between (margin_start k) (margin_end k) v)
