-- The coordinates of the LRPs of a reference, decoded from its fields (White Paper, binary format).
--     decoded r k      the longitude and the latitude of LRP k, counted from 0, in units; None after the last LRP
--     IsNear k p c      p is as near to the coordinate c as the steps of the fields allow for LRP k
use Rattle.std.specs.Prelude.{ℕ, ◌+◌, ◌*◌, ◌<◌, ℤ, pos, ◌+ℤ◌, ◌-ℤ◌, nat_abs, List, [], ◌∷◌, ◌++◌, map, length, take}
use Rattle.std.specs.Prelude.{nat_le, Option, Some, None, if◌then◌else◌}
use Rattle.olr_spec.specs.Coordinates.{Coord, from_abs24, from_rel16}
use Rattle.olr_spec.specs.Reference.{Reference}

-- a sum of relative values, in units
abbrev pub steps_sum : List ℤ → ℤ
steps_sum [] = pos 0
steps_sum (z ∷ zs) = from_rel16 z +ℤ steps_sum zs

-- the first LRP by its 24-bit steps, and each later one by its relative values from the one before
abbrev pub decoded : Reference → ℕ → Option (ℤ × ℤ)
decoded r k =
    if nat_le k (length r.middle + 1)
    then Some (
      from_abs24 r.first.lon +ℤ steps_sum (take k (map (λ m. m.dlon) r.middle ++ r.last.dlon ∷ [])),
      from_abs24 r.first.lat +ℤ steps_sum (take k (map (λ m. m.dlat) r.middle ++ r.last.dlat ∷ [])),
    )
    else None

-- LRP k is decoded less than this many units from its coordinate on the map, on each axis: one 24-bit step, and half a
-- relative step for each LRP after the first
abbrev pub decoded_bound : ℕ → ℕ
decoded_bound k = 7031250 + k * 1638400

-- LRP k is decoded as p, and has the coordinate c on the map
pub record IsNear (k : ℕ) (p : ℤ × ℤ) (c : Coord) : Type 0 where
  pub lon : nat_abs (p.0 -ℤ c.lon) < decoded_bound k
  pub lat : nat_abs (p.1 -ℤ c.lat) < decoded_bound k
