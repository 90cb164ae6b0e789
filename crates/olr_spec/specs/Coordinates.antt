-- Coordinates, and how the binary format rounds them. The unit is 1/327,680,000,000 degree (profile), so that each step
-- is a whole number of units: 10^-7 degree is 32,768 units, 10^-5 degree 3,276,800, and a 24-bit step of 360 degrees /
-- 2^24 is 7,031,250.
--     Coord, coord      a longitude and a latitude
--     is_longitude, is_latitude, is_coord      within the ranges of a map
--     abs24, from_abs24      a coordinate in 24-bit steps of 360 degrees / 2^24, and back
--     relative, rel16, from_rel16      a difference in steps of 10^-5 degree; this number if it fits 16 bits; and back
use Rattle.std.specs.Prelude.{ℕ, suc, ◌+◌, ◌/◌, ◌*◌, ℤ, pos, negsuc, zero, ◌-ℤ◌, ◌*ℤ◌, neg_ℤ, nat_abs, int_le, Bool}
use Rattle.std.specs.Prelude.{◌&&◌, Option, Some, None, if◌then◌else◌}

pub record Coord : Type 0 where
  pub lon : ℤ
  pub lat : ℤ

-- the coordinate with a longitude and a latitude, in units
abbrev pub coord : ℤ → ℤ → Coord
coord lon lat = record { lon = lon; lat = lat }

-- 10^-4 degree, in units
abbrev pub unit4 : ℕ
unit4 = 32768000

-- low ≤ z ≤ high
abbrev pub within : ℤ → ℤ → ℤ → Bool
within low high z = int_le low z && int_le z high

-- from -180 to 179.9999 degrees (profile)
abbrev pub is_longitude : ℤ → Bool
is_longitude z = within (neg_ℤ (pos (1800000 * unit4))) (pos (1799999 * unit4)) z

-- from -89.9999 to 89.9999 degrees (profile)
abbrev pub is_latitude : ℤ → Bool
is_latitude z = within (neg_ℤ (pos (899999 * unit4))) (pos (899999 * unit4)) z

-- within the ranges of a map
abbrev pub is_coord : Coord → Bool
is_coord c = is_longitude c.lon && is_latitude c.lat

-- -1, 0 or 1
abbrev pub sgn : ℤ → ℤ
sgn (pos zero) = pos 0
sgn (pos (suc n)) = pos 1
sgn (negsuc n) = negsuc 0

-- z / step rounded to the nearest whole number, halves away from zero; half is step / 2
abbrev pub nearest : ℕ → ℕ → ℤ → ℤ
nearest half step z = sgn z *ℤ pos ((nat_abs z + half) / step)

-- the whole part of sgn(deg) / 2 + deg * 2^24 / 360 (White Paper, binary format, absolute coordinates)
abbrev pub abs24 : ℤ → ℤ
abs24 z = nearest 3515625 7031250 z

-- (n - sgn(n) / 2) * 360 / 2^24 degrees: of the values that round to n the one nearest to 0 (White Paper, binary
-- format, absolute coordinates)
abbrev pub from_abs24 : ℤ → ℤ
from_abs24 n = n *ℤ pos 7031250 -ℤ sgn n *ℤ pos 3515625

-- 100000 times the difference from a to b in degrees, rounded (White Paper, binary format, relative coordinates; halves
-- away from zero: profile)
abbrev pub relative : ℤ → ℤ → ℤ
relative a b = nearest 1638400 3276800 (b -ℤ a)

-- in two's complement of 16 bits
abbrev pub fits16 : ℤ → Bool
fits16 r = within (negsuc 32767) (pos 32767) r

-- None if the relative value does not fit 16 bits
abbrev pub rel16 : ℤ → ℤ → Option ℤ
rel16 a b = if fits16 (relative a b) then Some (relative a b) else None

-- r relative steps, in units (White Paper, binary format, relative coordinates)
abbrev pub from_rel16 : ℤ → ℤ
from_rel16 r = r *ℤ pos 3276800
