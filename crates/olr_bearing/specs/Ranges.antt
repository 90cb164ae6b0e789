-- The ranges of this crate's numbers, in which no product exceeds 128 bits.
--     IsWithin most z      at most `most` either way
--     IsFactor z      a factor of the cosine: at most 32,400,000,000 plus the square of 90,000
--     IsPart z, HasParts v      a direction's part to the east or to the north: at most 10^31 either way; both parts of v
--     IsBoundary z, HasBoundaryParts v      a part of a boundary: at most a million either way; both parts of v
--     degree_units n      n degrees in units
--     IsInRange s      a scaled coordinate whose longitude and latitude are in range
use Rattle.std.specs.Prelude.{ℕ, ◌^◌, ◌*◌, ℤ, pos, neg_ℤ, ◌≤ℤ◌}
use Rattle.olr_spec.specs.Bearings.{Scaled, Vector}

abbrev pub IsWithin : ℕ → ℤ → Type 0
IsWithin most z = (neg_ℤ (pos most) ≤ℤ z) × (z ≤ℤ pos most)

abbrev pub IsFactor : ℤ → Type 0
IsFactor z = IsWithin 40500000000 z

abbrev pub IsPart : ℤ → Type 0
IsPart z = IsWithin (10 ^ 31) z

abbrev pub HasParts : Vector → Type 0
HasParts v = IsPart v.east × IsPart v.north

abbrev pub IsBoundary : ℤ → Type 0
IsBoundary z = IsWithin 1000000 z

abbrev pub HasBoundaryParts : Vector → Type 0
HasBoundaryParts v = IsBoundary v.east × IsBoundary v.north

abbrev pub degree_units : ℕ → ℕ
degree_units n = n * 327680000000

-- the longitude and the latitude, each times the width
abbrev pub IsInRange : Scaled → Type 0
IsInRange s = IsWithin (s.width * degree_units 180) s.lon × IsWithin (s.width * degree_units 90) s.lat
