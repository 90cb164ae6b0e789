-- Decoded coordinates as the code has them.
--     place_of p      a decoded coordinate as that of the specification
--     IsPlaced p      so near to the map that no product exceeds 128 bits
use Rattle.std.specs.Prelude.{◌^◌, ◌≤◌, ℤ, nat_abs}
use Rattle.olr_ambiguity.specs.declared.measures.DecodedPlace.{DecodedPlace}

abbrev pub place_of : DecodedPlace → ℤ × ℤ
place_of p = (p.lon, p.lat)

pub record IsPlaced (p : DecodedPlace) : Type 0 where
  pub lon : nat_abs p.lon ≤ 10 ^ 31
  pub lat : nat_abs p.lat ≤ 10 ^ 31
