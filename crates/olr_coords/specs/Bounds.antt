-- The bounds of the coordinates that this crate's functions take and return.
use Rattle.std.specs.Prelude.{◌*◌, ℤ, pos, neg_ℤ, Bool}
use Rattle.olr_spec.specs.Coordinates.{unit4, within}

-- within 180 degrees either way
abbrev pub is_degrees : ℤ → Bool
is_degrees z = within (neg_ℤ (pos (1800000 * unit4))) (pos (1800000 * unit4)) z
