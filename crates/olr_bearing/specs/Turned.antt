-- Directions after quarter turns to the right.
--     turned n v      v after n quarter turns, up to 3
use Rattle.std.specs.Prelude.{ℕ, zero, suc, pos}
use Rattle.olr_spec.specs.Bearings.{Vector, vector, quarter_turn}

abbrev pub nowhere : Vector
nowhere = vector (pos 0) (pos 0)

abbrev pub turned : ℕ → Vector → Vector
turned zero v = v
turned (suc n) v = quarter_turn (turned n v)
