-- The laws of degrees as text.
use Rattle.std.specs.Prelude.{◌≡◌, ℕ, ℤ, List, Ok, IsTrue}
use Rattle.olr_spec.specs.Degrees.{read_degrees}
use Rattle.olr_coords.specs.DegreesText.{degrees_text, has_degrees_text}

-- a coordinate that is written is read as the same number of units
abbrev pub TextsRead : Type 0
TextsRead = (z : ℤ) → IsTrue (has_degrees_text z) → read_degrees (degrees_text z) ≡ Ok z

-- a coordinate that is read can be written
abbrev pub ReadHaveText : Type 0
ReadHaveText = (text : List ℕ) (z : ℤ) → read_degrees text ≡ Ok z → IsTrue (has_degrees_text z)
