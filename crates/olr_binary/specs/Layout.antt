-- The layout of the bytes of a reference.
use Rattle.std.specs.Prelude.{◌≡◌, ℕ, ◌+◌, ◌*◌, ◌≤◌, List, length}

-- the number of bytes is that of so many LRPs between the first and the last, and so many offset bytes
pub record IsLayout (b : List ℕ) (middle offsets : ℕ) : Type 0 where
  pub size : length b ≡ 16 + 7 * middle + offsets
  pub few : offsets ≤ 2
