-- Records of bytes in memory.
--     left_of m rs      these records are left
use Rattle.std.specs.Prelude.{◌≡◌, ℕ, List, []}
use Rattle.std.specs.Bool.{MatchBool}
use Rattle.csv.specs.Reading.{AreRecords, default_config}
use Rattle.olr_input.specs.Machine.{csv_state}
use Rattle.olr_input.specs.declared.in_memory.InMemory.{InMemory}

-- its records that are left; none after a failed allocation
abbrev pub left_of : InMemory → List (List (List ℕ)) → Type 0
left_of m rs = MatchBool m.failed (rs ≡ []) (AreRecords default_config (csv_state m.state) m.rest.now rs)
