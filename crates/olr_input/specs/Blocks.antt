-- The blocks of an input.
--     block_of b      what is left of the block that was read last
--     bytes_from position b      its bytes from this position in the input on, if it still has them
--     input_left remaining b      all that is left of the input
use Rattle.std.specs.Prelude.{ℕ, List, ◌-◌, take, drop}
use Rattle.std.specs.Io.KnownBytes.{prepend_known}
use Rattle.olr_input.specs.Sessions.{Known}
use Rattle.olr_input.specs.declared.blocks.Blocks.{Blocks}

abbrev pub block_of : {R : Type 0} → Blocks R → List ℕ
block_of b = take (b.end - b.start) (drop b.start b.bytes.items)

abbrev pub bytes_from : {R : Type 0} → ℕ → Blocks R → List ℕ
bytes_from position b = drop (b.start - (b.given - position)) (take b.end b.bytes.items)

abbrev pub input_left : {R : Type 0} → (R → Known) → Blocks R → Known
input_left remaining b = prepend_known (block_of b) (remaining b.input)
