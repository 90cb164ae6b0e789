-- The hash of a node number or a line number.
--     number_step n b      the last four bytes as a number, the lowest first, after one more byte
--     block_place b, block_tag b      the position of a block of four neighbours, with gaps between runs of blocks; bits
--         that distinguish blocks
--     number_write h bytes, number_hash h      the state after these bytes, and its hash
use Rattle.std.specs.Prelude.{ℕ, ◌+◌, ◌*◌, ◌/◌, ◌%◌, ◌^◌, List, fold, bit_xor}
use Rattle.olr_model.specs.declared.number_hash.NumberHasher.{NumberHasher}

abbrev pub number_step : ℕ → ℕ → ℕ
number_step n b = n / 256 + b * 2 ^ 24

abbrev pub number_write : NumberHasher → List ℕ → NumberHasher
number_write h bytes = record { number = fold number_step h.number bytes }

abbrev pub block_place : ℕ → ℕ
block_place b = b + 3 * (b / 2 ^ 7) + 37 * (b / 2 ^ 18)

abbrev pub block_tag : ℕ → ℕ
block_tag b = b * 0x9e37_79b1 % 2 ^ 32 / 2 ^ 26 * 2 ^ 26

-- neighbours differ in the bits from 24 on
abbrev pub number_hash : NumberHasher → ℕ
number_hash h = bit_xor (bit_xor (block_place (h.number / 4)) (block_tag (h.number / 4))) (h.number % 4 * 2 ^ 24)
