use Rattle.olr_records.proofs.Common.{list_all, is_ascii_digit, digits_value, ◌≡◌, ◌^◌, true, take, min}
use Rattle.olr_records.proofs.fields.value.Given as goal

-- the bytes so far are digits, of this value, or of a value that does not fit 32 bits
abbrev pub invariant-loop-byte : goal.invariant-loop-byte
invariant-loop-byte l = record {
  digits : list_all is_ascii_digit (take l.byte-index l.field) ≡ true;
  value : l.value ≡ min (digits_value (take l.byte-index l.field)) (2 ^ 32);
}
