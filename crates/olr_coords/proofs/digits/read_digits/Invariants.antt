use Rattle.olr_spec.proofs.Common.{◌≡◌, true, take, list_all, is_ascii_digit, digits_value}
use Rattle.olr_coords.proofs.digits.read_digits.Given as goal

-- the bytes so far are digits, of this value
abbrev pub invariant-loop-byte : goal.invariant-loop-byte
invariant-loop-byte l = record {
  digits : list_all is_ascii_digit (take l.byte-index l.digits) ≡ true;
  value : l.value ≡ digits_value (take l.byte-index l.digits);
}
