-- The size of a log at which it is compacted.
--     unit_of text, digits_of text      K, M or G at the end of a text, as a number of bytes, and the text before it; or one
--         byte, and all of the text
--     IsSize text n      a text names this number of bytes, from 1 on and of 64 bits at most: a decimal number, perhaps behind a
--         plus sign, of such units
--     IsLength size length      the least length of a log that is compacted, if the option is a size
use Rattle.std.specs.Prelude.{◌≡◌, ◌*◌, ◌-◌, ◌^◌, ◌<◌, ◌==◌, ℕ, List, Option, Some, None, take, length, slice_index}
use Rattle.std.specs.Prelude.{if◌then◌else◌, MatchOption}
use Rattle.std.specs.Str.Parse.{IsNumeral, digits_value, without_leading_plus}

abbrev pub last_byte : List ℕ → ℕ
last_byte text = slice_index text (length text - 1)

abbrev pub unit_of : List ℕ → ℕ
unit_of text =
    if last_byte text == 75 then 2 ^ 10 else if last_byte text == 77 then 2 ^ 20 else if last_byte text == 71 then 2 ^ 30
    else 1

abbrev pub digits_of : List ℕ → List ℕ
digits_of text = if unit_of text == 1 then text else take (length text - 1) text

pub record IsSize (text : List ℕ) (n : ℕ) : Type 0 where
  pub digits : IsNumeral 10 (without_leading_plus (digits_of text))
  pub is : n ≡ digits_value 10 (without_leading_plus (digits_of text)) * unit_of text
  pub some : 0 < n
  pub fits : n < 2 ^ 64

abbrev pub NoSize : List ℕ → Type 0
NoSize text = (n : ℕ) → IsSize text n → ⊥

abbrev pub IsLength : Option (List ℕ) → Option ℕ → Type 0
IsLength None length = length ≡ Some (2 ^ 64 - 1)
IsLength (Some text) length = MatchOption length (NoSize text) (IsSize text)
