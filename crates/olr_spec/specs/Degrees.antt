-- Degrees as text: an optional minus sign, 1 to 3 digits, and optionally a decimal point with 1 to 7 digits (profile).
--     degrees text      the value of the text in units, if it has this form
--     read_degrees text      this value, if it is at most 180 degrees either way; otherwise the fault
use Rattle.std.specs.Prelude.{ℕ, ◌+◌, ◌-◌, ◌*◌, ◌^◌, ℤ, pos, Bool, not, ◌&&◌, List, ◌∷◌, drop, fold, ◌==◌, Some, None, Ok, Err}
use Rattle.std.specs.Prelude.{neg_ℤ, [], length, take_while, nat_le, Option, option_map, option_and_then, Result, if◌then◌else◌}
use Rattle.std.specs.List.{list_all}
use Rattle.std.specs.Char.{is_ascii_digit}
use Rattle.olr_spec.specs.Coordinates.{unit4, within}

-- one or more digits, and their value
abbrev pub are_digits : List ℕ → Bool
are_digits ds = nat_le 1 (length ds) && list_all is_ascii_digit ds

abbrev pub digits_value : List ℕ → ℕ
digits_value ds = fold (λ n d. 10 * n + (d - 48)) 0 ds

-- 10^-7 degree, in units
abbrev pub unit7 : ℕ
unit7 = 32768

-- the whole degrees, 1 to 3 digits, in 10^-7 degree
abbrev pub whole : List ℕ → Option ℕ
whole ds = if are_digits ds && nat_le (length ds) 3 then Some (digits_value ds * 10 ^ 7) else None

-- what follows them: nothing, or a decimal point with 1 to 7 digits
abbrev pub fraction : List ℕ → Option ℕ
fraction [] = Some 0
fraction (c ∷ ds) =
    if (c == 46) && are_digits ds && nat_le (length ds) 7 then Some (digits_value ds * 10 ^ (7 - length ds)) else None

abbrev pub before_point : List ℕ → List ℕ
before_point text = take_while (λ c. not (c == 46)) text

-- degrees without a sign, in units
abbrev pub unsigned_degrees : List ℕ → Option ℕ
unsigned_degrees text =
    option_and_then (λ n. option_map (λ m. (n + m) * unit7) (fraction (drop (length (before_point text)) text)))
    (whole (before_point text))

abbrev pub degrees : List ℕ → Option ℤ
degrees [] = None
degrees (c ∷ text) =
    if c == 45 then option_map (λ n. neg_ℤ (pos n)) (unsigned_degrees text)
    else option_map pos (unsigned_degrees (c ∷ text))

pub data CoordFault : Type 0 where
  Text Range : CoordFault

-- at most 180 degrees either way
abbrev pub degrees_or_fault : Option ℤ → Result ℤ CoordFault
degrees_or_fault None = Err Text
degrees_or_fault (Some z) =
    if within (neg_ℤ (pos (1800000 * unit4))) (pos (1800000 * unit4)) z then Ok z else Err Range

abbrev pub read_degrees : List ℕ → Result ℤ CoordFault
read_degrees text = degrees_or_fault (degrees text)
