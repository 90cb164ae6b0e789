-- Degrees as text: as many decimals as are needed and no more, and a minus sign only if the value is less than zero.
--     has_degrees_text z      z units are whole steps of 10^-7 degree, at most 180 degrees either way
--     degrees_text z      their text
use Rattle.std.specs.Prelude.{ℕ, zero, suc, ◌+◌, ◌/◌, ◌%◌, ◌^◌, ℤ, pos, negsuc, nat_abs, Bool, ◌&&◌, ◌==◌}
use Rattle.std.specs.Prelude.{List, [], ◌∷◌, ◌++◌, decimal, if◌then◌else◌}
use Rattle.olr_spec.specs.Degrees.{unit7}
use Rattle.olr_coords.specs.Bounds.{is_degrees}

-- the digits of n / 10^k after the decimal point, up to the last that isn't zero
unfoldable pub decimals : ℕ → ℕ → List ℕ
decimals zero n = []
decimals (suc k) n = if n == 0 then [] else (48 + n / 10 ^ k) ∷ decimals k (n % 10 ^ k)

-- a decimal point before digits, if there are any
abbrev pub after_point : List ℕ → List ℕ
after_point [] = []
after_point (d ∷ ds) = 46 ∷ d ∷ ds

-- n steps of 10^-7 degree as text
abbrev pub steps_text : ℕ → List ℕ
steps_text n = decimal (n / 10 ^ 7) ++ after_point (decimals 7 (n % 10 ^ 7))

abbrev pub degrees_text : ℤ → List ℕ
degrees_text (pos n) = steps_text (n / unit7)
degrees_text (negsuc n) = 45 ∷ steps_text (suc n / unit7)

abbrev pub has_degrees_text : ℤ → Bool
has_degrees_text z = is_degrees z && (nat_abs z % unit7 == 0)
