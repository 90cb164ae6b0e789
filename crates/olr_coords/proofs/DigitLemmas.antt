-- The values of digits.
use Rattle.olr_spec.proofs.Common.{◌≡◌, ℕ, ◌+◌, ◌*◌, ◌-◌, ◌<◌, ◌≤◌, ◌^◌, true, List, length, fold, ap, sym, ◌∙◌, arith, rules}
use Rattle.olr_spec.proofs.Common.{take, list_all, is_ascii_digit, length-take, pow-add, digits_value}
use Rattle.std.proofs.Math.Nat.{mul-lt-mul_of_pos_right}
use Rattle.std.proofs.lemmas.Str.Parse.{IsNumeralModel, numerals_by_fold, digits_value_short}

pub own : IsNumeralModel (λ ds. list_all is_ascii_digit ds ≡ true) digits_value
own = numerals_by_fold _ (search rules) (λ n ds. fold (λ m d. 10 * m + (d - 48)) n ds) (search rules)

-- at most 18 digits have a value below 10^18
pub few-digits : (ds : List ℕ) (k : ℕ) → list_all is_ascii_digit (take k ds) ≡ true → length ds ≤ 18 →
    digits_value (take k ds) < 10 ^ 18
few-digits ds k all few = digits_value_short own (take k ds) 18 all (omega (arith, length-take k ds))

-- digits have a value below a power of ten
pub digits-lt : (ds : List ℕ) (k : ℕ) → list_all is_ascii_digit (take k ds) ≡ true → length ds ≤ k →
    digits_value (take k ds) < 10 ^ length ds
digits-lt ds k all whole = digits_value_short own (take k ds) (length ds) all (omega (arith, length-take k ds))

-- a fraction is less than one degree
pub scaled-lt : (n k : ℕ) → n < 10 ^ k → k ≤ 7 → n * 10 ^ (7 - k) < 10 ^ 7
scaled-lt n k below few =
    let whole : 10 ^ k * 10 ^ (7 - k) ≡ 10 ^ 7 =
    let e : k + (7 - k) ≡ 7 = omega arith in
    sym (pow-add 10 k (7 - k)) ∙ ap (λ (m : ℕ). 10 ^ m) e in
    let scale : 0 < 10 ^ (7 - k) = search rules in
    coe 0 1 (i. n * 10 ^ (7 - k) < (whole i)) (mul-lt-mul_of_pos_right below scale)

-- what the code that reads digits needs
pub ruleset digit_bounds = (few-digits, digits-lt, scaled-lt)
