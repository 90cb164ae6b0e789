-- The text of degrees is read as the same number of units.
use Rattle.olr_spec.proofs.Common.{◌≡◌, ℕ, ◌+◌, ◌*◌, ◌-◌, ◌/◌, ◌%◌, ◌<◌, ◌≤◌, ◌^◌, true, false, Bool, ◌==◌, not, ℤ, pos, negsuc}
use Rattle.olr_spec.proofs.Common.{List, [], ◌∷◌, ◌++◌, length, fold, refl, ap, IsTrue, Some, Ok, Err, sym, ◌∙◌, arith, zero}
use Rattle.olr_spec.proofs.Common.{suc, Option, option_map, list_all, is_ascii_digit, cond_both, and_parts, and_from, eqb-true}
use Rattle.olr_spec.proofs.Common.{le-leb, eq-eqb, ne_eqb, nat_tests, drop-append_seam, before_point, digits_value, append-nil}
use Rattle.olr_spec.proofs.Common.{append_assoc, cases_Bool, take_while-cons}
use Rattle.std.specs.Prelude.{decimal, if◌then◌else◌, option_and_then, nat_abs, neg_ℤ, IfSome}
use Rattle.std.proofs.lemmas.Fmt.{digits_decimal, digits_value-decimal, decimal_nonempty, length-decimal-le}
use Rattle.std.proofs.Math.Nat.{pow-succ', div-add-mod, mod-lt, mul_assoc, mul_comm, add-mul, div-lt_iff_lt-mul, one-le-pow}
use Rattle.std.proofs.Math.Nat.{pow-le-pow_right}
use Rattle.olr_spec.specs.Degrees.{whole, fraction, unsigned_degrees, degrees, unit7, degrees_or_fault, Range}
use Rattle.olr_coords.specs.Bounds.{is_degrees}
use Rattle.olr_coords.specs.DegreesText.{after_point, steps_text, degrees_text, has_degrees_text, decimals}
use Rattle.olr_coords.specs.Laws.{TextsRead, ReadHaveText}
use Rattle.olr_coords.proofs.DigitLemmas.{own}

-- one more digit
one-more : (a q p r n : ℕ) → p * q + r ≡ n → (10 * a + ((48 + q) - 48)) * p + r ≡ a * (10 * p) + n
one-more a q p r n e = grind (arith, mul_assoc, mul_comm, add-mul)

pub ten-positive : (k : ℕ) → 0 < 10 ^ k
ten-positive k = one-le-pow k 10 (omega arith)

decimals-fold : (k n a : ℕ) → n < 10 ^ k →
    fold (λ m d. 10 * m + (d - 48)) a (decimals k n) * 10 ^ (k - length (decimals k n)) ≡ a * 10 ^ k + n
unfolding decimals
decimals-fold zero n a h = omega arith
decimals-fold (suc k) n a h =
    let rest = decimals-fold k (n % 10 ^ k) (10 * a + ((48 + n / 10 ^ k) - 48)) (mod-lt n (ten-positive k)) in
    let more = one-more a (n / 10 ^ k) (10 ^ k) (n % 10 ^ k) n (div-add-mod n (10 ^ k)) in
    grind (arith, cases_Bool (n == 0), eqb-true, rest, more, pow-succ' 10 k)

pub decimals-short : (k n : ℕ) → length (decimals k n) ≤ k
unfolding decimals
decimals-short zero n = omega arith
decimals-short (suc k) n = grind (arith, cond_both, (decimals-short k (n % 10 ^ k)))

-- a digit of a number below ten times a scale
digit-small : (k n : ℕ) → n < 10 ^ suc k → n / 10 ^ k < 10
digit-small k n h = (div-lt_iff_lt-mul {k = 10 ^ k} {x = n} {y = 10} (ten-positive k)).1 (coe 0 1 (i. n < (pow-succ' 10 k i)) h)

is-digit : (q : ℕ) → q < 10 → is_ascii_digit (48 + q) ≡ true
is-digit q h = grind (arith, nat_tests)

pub decimals-digits : (k n : ℕ) → n < 10 ^ k → list_all is_ascii_digit (decimals k n) ≡ true
unfolding decimals
decimals-digits zero n h = refl
decimals-digits (suc k) n h =
    grind (arith, cond_both, and_from, is-digit, digit-small, mod-lt, ten-positive, (decimals-digits k (n % 10 ^ k)))

no-point-byte : (d : ℕ) → is_ascii_digit d ≡ true → not (d == 46) ≡ true
no-point-byte d h = grind (arith, nat_tests)

no-minus-byte : (d : ℕ) → is_ascii_digit d ≡ true → (d == 45) ≡ false
no-minus-byte d h = grind (arith, nat_tests)

before-digits : (ds tail : List ℕ) → list_all is_ascii_digit ds ≡ true → before_point tail ≡ [] →
    before_point (ds ++ tail) ≡ ds
before-digits [] tail all e = e
before-digits (d ∷ ds) tail all e =
    grind (arith, take_while-cons (λ c. not (c == 46)) d (ds ++ tail), no-point-byte d, and_parts, before-digits ds tail)

before-fraction : (ds : List ℕ) → before_point (after_point ds) ≡ []
before-fraction [] = refl
before-fraction (d ∷ ds) = take_while-cons (λ c. not (c == 46)) 46 (d ∷ ds)

fraction-digits : (ds : List ℕ) (n : ℕ) → list_all is_ascii_digit ds ≡ true → length ds ≤ 7 →
    digits_value ds * 10 ^ (7 - length ds) ≡ n → fraction (after_point ds) ≡ Some n
fraction-digits [] n all few e = ap (λ (m : ℕ). Some m) e
fraction-digits (d ∷ ds) n all few e = grind (arith, le-leb)

fraction-text : (n : ℕ) → n < 10 ^ 7 → fraction (after_point (decimals 7 n)) ≡ Some n
fraction-text n h = grind (arith, fraction-digits, decimals-digits, decimals-short, decimals-fold)

whole-digits : (ds : List ℕ) (n : ℕ) → list_all is_ascii_digit ds ≡ true → 0 < length ds → length ds ≤ 3 →
    digits_value ds ≡ n → whole ds ≡ Some (n * 10 ^ 7)
whole-digits ds n all some few e = grind (arith, le-leb)

whole-text : (n : ℕ) → n < 1000 → whole (decimal n) ≡ Some (n * 10 ^ 7)
whole-text n h =
    let small : n < 2 ^ 64 = omega arith in
    whole-digits (decimal n) n (digits_decimal own n small) (decimal_nonempty n small)
    (length-decimal-le 3 n (omega arith) h small) (digits_value-decimal own n small)

-- a text of digits before a tail without digits
split-text : (ds tail : List ℕ) (w f : ℕ) → before_point (ds ++ tail) ≡ ds → whole ds ≡ Some w →
    fraction tail ≡ Some f → unsigned_degrees (ds ++ tail) ≡ Some ((w + f) * unit7)
split-text ds tail w f before e g = rw (before, drop-append_seam, e, g) refl

pub steps-read : (n : ℕ) → n < 10 ^ 10 → unsigned_degrees (steps_text n) ≡ Some (n * unit7)
steps-read n h =
    let high : n / 10 ^ 7 < 1000 = omega arith in
    let low : n % 10 ^ 7 < 10 ^ 7 = mod-lt n (ten-positive 7) in
    let small : n / 10 ^ 7 < 2 ^ 64 = omega arith in
    let sum : n / 10 ^ 7 * 10 ^ 7 + n % 10 ^ 7 ≡ n = omega arith in
    split-text (decimal (n / 10 ^ 7)) (after_point (decimals 7 (n % 10 ^ 7))) (n / 10 ^ 7 * 10 ^ 7) (n % 10 ^ 7)
    (before-digits _ _ (digits_decimal own (n / 10 ^ 7) small) (before-fraction (decimals 7 (n % 10 ^ 7))))
    (whole-text (n / 10 ^ 7) high) (fraction-text (n % 10 ^ 7) low)
    ∙ ap (λ (m : ℕ). Some (m * unit7)) sum

-- a text that begins with a digit has no sign
no-sign : (ds tail : List ℕ) → list_all is_ascii_digit ds ≡ true → 0 < length ds →
    degrees (ds ++ tail) ≡ option_map pos (unsigned_degrees (ds ++ tail))
no-sign [] tail all some = absurd (omega arith)
no-sign (d ∷ ds) tail all some = grind (arith, no-minus-byte, and_parts)

plain-read : (n : ℕ) → n < 10 ^ 10 → degrees (steps_text n) ≡ Some (pos (n * unit7))
plain-read n h = grind (arith, no-sign, digits_decimal, own, decimal_nonempty, steps-read)

-- a coordinate that is written is read as the same
pub degrees-read : (z : ℤ) → IsTrue (has_degrees_text z) → degrees (degrees_text z) ≡ Some z
degrees-read (pos n) h = grind (arith, eqb-true, and_parts, nat_tests, plain-read)
degrees-read (negsuc n) h = grind (arith, eqb-true, and_parts, nat_tests, steps-read)

pub texts-read : TextsRead
texts-read z h = ap degrees_or_fault (degrees-read z h) ∙ rw (and_parts (is_degrees z) (nat_abs z % unit7 == 0) h).0 refl

-- ---- coordinates that are read are whole steps

units-whole : (o p : Option ℕ) →
    IfSome (option_and_then (λ n. option_map (λ m. (n + m) * unit7) p) o) (λ u. u % unit7 ≡ 0)
units-whole o p = grind arith

plain-whole : (o : Option ℕ) → IfSome o (λ u. u % unit7 ≡ 0) → IfSome (option_map pos o) (λ z. nat_abs z % unit7 ≡ 0)
plain-whole o h = grind arith

minus-whole : (o : Option ℕ) → IfSome o (λ u. u % unit7 ≡ 0) →
    IfSome (option_map (λ n. neg_ℤ (pos n)) o) (λ z. nat_abs z % unit7 ≡ 0)
minus-whole o h = grind arith

pub degrees-whole : (text : List ℕ) → IfSome (degrees text) (λ z. nat_abs z % unit7 ≡ 0)
degrees-whole [] = tt
degrees-whole (c ∷ text) = grind (arith, cond_both, minus-whole, units-whole, plain-whole)

-- a value that passes a test
passed : (b : Bool) (y z : ℤ) → (if b then Ok y else Err Range) ≡ Ok z → (b ≡ true) × (y ≡ z)
passed b y z e = grind arith

found-whole : (o : Option ℤ) (z : ℤ) → IfSome o (λ z. nat_abs z % unit7 ≡ 0) → degrees_or_fault o ≡ Ok z →
    IsTrue (has_degrees_text z)
found-whole o z h e = grind (arith, passed, and_from, eq-eqb)

pub read-have-text : ReadHaveText
read-have-text text z e = found-whole (degrees text) z (degrees-whole text) e

-- ---- digit by digit

pub decimals-end : (k n : ℕ) → n ≡ 0 → decimals k n ≡ []
unfolding decimals
decimals-end zero n e = refl
decimals-end (suc k) n e = rw (eq-eqb n 0 e) refl

next-digit : (k n : ℕ) → 0 < n → decimals (suc k) n ≡ (48 + n / 10 ^ k) ∷ decimals k (n % 10 ^ k)
unfolding decimals
next-digit k n more = rw (ne_eqb n 0 (λ e. omega arith)) refl

places-left : (k n : ℕ) → n < 10 ^ k → 0 < n → 0 < k
places-left zero n h more = absurd (omega arith)
places-left (suc k) n h more = omega arith

-- one step of writing the digits that are left
pub record IsStep (k n : ℕ) : Type 0 where
  pub places : 1 ≤ k
  pub positive : 0 < 10 ^ (k - 1)
  pub small : 10 ^ (k - 1) ≤ 10 ^ 7
  pub first : n / 10 ^ (k - 1) < 10
  pub rest : n % 10 ^ (k - 1) < 10 ^ (k - 1)
  pub next : decimals k n ≡ (48 + n / 10 ^ (k - 1)) ∷ decimals (k - 1) (n % 10 ^ (k - 1))

step-at : (k j n : ℕ) → k ≤ 7 → n < 10 ^ k → 0 < n → k ≡ suc j → k - 1 ≡ j → IsStep k n
step-at k j n few h more e f = grind (arith, ten-positive, pow-le-pow_right, digit-small, mod-lt, next-digit)

pub step : (k n : ℕ) → k ≤ 7 → n < 10 ^ k → 0 < n → IsStep k n
step k n few h more = step-at k (k - 1) n few h more (omega (arith, places-left k n h more)) refl

pub point-first : (n : ℕ) → n < 10 ^ 7 → 0 < n → after_point (decimals 7 n) ≡ 46 ∷ decimals 7 n
point-first n h more = ap after_point (next-digit 6 n more) ∙ ap (λ (ds : List ℕ). 46 ∷ ds) (sym (next-digit 6 n more))

-- what the code that writes degrees needs
pub ruleset read_back = (texts-read)

pub ruleset digit_steps = (step, ten-positive, append-nil, append_assoc, decimals-end, point-first)
