-- Fields: the bytes of a field by its position, as text, and those that csv doesn't quote.
--     Plain f      letters, digits, and marks that csv doesn't quote
--     Where r P      what holds where a value is read
use Rattle.olr_records.proofs.Common.{list_all, and_parts, nat_tests, is_name, is_name_byte, Field, AllByRecursion, IfOk}
use Rattle.olr_records.proofs.Common.{IfSome, if◌then◌else◌, Read, coordinate, degrees, is_ascii_digit, name, place, ◌≡◌, ℕ}
use Rattle.olr_records.proofs.Common.{zero, suc, ◌<◌, Bool, true, false, List, [], ◌∷◌, nat_le, refl, arith, rules}
use Rattle.olr_records.proofs.Common.{◌&&◌, ◌++◌, ◌∙◌, ap, length, take, drop, Option, Some, None, ℤ, pos, not, ◌==◌}
use Rattle.olr_records.proofs.Common.{IsAscii, IsUtf8, option_map, neg_ℤ, prefix_len, list_all-append, digits}
use Rattle.std.proofs.lemmas.Str.{IsUtf8-from_ascii}
use Rattle.olr_spec.specs.Degrees.{are_digits, whole, fraction, before_point, unsigned_degrees}
use Rattle.olr_records.proofs.TestLemmas.{all_weaker}

-- ---- text

module _ (p : ℕ → Bool) (low : (c : ℕ) → p c ≡ true → c < 128) where
  ascii : (f : Field) → list_all p f ≡ true → IsAscii f
  ascii [] h i = search rules
  ascii (c ∷ f) h zero = low c (and_parts _ _ h).0
  ascii (c ∷ f) h (suc i) = ascii f (and_parts _ _ h).1 i

  text_of_bytes : (f : Field) → list_all p f ≡ true → IsUtf8 f
  text_of_bytes f h = IsUtf8-from_ascii f (ascii f h)

name_low : (c : ℕ) → is_name_byte c ≡ true → c < 128
name_low c h = grind (arith, nat_tests)

pub name_text : (f : Field) → is_name f ≡ true → IsUtf8 f
name_text f h = grind (arith, text_of_bytes, name_low, and_parts, nat_le)

-- ---- plain fields

abbrev pub Plain : Field → Type 0
Plain f = list_all is_name_byte f ≡ true

abbrev pub AllPlain : List Field → Type 0
AllPlain fs = AllByRecursion Plain fs

abbrev pub Where : {A : Type 0} → Read A → Type 0 → Type 0
Where r P = IfOk r (λ _. P)

digit_plain : (c : ℕ) → is_ascii_digit c ≡ true → is_name_byte c ≡ true
digit_plain c h = grind arith

are_plain : (f : Field) → are_digits f ≡ true → Plain f
are_plain f h = all_weaker is_ascii_digit is_name_byte digit_plain f (and_parts _ (list_all is_ascii_digit f) h).1

pub digits_plain : (low high : ℕ) (f : Field) → Where (digits low high f) (Plain f)
digits_plain low high f = grind (arith, are_plain)

pub name_plain : (f : Field) → Where (name f) (Plain f)
name_plain f = grind (arith, and_parts)

joined_plain : (f g : Field) → Plain f → Plain g → Plain (f ++ g)
joined_plain f g p q = list_all-append is_name_byte f g ∙ (λ i. p i && q i)

abbrev Found : {A : Type 0} → Option A → Type 0 → Type 0
Found o P = IfSome o (λ _. P)

whole_plain : (ds : Field) → Found (whole ds) (Plain ds)
whole_plain ds = grind (arith, and_parts, are_plain)

fraction_plain : (text : Field) → Found (fraction text) (Plain text)
fraction_plain [] = refl
fraction_plain (c ∷ ds) = grind (arith, and_parts, are_plain)

front_rest : (n : ℕ) (text : Field) → take n text ++ drop (length (take n text)) text ≡ text
front_rest zero text = refl
front_rest (suc n) [] = refl
front_rest (suc n) (c ∷ text) = ap (λ (x : Field). c ∷ x) (front_rest n text)

unsigned_plain : (text : Field) → Found (unsigned_degrees text) (Plain text)
unsigned_plain text =
    let front = whole_plain (before_point text) in
    let rest = fraction_plain (drop (length (before_point text)) text) in
    let all : before_point text ++ drop (length (before_point text)) text ≡ text =
    front_rest (prefix_len (λ c. not (c == 46)) text) text in
    grind (arith, all, joined_plain)

signed : (o : Option ℕ) (f : ℕ → ℤ) (P Q : Type 0) → (P → Q) → Found o P → Found (option_map f o) Q
signed None f P Q g h = tt
signed (Some n) f P Q g h = g h

minus_plain : (c : ℕ) (text : Field) → (c == 45) ≡ true → Plain text → Plain (c ∷ text)
minus_plain c text e h = grind (arith, e, h)

degrees_plain : (text : Field) → Found (degrees text) (Plain text)
degrees_plain [] = tt
degrees_plain (c ∷ text) = by (c == 45) refl where
  by : (b : Bool) → (c == 45) ≡ b →
      Found (if b then option_map (λ n. neg_ℤ (pos n)) (unsigned_degrees text) else option_map pos (unsigned_degrees (c ∷ text)))
      (Plain (c ∷ text))
  by true e =
      signed (unsigned_degrees text) (λ n. neg_ℤ (pos n)) (Plain text) (Plain (c ∷ text)) (minus_plain c text e)
      (unsigned_plain text)
  by false e =
      signed (unsigned_degrees (c ∷ text)) (λ n. pos n) (Plain (c ∷ text)) (Plain (c ∷ text)) (λ h. h) (unsigned_plain (c ∷ text))

found_plain : (test : ℤ → Bool) (o : Option ℤ) (P : Type 0) → Found o P → Where (coordinate test o) P
found_plain test None P h = tt
found_plain test (Some z) P h = grind arith

pub place_plain : (lon lat : Field) → Where (place lon lat) (Plain lon × Plain lat)
place_plain lon lat = grind (arith, found_plain, degrees_plain lon, degrees_plain lat)
