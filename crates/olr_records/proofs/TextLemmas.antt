-- Lines, and texts of several lines.
use Rattle.olr_records.proofs.Common.{decimal, concat, fields_line, joined, List, length, arith, get_or, drop_all, drop_at, take_at, codes}
use Rattle.olr_records.proofs.Common.{append-nil, length-append, after_commas, length-decimal-le, length-take-le, concat-append}
use Rattle.olr_records.proofs.Common.{middle_line, length-map, map-append, take_more, ◌≡◌, append_assoc, drop-drop, copy_within}
use Rattle.olr_records.proofs.Common.{ℕ, ◌+◌, ◌<◌, [], ◌∷◌, ◌++◌, take, map, refl, ap, ◌≤◌, ◌^◌, ◌-◌, ◌/◌, ◌%◌, ◌∙◌, drop}
use Rattle.std.proofs.lemmas.Fmt.{decimal_digit, decimal_step}
use Rattle.olr_spec.specs.Reference.{Reference}
use Rattle.olr_records.specs.ReplyText.{accepted_text, first_line, last_line, offset_lines, reference_lines}

-- a line of a word, two fields and more
pub fields_line_of : (t w a b : List ℕ) (fs : List (List ℕ))
    → (t ++ w) ++ 44 ∷ (a ++ 44 ∷ (b ++ (after_commas fs ++ 10 ∷ []))) ≡ t ++ fields_line (w ∷ a ∷ b ∷ fs)
fields_line_of t w a b fs = grind (arith, append_assoc, joined)

-- the lines with those of one item more
pub lines_more : {A : Type 0} (f : A → List ℕ) (t : List ℕ) (xs : List A) (k : ℕ) (d : A) → k < length xs
    → (t ++ concat (map f (take k xs))) ++ f (get_or xs k d) ≡ t ++ concat (map f (take (k + 1) xs))
lines_more f t xs k d lt =
    grind (
      arith,
      append-nil (f (get_or xs k d)),
      take_more xs k d lt,
      map-append f (take k xs) (get_or xs k d ∷ []),
      concat-append (map f (take k xs)) (f (get_or xs k d) ∷ []),
      append_assoc t (concat (map f (take k xs))) (f (get_or xs k d)),
    )

-- the text of a reference, part by part
parts : (t l f x : List ℕ) (m p n : List (List ℕ)) →
    (((((t ++ l) ++ f) ++ concat m) ++ x) ++ concat p) ++ concat n ≡ t ++ (l ++ concat (f ∷ (m ++ x ∷ (p ++ n))))
parts t l f x m p n = rw (concat-append m (x ∷ (p ++ n)), concat-append p n) (simp append_assoc refl)

pub reference_text : (t : List ℕ) (r : Reference) (n : ℕ)
    → n ≡ length r.middle + 2
    + (length (offset_lines (codes "positive") r.pos) + length (offset_lines (codes "negative") r.neg))
    → (((((t ++ fields_line (codes "ok" ∷ decimal n ∷ [])) ++ first_line r.first) ++ concat (map middle_line r.middle))
    ++ last_line r.last)
    ++ concat (offset_lines (codes "positive") r.pos)) ++ concat (offset_lines (codes "negative") r.neg)
    ≡ t ++ accepted_text (reference_lines r)
reference_text t r n e = grind (arith, length-map, length-append, parts)

-- the digits of a byte of two, and of three
pub two_digits : (n : ℕ) → 10 ≤ n → n < 100 → decimal n ≡ (48 + n / 10 % 10) ∷ (48 + n % 10) ∷ []
two_digits n low high =
    let short : n / 10 % 10 ≡ n / 10 = omega arith in
    rw (decimal_step n low (omega arith), decimal_digit (n / 10) (omega arith), short)

pub three_digits : (n : ℕ) → 100 ≤ n → n < 256 → decimal n ≡ (48 + n / 10 / 10) ∷ (48 + n / 10 % 10) ∷ (48 + n % 10) ∷ []
three_digits n low high =
    rw (
      decimal_step n (omega arith) (omega arith),
      decimal_step (n / 10) (omega arith) (omega arith),
      decimal_digit (n / 10 / 10) (omega arith),
    )

-- what follows the first of some last bytes
pub after_first : (xs ys : List ℕ) (i j x : ℕ) → i + 1 ≡ j → drop i xs ≡ x ∷ ys → drop j xs ≡ ys
after_first xs ys i j x next e = rw (← next, ← (drop-drop 1 i xs), e)

-- a byte takes at most three digits, and a number of 32 bits at most ten
pub byte_digits : (n : ℕ) → n < 256 → length (decimal n) ≤ 3
byte_digits n small = length-decimal-le 3 n (omega arith) (omega arith) (omega arith)

pub word_digits : (n : ℕ) → n < 2 ^ 32 → length (decimal n) ≤ 10
word_digits n small = length-decimal-le 10 n (omega arith) (omega arith) (omega arith)

-- a text that was moved behind the place of bytes, which lay behind it
pub moved : (text front : List ℕ) (n : ℕ) → n ≡ length text →
    front ++ drop (length front) (copy_within (text ++ front) 0 n (length front)) ≡ front ++ text
moved text front n is =
    let all : List ℕ = text ++ front in
    let long : length all ≡ length text + length front = length-append text front in
    let first : length (take (length front) all) ≡ length front = length-take-le (length front) all (omega arith) in
    let own : take (n - 0) (drop 0 all) ≡ text = take_at text front (n - 0) (omega arith) in
    let none : drop (length front + (n - 0)) all ≡ [] = drop_all (length front + (n - 0)) all (omega arith) in
    let rest : take (n - 0) (drop 0 all) ++ drop (length front + (n - 0)) all ≡ text = cc (own, none, append-nil text) in
    let parts = append_assoc (take (length front) all) (take (n - 0) (drop 0 all)) (drop (length front + (n - 0)) all) in
    ap (λ (xs : List ℕ). front ++ drop (length front) xs) parts
    ∙ ap (λ (xs : List ℕ). front ++ xs) (drop_at (take (length front) all) _ (length front) first ∙ rest)
