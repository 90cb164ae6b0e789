-- The longest front that counts.
use Rattle.olr_log.proofs.StoredLines.{empty_snoc, whole_join}
use Rattle.olr_log.proofs.Common.{◌≡◌, ◌⊎◌, inl, inr, ℕ, zero, suc, ◌+◌, ◌-◌, ◌≤◌, ◌<◌, Bool, true}
use Rattle.olr_log.proofs.Common.{false, List, [], ◌∷◌, ◌++◌, length, take, drop, get_or, refl, sym, ◌∙◌, ap, arith}
use Rattle.olr_log.proofs.Common.{length-append, append_assoc, ◌==◌, ◌&&◌, not, if◌then◌else◌, bytes_eq, append-nil}
use Rattle.olr_log.proofs.Common.{take-append-le, cases_Bool, cases_eq, and_parts, and_left, cond-true, cond-false, is_whole}
use Rattle.olr_log.proofs.Common.{is_whole_from, stays_open, IsFront, ends_blank, ends_blank_behind, counts, longest_front}
use Rattle.std.specs.List.{ends_with}
use Rattle.std.proofs.lemmas.List.{take-append-drop}
use Rattle.std.proofs.Math.Seq.{take-append-add, take-append_seam}
use Rattle.olr_log.specs.Texts.{recovered}

-- no text with a carriage return is whole
pub return_ends : (o : Bool) (l x y : List ℕ) → is_whole_from o l (x ++ 13 ∷ y) ≡ false
return_ends o l [] y = refl
return_ends o l (b ∷ x) y = grind (arith, return_ends (stays_open o l) [] x y, return_ends o (l ++ b ∷ []) x y)

-- whole records end in a line feed
pub blank_append : (before : ℕ) (o : Bool) (l t : List ℕ) (a : ℕ) (y : List ℕ) → is_whole_from o l t ≡ true → 0 < length t → ends_blank_behind before (t ++ a ∷ y) ≡ ends_blank_behind 10 (a ∷ y)
blank_append before o l [] a y whole some = absurd (omega arith)
blank_append before o l (b ∷ []) a y whole some = elim (cases_eq b 10) [
  | inl is ↦ ap (λ (p : ℕ). ends_blank_behind p (a ∷ y)) is
  | inr not ↦ grind (arith, empty_snoc l b)
]
blank_append before o l (b ∷ c ∷ t) a y whole some = grind (arith, blank_append b (stays_open o l) [] (c ∷ t) a y, blank_append b o (l ++ b ∷ []) (c ∷ t) a y)

pub counts_append : (t y : List ℕ) → counts t ≡ true → counts (t ++ y) ≡ counts y
counts_append t [] c = ap counts (append-nil t) ∙ c
counts_append [] (a ∷ y) c = refl
counts_append (b ∷ t) (a ∷ y) c =
    let whole : is_whole (b ∷ t) ≡ true = (and_parts (is_whole (b ∷ t)) _ c).0 in
    let left = whole_join false [] (b ∷ t) (a ∷ y) whole in
    let right = blank_append 10 false [] (b ∷ t) a y whole (omega arith) in
    let f : Bool → Bool → Bool = λ p q. p && not q in
    ap (λ (p : Bool). f p (ends_blank ((b ∷ t) ++ a ∷ y))) left ∙ ap (λ (q : Bool). f (is_whole (a ∷ y)) q) right

pub longest_yes : (n : ℕ) (x : List ℕ) → counts (take (suc n) x) ≡ true → longest_front (suc n) x ≡ take (suc n) x
longest_yes n x c = cond-true _ _ _ c

pub longest_no : (n : ℕ) (x : List ℕ) → counts (take (suc n) x) ≡ false → longest_front (suc n) x ≡ longest_front n x
longest_no n x c = cond-false _ _ _ c

-- a front of at most n bytes depends on these bytes alone
pub longest_within : (n : ℕ) (x z : List ℕ) → n ≤ length x → longest_front n (x ++ z) ≡ longest_front n x
longest_within zero x z h = refl
longest_within (suc n) x z h =
    ap (λ (t : List ℕ). if counts t then t else longest_front n (x ++ z)) (take-append-le (suc n) x z h)
    ∙ ap (λ (r : List ℕ). if counts (take (suc n) x) then take (suc n) x else r) (longest_within n x z (omega arith))

longest_whole : (t y : List ℕ) → counts t ≡ true → longest_front (length t) (t ++ y) ≡ t
longest_whole [] y c = refl
longest_whole (b ∷ t) y c =
    let same = take-append_seam (b ∷ t) y in
    longest_yes (length t) ((b ∷ t) ++ y) (ap counts same ∙ c) ∙ same

-- behind a text that counts, the longest front is that of the rest
longest_append : (t y : List ℕ) (k : ℕ) → counts t ≡ true → longest_front (length t + k) (t ++ y) ≡ t ++ longest_front k y
longest_append t y zero c =
    let same : length t + 0 ≡ length t = omega arith in
    ap (λ (n : ℕ). longest_front n (t ++ y)) same ∙ longest_whole t y c ∙ sym (append-nil t)
longest_append t y (suc k) c =
    let up : length t + suc k ≡ suc (length t + k) = omega arith in
    let same : take (suc (length t + k)) (t ++ y) ≡ t ++ take (suc k) y = ap (λ (n : ℕ). take n (t ++ y)) (sym up) ∙ take-append-add t y (suc k) in
    let alike = ap counts same ∙ counts_append t (take (suc k) y) c in
    ap (λ (n : ℕ). longest_front n (t ++ y)) up ∙ elim (cases_Bool (counts (take (suc k) y))) [
      | inl passes ↦ longest_yes (length t + k) (t ++ y) (alike ∙ passes) ∙ same ∙ ap (λ (z : List ℕ). t ++ z) (sym (longest_yes k y passes))
      | inr fails ↦ longest_no (length t + k) (t ++ y) (alike ∙ fails) ∙ longest_append t y k c ∙ ap (λ (z : List ℕ). t ++ z) (sym (longest_no k y fails))
    ]

-- no front goes past a carriage return
longest_stop : (x y : List ℕ) (k : ℕ) → longest_front (length x + k) (x ++ 13 ∷ y) ≡ longest_front (length x) x
longest_stop x y zero =
    let same : length x + 0 ≡ length x = omega arith in
    ap (λ (n : ℕ). longest_front n (x ++ 13 ∷ y)) same ∙ longest_within (length x) x (13 ∷ y) (omega arith)
longest_stop x y (suc k) =
    let up : length x + suc k ≡ suc (length x + k) = omega arith in
    let same : take (suc (length x + k)) (x ++ 13 ∷ y) ≡ x ++ 13 ∷ take k y = ap (λ (n : ℕ). take n (x ++ 13 ∷ y)) (sym up) ∙ take-append-add x (13 ∷ y) (suc k) in
    let none : counts (take (suc (length x + k)) (x ++ 13 ∷ y)) ≡ false = ap counts same ∙ and_left _ _ (return_ends false [] x (take k y)) in
    ap (λ (n : ℕ). longest_front n (x ++ 13 ∷ y)) up ∙ longest_no (length x + k) (x ++ 13 ∷ y) none ∙ longest_stop x y k

longest_counts : (n : ℕ) (x : List ℕ) → counts (longest_front n x) ≡ true
longest_counts zero x = refl
longest_counts (suc n) x = elim (cases_Bool (counts (take (suc n) x))) [
  | inl c ↦ ap counts (longest_yes n x c) ∙ c
  | inr c ↦ ap counts (longest_no n x c) ∙ longest_counts n x
]

longest_rest : (n : ℕ) (x : List ℕ) → (rest : List ℕ) × (x ≡ longest_front n x ++ rest)
longest_rest zero x = (x, refl)
longest_rest (suc n) x = elim (cases_Bool (counts (take (suc n) x))) [
  | inl c ↦ (drop (suc n) x, sym (take-append-drop (suc n) x) ∙ ap (λ (z : List ℕ). z ++ drop (suc n) x) (sym (longest_yes n x c)))
  | inr c ↦ let more = longest_rest n x in (more.0, more.1 ∙ ap (λ (z : List ℕ). z ++ more.0) (sym (longest_no n x c)))
]

pub recovered_append : (t y : List ℕ) → counts t ≡ true → recovered (t ++ y) ≡ t ++ recovered y
unfolding recovered
recovered_append t y c = ap (λ (n : ℕ). longest_front n (t ++ y)) (length-append t y) ∙ longest_append t y (length y) c

pub recovered_stop : (x y : List ℕ) → recovered (x ++ 13 ∷ y) ≡ recovered x
unfolding recovered
recovered_stop x y = ap (λ (n : ℕ). longest_front n (x ++ 13 ∷ y)) (length-append x (13 ∷ y)) ∙ longest_stop x y (length (13 ∷ y))

pub recovered_counts : (x : List ℕ) → counts (recovered x) ≡ true
unfolding recovered
recovered_counts x = longest_counts (length x) x

pub recovered_rest : (x : List ℕ) → (rest : List ℕ) × (x ≡ recovered x ++ rest)
unfolding recovered
recovered_rest x = longest_rest (length x) x

pub recovered_same : (x : List ℕ) → counts x ≡ true → recovered x ≡ x
unfolding recovered
recovered_same x c = ap (λ (z : List ℕ). longest_front (length x) z) (sym (append-nil x)) ∙ longest_whole x [] c

-- what is recovered of a front of records is a front of them
pub front_recovered : (k : ℕ) (records : List ℕ) → IsFront records (recovered (take k records))
front_recovered k records =
    let more = recovered_rest (take k records) in
    record {
      rest = more.0 ++ drop k records;
      splits = sym (take-append-drop k records) ∙ ap (λ (z : List ℕ). z ++ drop k records) more.1 ∙ append_assoc (recovered (take k records)) more.0 (drop k records);
      whole = (and_parts (is_whole (recovered (take k records))) _ (recovered_counts (take k records))).0;
    }

-- each byte is that of the text, or a carriage return
abbrev pub Spotted : List ℕ → List ℕ → Type 0
Spotted [] [] = Unit {0}
Spotted [] (b ∷ bs) = ⊥
Spotted (a ∷ as') [] = ⊥
Spotted (a ∷ as') (b ∷ bs) = ((b ≡ a) ⊎ (b ≡ 13)) × Spotted as' bs

-- a text with spots is a front of it and a carriage return, if a carriage return follows
spots : (r s z : List ℕ) → Spotted r s → (k : ℕ) × (rest : List ℕ) × (s ++ 13 ∷ z ≡ take k r ++ 13 ∷ rest)
spots [] [] z h = (0, z, refl)
spots [] (b ∷ s) z h = absurd h
spots (a ∷ r) [] z h = absurd h
spots (a ∷ r) (b ∷ s) z h = elim h.0 [
  | inl same ↦ let more = spots r s z h.1 in (suc more.0, more.1, ap (λ (x : ℕ). x ∷ s ++ 13 ∷ z) same ∙ ap (λ (x : List ℕ). a ∷ x) more.2)
  | inr spot ↦ (0, s ++ 13 ∷ z, ap (λ (x : ℕ). x ∷ s ++ 13 ∷ z) spot)
]

-- behind a text, spotted records before a carriage return are a front of the records
pub recovered_spotted : (t records s z : List ℕ) → counts t ≡ true → Spotted records s → (front : List ℕ) × IsFront records front × (recovered (t ++ (s ++ 13 ∷ z)) ≡ t ++ front)
recovered_spotted t records s z c h =
    let cut = spots records s z h in
    let front = recovered (take cut.0 records) in (
      front,
      front_recovered cut.0 records,
      recovered_append t (s ++ 13 ∷ z) c ∙ ap (λ (x : List ℕ). t ++ x) (ap recovered cut.2 ∙ recovered_stop (take cut.0 records) cut.1),
    )

-- one byte is no whole record
pub short_none : (s : List ℕ) → length s ≤ 1 → recovered s ≡ []
unfolding recovered
short_none [] short = refl
short_none (b ∷ []) short = cond-false _ _ _ (none b)
  where
    none : (b : ℕ) → counts (b ∷ []) ≡ false
    none b = elim (cases_eq b 10) [
      | inl is ↦ ap (λ (x : ℕ). counts (x ∷ [])) is
      | inr other ↦ grind arith
    ]
short_none (a ∷ b ∷ s) short = absurd (omega arith)

-- spots, from each byte
pub spotted_from : (r s : List ℕ) → length s ≡ length r → ((i : ℕ) → i < length r → (get_or s i 0 ≡ get_or r i 0) ⊎ (get_or s i 0 ≡ 13)) → Spotted r s
spotted_from [] [] size each = tt
spotted_from [] (b ∷ s) size each = absurd (omega arith)
spotted_from (a ∷ r) [] size each = absurd (omega arith)
spotted_from (a ∷ r) (b ∷ s) size each = (each 0 (omega arith), spotted_from r s (omega arith) (λ i low. each (suc i) (omega arith)))

-- whether a text ends in an empty line: its last two bytes decide
two_at_end : (before b : ℕ) (bs : List ℕ) →
    ends_with ◌==◌ (before ∷ b ∷ bs) (10 ∷ 10 ∷ []) ≡ ends_blank_behind before (b ∷ bs)
two_at_end before b [] = grind arith
two_at_end before b (c ∷ bs) =
    let on : length (before ∷ b ∷ c ∷ bs) - 2 ≡ suc (length (b ∷ c ∷ bs) - 2) = omega arith in
    ap (λ (n : ℕ). bytes_eq (10 ∷ 10 ∷ []) (drop n (before ∷ b ∷ c ∷ bs))) on ∙ two_at_end b c bs

pub blank_by : (text : List ℕ) → bytes_eq text (10 ∷ []) ≡ false →
    ends_with ◌==◌ text (10 ∷ 10 ∷ []) ≡ ends_blank text
blank_by [] h = refl
blank_by (b ∷ []) h = grind arith
blank_by (b ∷ c ∷ bs) h = two_at_end b c bs
