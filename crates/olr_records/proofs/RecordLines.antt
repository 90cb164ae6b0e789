-- The text of records is split into their fields.
use Rattle.olr_records.proofs.Common.{concat, and_parts, nat_tests, length-append, Change, Make, ne_eqb, AllByRecursion, ⊤}
use Rattle.olr_records.proofs.Common.{is_name_byte, after_commas, fields_of_change, Field, joined, if◌then◌else◌, read}
use Rattle.olr_records.proofs.Common.{list_any, join_with_byte, record_line, HaveRecords, list_all, ◌≡◌, ◌∙◌, ◌==◌, ◌+◌, ◌<◌}
use Rattle.olr_records.proofs.Common.{◌≤◌, ℕ, zero, suc, false, true, List, [], ◌∷◌, ◌++◌, length, map, Some, Ok, refl, sym, ap}
use Rattle.olr_records.proofs.Common.{subst, arith, fields_line, Command}
use Rattle.csv.specs.Quoting.{needs_byte}
use Rattle.csv.specs.Reading.{records, default_config, records_from, strip_bom}
use Rattle.csv.specs.Writing.{default_writer, field_text, row_text, quoted, fields_text, is_blank}
use Rattle.csv.proofs.RoundTrip.{read-write}
use Rattle.csv.specs.Machine.{next_record}
use Rattle.olr_records.proofs.ReadLemmas.{known_fields}
use Rattle.olr_records.proofs.WrittenLemmas.{record_back}
use Rattle.olr_records.proofs.FieldLemmas.{Plain, AllPlain}
use Rattle.csv.specs.declared.parser.State.TheVariants as st

-- ---- as csv writes them

plain_byte : (c : ℕ) → is_name_byte c ≡ true → needs_byte default_writer c ≡ false
plain_byte c h = grind (arith, nat_tests)

no_quotes : (f : Field) → Plain f → list_any (needs_byte default_writer) f ≡ false
no_quotes [] h = refl
no_quotes (c ∷ f) h = grind (arith, and_parts, plain_byte, no_quotes f)

field_is : (f : Field) → Plain f → field_text default_writer f ≡ f
field_is f h = λ i. if no_quotes f h i then quoted default_writer f else f

fields_are : (fs : List Field) → AllPlain fs → fields_text default_writer fs ≡ after_commas fs
unfolding fields_text
fields_are [] h = refl
fields_are (f ∷ fs) h = λ i. 44 ∷ (field_is f h.0 i ++ fields_are fs h.1 i)

not_blank : (b : ℕ) (w : Field) (fs : List Field) → Plain (b ∷ w) → is_blank default_writer ((b ∷ w) ∷ fs) ≡ false
unfolding is_blank
not_blank b w [] h = rw (field_is (b ∷ w) h) (ne_eqb (suc (length w)) 0 (λ z. cc z))
not_blank b w (g ∷ fs) h = refl

row_is : (b : ℕ) (w : Field) (fs : List Field) → AllPlain ((b ∷ w) ∷ fs) →
    row_text default_writer ((b ∷ w) ∷ fs) ≡ fields_line ((b ∷ w) ∷ fs)
row_is b w fs h =
    let body : field_text default_writer (b ∷ w) ++ fields_text default_writer fs ≡ (b ∷ w) ++ after_commas fs =
    λ i. field_is (b ∷ w) h.0 i ++ fields_are fs h.1 i in
    rw (not_blank b w fs h.0) (ap (λ (x : List ℕ). x ++ 10 ∷ []) (body ∙ sym (joined (b ∷ w) fs)))

-- ---- as csv reads them

-- plain fields, of which the first is a word
abbrev pub PlainRecord : List Field → Type 0
PlainRecord ((b ∷ w) ∷ fs) = AllPlain ((b ∷ w) ∷ fs)
PlainRecord _ = ⊥

pub plain_record : (r : List Field) (c : Command) → read r ≡ Ok c → AllPlain r → PlainRecord r
plain_record [] c e h = absurd cc
plain_record ([] ∷ fs) c e h = absurd cc
plain_record ((b ∷ w) ∷ fs) c e h = h

all_read : (n : ℕ) (rs : List (List Field)) → length rs < n → AllByRecursion PlainRecord rs →
    records_from default_config n st.StartRecord (concat (map fields_line rs)) ≡ rs
unfolding records_from next_record
all_read zero rs l h = absurd (omega arith)
all_read (suc n) [] l h = refl
all_read (suc n) (((b ∷ w) ∷ fs) ∷ rs) l h =
    let rest = concat (map fields_line rs) in
    let one : next_record default_config st.StartRecord [] [] (fields_line ((b ∷ w) ∷ fs) ++ rest)
    ≡ Some ((b ∷ w) ∷ fs, st.StartRecord, rest) =
    subst
    (λ (x : List ℕ). next_record default_config st.StartRecord [] [] (x ++ rest) ≡ Some ((b ∷ w) ∷ fs, st.StartRecord, rest))
    (row_is b w fs h.0) (read-write ((b ∷ w) ∷ fs) rest) in
    rw one (ap (λ (x : List (List Field)). ((b ∷ w) ∷ fs) ∷ x) (all_read n rs (omega arith) h.1))
all_read (suc n) (r ∷ rs) l h = absurd h.0

-- the text has at least a byte for each record
longer : (rs : List (List Field)) → length rs ≤ length (concat (map fields_line rs))
longer [] = omega arith
longer (r ∷ rs) =
    let all = length-append (fields_line r) (concat (map fields_line rs)) in
    let one = length-append (join_with_byte 44 r) (10 ∷ []) in let more = longer rs in omega arith

-- it begins with a letter
abbrev BeginsPlain : List ℕ → Type 0
BeginsPlain [] = ⊤
BeginsPlain (b ∷ x) = is_name_byte b ≡ true

no_mark_byte : (b : ℕ) → is_name_byte b ≡ true → (b == 239) ≡ false
no_mark_byte b h = grind arith

no_mark : (x : List ℕ) → BeginsPlain x → strip_bom x ≡ x
unfolding strip_bom
no_mark [] h = refl
no_mark (b ∷ []) h = refl
no_mark (b ∷ c ∷ []) h = refl
no_mark (b ∷ c ∷ d ∷ x) h = rw (no_mark_byte b h) refl

begins : (rs : List (List Field)) → AllByRecursion PlainRecord rs → BeginsPlain (concat (map fields_line rs))
begins [] h = tt
begins (((b ∷ w) ∷ []) ∷ rs) h = (and_parts (is_name_byte b) (list_all is_name_byte w) h.0.0).0
begins (((b ∷ w) ∷ g ∷ fs) ∷ rs) h = (and_parts (is_name_byte b) (list_all is_name_byte w) h.0.0).0
begins (r ∷ rs) h = absurd h.0

pub lines_read : (rs : List (List Field)) → AllByRecursion PlainRecord rs →
    records default_config (strip_bom (concat (map fields_line rs))) ≡ rs
lines_read rs h =
    let text = concat (map fields_line rs) in
    let size = longer rs in
    ap (records default_config) (no_mark text (begins rs h)) ∙ all_read (length text + 1) rs (omega arith) h

-- ---- those of changes

pub all_lines : (xs : List Change) → map record_line xs ≡ map fields_line (map fields_of_change xs)
all_lines [] = refl
all_lines (x ∷ xs) = ap (λ (ls : List (List ℕ)). record_line x ∷ ls) (all_lines xs)

all_plain : (xs : List Change) → HaveRecords xs → AllByRecursion PlainRecord (map fields_of_change xs)
all_plain [] h = tt
all_plain (x ∷ xs) h =
    let back = record_back x h.0 in
    (plain_record (fields_of_change x) (Make x) back (known_fields (fields_of_change x) (Make x) back), all_plain xs h.1)

pub records_split : (xs : List Change) → HaveRecords xs →
    records default_config (strip_bom (concat (map record_line xs))) ≡ map fields_of_change xs
records_split xs h = rw (all_lines xs) (lines_read (map fields_of_change xs) (all_plain xs h))
