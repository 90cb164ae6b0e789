-- What the record of an accepted command does to a log, and its line.
use Rattle.olr_run.proofs.Common.{◌≡◌, ◌∙◌, ℕ, List, [], ◌∷◌, ◌++◌, Bool, true, false, Ok, refl, ap, arith, and_parts, join_with_byte}
use Rattle.olr_run.proofs.Common.{Begin, Commit, Abort, Field, Make, read, Command, effect_of, has_line, IsLogged}
use Rattle.olr_commands.specs.Recordable.{is_name_byte}
use Rattle.olr_records.proofs.ReadLemmas.{effect_for, effect_read, known_fields}
use Rattle.olr_records.proofs.FieldLemmas.{Plain, AllPlain}
use Rattle.olr_input.specs.RecordWords.{word_effect}
use Rattle.olr_log.specs.StoredLines.{is_clean, is_clean_byte}

pub fields_plain : (fields : List Field) (c : Command) → read fields ≡ Ok c → IsLogged c → AllPlain fields
fields_plain fields (Make x) e k = known_fields fields (Make x) e
fields_plain fields Begin e k = known_fields fields Begin e
fields_plain fields (Commit n) e k = known_fields fields (Commit n) e
fields_plain fields c e k = absurd k

-- ---- lines

clean_byte : (b : ℕ) → is_name_byte b ≡ true → is_clean_byte b ≡ true
clean_byte b h = grind arith

plain_clean : (f : Field) → Plain f → is_clean f ≡ true
plain_clean [] h = refl
plain_clean (b ∷ f) h = grind (arith, and_parts, clean_byte, plain_clean f)

clean_join : (f g : List ℕ) → is_clean f ≡ true → is_clean g ≡ true → is_clean (f ++ g) ≡ true
clean_join [] g p q = q
clean_join (c ∷ f) g p q = grind (arith, and_parts, clean_join f g)

line_clean : (fs : List Field) → AllPlain fs → is_clean (join_with_byte 44 fs) ≡ true
line_clean [] h = refl
line_clean (f ∷ []) h = plain_clean f h.0
line_clean (f ∷ g ∷ fs) h =
    clean_join f (44 ∷ join_with_byte 44 (g ∷ fs)) (plain_clean f h.0) (line_clean (g ∷ fs) h.1)

stored_of_line : (c : Command) → has_line (effect_for c) ≡ true → IsLogged c
stored_of_line (Make x) h = tt
stored_of_line Begin h = tt
stored_of_line (Commit n) h = tt
stored_of_line Abort h = absurd cc
stored_of_line c h = absurd cc

pub effect_is : (fields : List Field) (c : Command) → read fields ≡ Ok c → effect_of fields ≡ effect_for c
effect_is [] c e = absurd cc
effect_is (field ∷ fs) c e = by_line (has_line (effect_for c)) refl
  where
    is : word_effect (field ∷ fs) ≡ effect_for c
    is = effect_read field fs c e

    by_line : (b : Bool) → has_line (effect_for c) ≡ b → effect_of (field ∷ fs) ≡ effect_for c
    by_line true h =
        let line : has_line (word_effect (field ∷ fs)) ≡ true = ap has_line is ∙ h in
        let clean = line_clean (field ∷ fs) (fields_plain (field ∷ fs) c e (stored_of_line c h)) in
        let same : effect_of (field ∷ fs) ≡ word_effect (field ∷ fs) = rw (line, clean) refl in same ∙ is
    by_line false h =
        let none : has_line (word_effect (field ∷ fs)) ≡ false = ap has_line is ∙ h in
        let same : effect_of (field ∷ fs) ≡ word_effect (field ∷ fs) = rw none refl in same ∙ is
