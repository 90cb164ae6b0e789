-- The laws of inputs that are read one record a line.
use Rattle.std.proofs.Common.{◌≡◌, ◌∙◌, ◌==◌, ℕ, zero, suc, true, false, List, [], ◌∷◌, ◌++◌, length, map, Some, Err, inl, inr}
use Rattle.std.proofs.Common.{refl, sym, ap, subst, arith, add-one}
use Rattle.std.proofs.lemmas.List.{append-nil, append_assoc}
use Rattle.std.specs.List.{list_any}
use Rattle.std.specs.Prelude.{IsOkAnd}
use Rattle.csv.specs.Machine.{next_record}
use Rattle.csv.specs.Reading.{default_config, records, records_from, records_next, Reached, AreRecords, strip_bom}
use Rattle.csv.specs.declared.parser.State.{State}
use Rattle.olr_records.specs.Records.{Field, HoldsList, Bad_form, read}
use Rattle.olr_records.specs.ReplyText.{outcome_text}
use Rattle.olr_run.specs.Output.{CommandOutcome}
use Rattle.olr_input.proofs.CsvRecords.{are_more, are_none, only_records}
use Rattle.olr_input.proofs.LineRecords.{IsEnd, after, end_of, gives_one, no_end_join, record_is, rejected_record, skips}
use Rattle.olr_input.proofs.LinesRead.{lines_ended}
use Rattle.olr_input.specs.LineRecords.{HasNoEnd, EachIs, if_any, is_rejected, line_record, line_records, lines_from, lines_of}
use Rattle.olr_input.specs.Lines.{BetweenRecords, is_line_end}
use Rattle.olr_input.specs.Machine.{is_quoted, state_after}
use Rattle.std.proofs.lemmas.Bool.{cases_Bool}
use Rattle.olr_laws.specs.RunLaws.{IsRecordOf, LineLaws}
use Rattle.csv.specs.declared.parser.State.TheVariants as st
use Rattle.olr_spec.proofs.LawOf.{LawOf}

-- ---- one line

alone : (b : ℕ) (line : List ℕ) → HasNoEnd (b ∷ line) → is_rejected (b ∷ line) ≡ false →
    next_record default_config st.StartRecord [] [] (b ∷ line) ≡ Some (line_record (b ∷ line), st.StartRecord, [])
alone b line none whole =
    let one = gives_one b line none in
    let reads = one.alone st.StartRecord (inl refl) in
    reads ∙ ap (λ (f : List Field). Some (f, st.StartRecord, [])) (sym (record_is (b ∷ line) one.fields st.StartRecord [] whole reads))

none_at_end : (n : ℕ) → records_from default_config n st.StartRecord [] ≡ []
unfolding records_from next_record
none_at_end zero = refl
none_at_end (suc n) = refl

all_alone : (b : ℕ) (line : List ℕ) → HasNoEnd (b ∷ line) → is_rejected (b ∷ line) ≡ false →
    records default_config (b ∷ line) ≡ line_record (b ∷ line) ∷ []
unfolding records_from
all_alone b line none whole =
    let n = length (b ∷ line) in
    ap (λ (m : ℕ). records_from default_config m st.StartRecord (b ∷ line)) (add-one n)
    ∙ ap (records_next (records_from default_config n)) (alone b line none whole)
    ∙ ap (λ (rs : List (List Field)). line_record (b ∷ line) ∷ rs) (none_at_end n)

is_record : (b : ℕ) (line : List ℕ) → HasNoEnd (b ∷ line) → IsRecordOf (b ∷ line) (line_record (b ∷ line))
is_record b line none = (all_alone b line none, λ h. ap read (rejected_record (b ∷ line) h))

end_byte : (e : ℕ) → IsEnd e → is_line_end e ≡ true
end_byte e h = grind arith

pub one_record : LawOf (λ (l : LineLaws). l.line_gives_one)
one_record b line e rest none end =
    (ap (map line_record) (lines_ended (b ∷ line) e rest none (end_byte e end)), is_record b line none)

-- ---- all lines

no_end_more : (line : List ℕ) (b : ℕ) → HasNoEnd line → is_line_end b ≡ false → HasNoEnd (line ++ b ∷ [])
no_end_more line b none e = no_end_join line (b ∷ []) none (rw e refl)

each_if_any : (line : List ℕ) (more : List (List ℕ)) → HasNoEnd line → EachIs IsRecordOf more (map line_record more) →
    EachIs IsRecordOf (if_any line ++ more) (map line_record (if_any line ++ more))
each_if_any [] more none rest = rest
each_if_any (b ∷ line) more none rest = (is_record b line none, rest)

each_line : (bytes line : List ℕ) → HasNoEnd line →
    EachIs IsRecordOf (lines_from line bytes) (map line_record (lines_from line bytes))
unfolding lines_from
each_line [] [] none = tt
each_line [] (b ∷ line) none = (is_record b line none, tt)
each_line (b ∷ bytes) line none = elim (cases_Bool (is_line_end b)) [
  | inl e ↦ rw e (each_if_any line (lines_from [] bytes) none (each_line bytes [] refl))
  | inr e ↦ rw e (each_line bytes (line ++ b ∷ []) (no_end_more line b none e))
]

pub records_of_lines : LawOf (λ (l : LineLaws). l.lines_give_records)
records_of_lines bytes = each_line (strip_bom bytes) [] refl

unmarked : (b : ℕ) (bytes : List ℕ) → (b == 0xEF) ≡ false → strip_bom (b ∷ bytes) ≡ b ∷ bytes
unfolding strip_bom
unmarked b [] h = refl
unmarked b (c ∷ []) h = refl
unmarked b (c ∷ d ∷ bytes) h = rw h refl

pub first_line : LawOf (λ (l : LineLaws). l.first_line)
first_line b bytes h = ap (λ (x : List ℕ). map line_record (lines_of x)) (unmarked b bytes h)

-- ---- inputs of which no line is rejected

between_after : (e : ℕ) → IsEnd e → BetweenRecords (after e)
between_after e h = grind arith

abbrev Are : State → List ℕ → List (List Field) → Type 0
Are s xs rs = AreRecords default_config s xs rs

same_records : (s t : State) (xs ys : List ℕ) (rs : List (List Field)) →
    next_record default_config s [] [] xs ≡ next_record default_config t [] [] ys → Are t ys rs → Are s xs rs
unfolding Reached
same_records s t xs ys [] e h =
    (s, xs, (refl, refl), e ∙ (λ i. next_record default_config (h.2.0 i) [] [] (h.2.1 i)) ∙ h.3)
same_records s t xs ys (r ∷ rs) e h = (h.0, h.1, (h.2.0, e ∙ h.2.1, h.2.2, h.2.3), h.3)

no_records : (s : State) → BetweenRecords s → Are s [] []
unfolding next_record
no_records s (inl e) = are_none s [] (rw e refl)
no_records s (inr e) = are_none s [] (rw e refl)

not_quoted : (line : List ℕ) → is_rejected line ≡ false → is_quoted (state_after st.StartRecord line) ≡ false
not_quoted line h = grind arith

-- the line before an end, from either state between records
line_ended : (b : ℕ) (bytes line : List ℕ) (s : State) → BetweenRecords s → is_line_end b ≡ true → HasNoEnd line →
    list_any is_rejected (lines_from line (b ∷ bytes)) ≡ false
    → ((t : State) → BetweenRecords t → list_any is_rejected (lines_of bytes) ≡ false → Are t bytes (map line_record (lines_of bytes)))
    → Are s (line ++ b ∷ bytes) (map line_record (lines_from line (b ∷ bytes)))
unfolding lines_from
line_ended b bytes [] s at e none whole rest =
    let w : list_any is_rejected (lines_of bytes) ≡ false = rw e at whole in
    rw e (same_records s st.StartRecord (b ∷ bytes) bytes (map line_record (lines_of bytes)) (skips s b bytes at (end_of b e))
    (rest st.StartRecord (inl refl) w))
line_ended b bytes (c ∷ line) s at e none whole rest =
    let one = gives_one c line none in
    let all : list_any is_rejected ((c ∷ line) ∷ lines_of bytes) ≡ false = rw e at whole in
    let here : is_rejected (c ∷ line) ≡ false = grind arith in
    let others : list_any is_rejected (lines_of bytes) ≡ false = grind arith in
    let same = record_is (c ∷ line) one.fields st.StartRecord [] here (one.alone st.StartRecord (inl refl)) in
    rw e (subst (λ (f : List Field). Are s ((c ∷ line) ++ b ∷ bytes) (f ∷ map line_record (lines_of bytes))) (sym same)
    (are_more s (after b) ((c ∷ line) ++ b ∷ bytes) bytes one.fields (map line_record (lines_of bytes))
    (one.ended (not_quoted (c ∷ line) here) s at b bytes (end_of b e))
    (rest (after b) (between_after b (end_of b e)) others)))

plain_from : (bytes line : List ℕ) (s : State) → BetweenRecords s → HasNoEnd line →
    list_any is_rejected (lines_from line bytes) ≡ false → Are s (line ++ bytes) (map line_record (lines_from line bytes))
unfolding lines_from
plain_from [] [] s at none whole = no_records s at
plain_from [] (c ∷ line) s at none whole =
    let one = gives_one c line none in
    let here : is_rejected (c ∷ line) ≡ false = grind arith in
    let same = record_is (c ∷ line) one.fields st.StartRecord [] here (one.alone st.StartRecord (inl refl)) in
    subst (λ (x : List ℕ). Are s x (line_record (c ∷ line) ∷ [])) (sym (append-nil (c ∷ line)))
    (subst (λ (f : List Field). Are s (c ∷ line) (f ∷ [])) (sym same)
    (are_more s st.StartRecord (c ∷ line) [] one.fields [] (one.alone s at) (no_records st.StartRecord (inl refl))))
plain_from (b ∷ bytes) line s at none whole = elim (cases_Bool (is_line_end b)) [
  | inl e ↦ line_ended b bytes line s at e none whole (λ t between w. plain_from bytes [] t between refl w)
  | inr e ↦
      let w : list_any is_rejected (lines_from (line ++ b ∷ []) bytes) ≡ false = rw e at whole in
      rw e (subst (λ (x : List ℕ). Are s x (map line_record (lines_from (line ++ b ∷ []) bytes)))
      (append_assoc line (b ∷ []) bytes) (plain_from bytes (line ++ b ∷ []) s at (no_end_more line b none e) w))
]

pub single_stay : LawOf (λ (l : LineLaws). l.single_stay)
single_stay bytes whole =
    sym (only_records bytes (line_records bytes) (plain_from (strip_bom bytes) [] st.StartRecord (inl refl) refl whole))

-- ---- records that no command has

pub formless_rejected : LawOf (λ (l : LineLaws). l.formless_rejected)
formless_rejected fields bad s t o (inl h) =
    let now : CommandOutcome s (Err Bad_form) o t = rw bad at h in (ap outcome_text now.0, now.1)
formless_rejected fields bad s t o (inr h) = absurd (let never : IsOkAnd (Err Bad_form) HoldsList = rw bad at h.0 in never)
