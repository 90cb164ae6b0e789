-- The record that csv reads from a line.
use Rattle.olr_input.proofs.Common.{◌≡◌, ◌≢◌, ◌∙◌, ◌⊎◌, ℕ, Bool, true, false, zero, suc, List, [], ◌∷◌, ◌++◌, Some, None, inl}
use Rattle.olr_input.proofs.Common.{inr, refl, sym, ap, arith, length, take, cases_Bool, cond_both, eqb-true, or_cases, Passes}
use Rattle.olr_input.proofs.Common.{Nowhere, is_byte, step, in_field, is_end, fields_after, field_after, default_config, Action}
use Rattle.olr_input.proofs.Common.{State, HasNoEnd, formless, is_rejected, BetweenRecords, is_line_end, is_quoted, state_after}
use Rattle.olr_input.proofs.Common.{list_any, take-length}
use Rattle.std.specs.Prelude.{◌==◌}
use Rattle.csv.specs.Machine.{next_record}
use Rattle.olr_input.specs.LineRecords.{line_record}
use Rattle.csv.specs.declared.parser.Action.TheVariants as act
use Rattle.csv.specs.declared.parser.State.TheVariants as st
use Rattle.olr_input.proofs.CsvBytes.{of_byte}

-- ---- bytes that don't end a line

pub no_end_parts : (b : ℕ) (line : List ℕ) → HasNoEnd (b ∷ line) → (is_line_end b ≡ false) × HasNoEnd line
no_end_parts b line none = (grind arith, grind arith)

pub no_end_more : (b : ℕ) (line : List ℕ) → is_line_end b ≡ false → HasNoEnd line → HasNoEnd (b ∷ line)
no_end_more b line e none = rw e none

pub no_end_join : (line more : List ℕ) → HasNoEnd line → HasNoEnd more → HasNoEnd (line ++ more)
no_end_join [] more none h = h
no_end_join (b ∷ line) more none h =
    let parts = no_end_parts b line none in
    let rest = no_end_join line more parts.1 h in
    rw parts.0 rest

-- no byte of the first ones passes a test, or no byte at all
pub none_pass : (test : ℕ → Bool) (xs : List ℕ) (k : ℕ) → Nowhere (Passes test xs) 0 k → list_any test (take k xs) ≡ false
none_pass test xs zero h = refl
none_pass test [] (suc k) h = refl
none_pass test (x ∷ xs) (suc k) h =
    let plain = h 0 (omega arith) (omega arith) in
    let rest = none_pass test xs k (λ j low high. h (suc j) (omega arith) (omega (arith, high))) in
    grind (arith, rest, plain)

pub no_pass : (test : ℕ → Bool) (xs : List ℕ) → Nowhere (Passes test xs) 0 (length xs) → list_any test xs ≡ false
no_pass test xs h = ap (list_any test) (sym (take-length xs)) ∙ none_pass test xs (length xs) h

-- ---- without a quote

abbrev pub plain : State → Bool
plain st.InQuoted = false
plain st.InEscape = false
plain _ = true

abbrev Plain : State × Action → Type 0
Plain p = plain p.0 ≡ true

in_field_plain : (b : ℕ) → Plain (in_field default_config b)
in_field_plain b = grind (arith, cases_Bool)

pub step_plain : (s : State) (b : ℕ) → plain s ≡ true → (b == default_config.quote) ≡ false → plain (step default_config s b).0 ≡ true
step_plain st.StartRecord b p h = grind (arith, cases_Bool, in_field_plain)
step_plain st.StartField b p h = rw h (in_field_plain b)
step_plain st.InField b p h = in_field_plain b
step_plain st.InQuoted b p h = absurd (grind arith)
step_plain st.InEscape b p h = absurd (grind arith)
step_plain st.AfterQuote b p h = rw h (in_field_plain b)
step_plain st.InComment b p h = grind (arith, cases_Bool)
step_plain st.AfterCr b p h = grind (arith, cases_Bool, in_field_plain)

pub plain_not_quoted : (s : State) → plain s ≡ true → is_quoted s ≡ false
plain_not_quoted st.InQuoted p = absurd cc
plain_not_quoted s p = refl

stays_plain : (xs : List ℕ) (s : State) → plain s ≡ true → Nowhere (Passes (is_byte default_config.quote) xs) 0 (length xs) →
    is_quoted (state_after s xs) ≡ false
stays_plain [] s p none = plain_not_quoted s p
stays_plain (x ∷ xs) s p none =
    let no_quote = none 0 (omega arith) (omega arith) in
    stays_plain xs (step default_config s x).0 (step_plain s x p (grind (arith, no_quote)))
    (λ j low high. none (suc j) (omega arith) (omega (arith, high)))

pub unquoted_line : (xs : List ℕ) → Nowhere (Passes (is_byte default_config.quote) xs) 0 (length xs) →
    is_quoted (state_after st.StartRecord xs) ≡ false
unquoted_line xs none = stays_plain xs st.StartRecord refl none

-- ---- in a record

abbrev begun : State → Bool
begun st.StartField = true
begun st.InField = true
begun st.InQuoted = true
begun st.AfterQuote = true
begun _ = false

abbrev pub IsEnd : ℕ → Type 0
IsEnd e = (e ≡ 10) ⊎ (e ≡ 13)

abbrev pub after : ℕ → State
after e = (in_field default_config e).0

abbrev Stays : State × Action → Type 0
Stays r = (is_end r.1 ≡ false) × (begun r.0 ≡ true)

in_field_stays : (b : ℕ) → is_line_end b ≡ false → Stays (in_field default_config b)
in_field_stays b h = (grind (arith, cases_Bool), grind (arith, cases_Bool))

-- what holds in each state in a record
by_begun : (P : State → Type 0) → P st.StartField → P st.InField → P st.InQuoted → P st.AfterQuote → (s : State) →
    begun s ≡ true → P s
by_begun P start in_it in_quotes after_it st.StartField at = start
by_begun P start in_it in_quotes after_it st.InField at = in_it
by_begun P start in_it in_quotes after_it st.InQuoted at = in_quotes
by_begun P start in_it in_quotes after_it st.AfterQuote at = after_it
by_begun P start in_it in_quotes after_it s at = absurd cc

step_stays : (s : State) (b : ℕ) → begun s ≡ true → is_line_end b ≡ false → Stays (step default_config s b)
step_stays s b at h =
    by_begun (λ (t : State). Stays (step default_config t b))
    (cond_both (b == 34) (st.InQuoted, act.Skip) (in_field default_config b) Stays (λ _. (refl, refl))
    (λ _. in_field_stays b h))
    (in_field_stays b h)
    (cond_both (b == 34) (st.AfterQuote, act.Skip) (st.InQuoted, act.Copy) Stays (λ _. (refl, refl)) (λ _. (refl, refl)))
    (cond_both (b == 34) (st.InQuoted, act.Copy) (in_field default_config b) Stays (λ _. (refl, refl))
    (λ _. in_field_stays b h))
    s at

-- ---- the record of a line

-- the rest of a line alone, and what csv reads from it behind a line's end if no quote is open
record Reads (s : State) (f : List (List ℕ)) (x line : List ℕ) : Type 0 where
  fields : List (List ℕ)
  alone : next_record default_config s f x line ≡ Some (fields, st.StartRecord, [])
  ended : is_quoted (state_after s line) ≡ false → (e : ℕ) (rest : List ℕ) → IsEnd e →
      next_record default_config s f x (line ++ e ∷ rest) ≡ Some (fields, after e, rest)

abbrev EndsPlain : List (List ℕ) → List ℕ → ℕ → List ℕ → State → Type 0
EndsPlain f x e rest s =
    is_quoted s ≡ false → next_record default_config s f x (e ∷ rest) ≡ Some (f ++ x ∷ [], after e, rest)

plain_end : (s : State) (f : List (List ℕ)) (x : List ℕ) (e : ℕ) (rest : List ℕ) → begun s ≡ true → IsEnd e →
    EndsPlain f x e rest s
unfolding next_record
plain_end s f x e rest at (inl h) =
    by_begun (EndsPlain f x e rest) (λ _. rw h refl) (λ _. rw h refl) (λ no. absurd (cc no)) (λ _. rw h refl) s at
plain_end s f x e rest at (inr h) =
    by_begun (EndsPlain f x e rest) (λ _. rw h refl) (λ _. rw h refl) (λ no. absurd (cc no)) (λ _. rw h refl) s at

plain_last : (s : State) (f : List (List ℕ)) (x : List ℕ) → begun s ≡ true →
    next_record default_config s f x [] ≡ Some (f ++ x ∷ [], st.StartRecord, [])
unfolding next_record
plain_last s f x at =
    by_begun (λ (t : State). next_record default_config t f x [] ≡ Some (f ++ x ∷ [], st.StartRecord, [])) refl refl refl refl s at

line_reads : (line : List ℕ) (s : State) (f : List (List ℕ)) (x : List ℕ) → begun s ≡ true → HasNoEnd line → Reads s f x line
line_reads [] s f x at none =
    record { fields = f ++ x ∷ []; alone = plain_last s f x at; ended = λ q e rest end. plain_end s f x e rest at end q }
line_reads (b ∷ line) s f x at none =
    let parts = no_end_parts b line none in
    let r = step default_config s b in
    let stays = step_stays s b at parts.0 in
    after_byte s f x b line r refl stays.0
    (line_reads line r.0 (fields_after r.1 f x) (field_after r.1 b x) stays.1 parts.1)
  where
    after_byte : (s : State) (f : List (List ℕ)) (x : List ℕ) (b : ℕ) (line : List ℕ) (r : State × Action) →
        step default_config s b ≡ r → is_end r.1 ≡ false →
        Reads r.0 (fields_after r.1 f x) (field_after r.1 b x) line → Reads s f x (b ∷ line)
    after_byte s f x b line r is goes h =
        record {
          fields = h.fields;
          alone = of_byte s r.0 r.1 f x line b is ∙ (rw goes h.alone);
          ended = λ q e rest end. of_byte s r.0 r.1 f x (line ++ e ∷ rest) b is
              ∙ (rw goes (h.ended (ap (λ (p : State × Action). is_quoted (state_after p.0 line)) (sym is) ∙ q) e rest end));
        }

begins_field : (s : State) (b : ℕ) → BetweenRecords s → is_line_end b ≡ false →
    step default_config s b ≡ step default_config st.StartField b
begins_field s b (inl e) no_end = rw e (grind arith)
begins_field s b (inr e) no_end = rw e (grind arith)

-- csv reads one record from a line that isn't empty
pub record GivesOne (line : List ℕ) : Type 0 where
  pub fields : List (List ℕ)
  pub alone : (s : State) → BetweenRecords s → next_record default_config s [] [] line ≡ Some (fields, st.StartRecord, [])
  pub ended : is_quoted (state_after st.StartRecord line) ≡ false → (s : State) → BetweenRecords s → (e : ℕ)
      (rest : List ℕ) → IsEnd e → next_record default_config s [] [] (line ++ e ∷ rest) ≡ Some (fields, after e, rest)

pub gives_one : (b : ℕ) (line : List ℕ) → HasNoEnd (b ∷ line) → GivesOne (b ∷ line)
gives_one b line none =
    record {
      fields = rest.fields;
      alone = λ s at. of_byte s r.0 r.1 [] [] line b (begins s at) ∙ (rw stays.0 rest.alone);
      ended = λ q s at e more end. of_byte s r.0 r.1 [] [] (line ++ e ∷ more) b (begins s at)
          ∙ (rw stays.0 (rest.ended (ap (λ (p : State × Action). is_quoted (state_after p.0 line)) (sym (begins st.StartRecord (inl refl))) ∙ q) e more end));
    }
  where
    parts : (is_line_end b ≡ false) × HasNoEnd line
    parts = no_end_parts b line none

    r : State × Action
    r = step default_config st.StartField b

    begins : (s : State) → BetweenRecords s → step default_config s b ≡ r
    begins s at = begins_field s b at parts.0

    stays : Stays r
    stays = step_stays st.StartField b refl parts.0

    rest : Reads r.0 (fields_after r.1 [] []) (field_after r.1 b []) line
    rest = line_reads line r.0 (fields_after r.1 [] []) (field_after r.1 b []) stays.1 parts.1

-- ---- between records

pub end_of : (e : ℕ) → is_line_end e ≡ true → IsEnd e
end_of e h = elim (or_cases (e == 10) (e == 13) h) [ inl is ↦ inl (eqb-true e 10 is) | inr is ↦ inr (eqb-true e 13 is) ]

-- an empty line
pub skips : (s : State) (e : ℕ) (xs : List ℕ) → BetweenRecords s → IsEnd e →
    next_record default_config s [] [] (e ∷ xs) ≡ next_record default_config st.StartRecord [] [] xs
unfolding next_record
skips s e xs (inl at) (inl h) = rw (at, h) refl
skips s e xs (inl at) (inr h) = rw (at, h) refl
skips s e xs (inr at) (inl h) = rw (at, h) refl
skips s e xs (inr at) (inr h) = rw (at, h) refl

-- ---- its definition

pub rejected_record : (line : List ℕ) → is_rejected line ≡ true → line_record line ≡ formless
unfolding line_record
rejected_record line h = rw h refl

pub record_is : (line : List ℕ) (fields : List (List ℕ)) (s : State) (rest : List ℕ) → is_rejected line ≡ false →
    next_record default_config st.StartRecord [] [] line ≡ Some (fields, s, rest) → line_record line ≡ fields
unfolding line_record
record_is line fields s rest h e = rw (h, e) refl

pub reads_some : (line : List ℕ) → line ≢ [] → HasNoEnd line → next_record default_config st.StartRecord [] [] line ≢ None
reads_some [] some none e = some refl
reads_some (b ∷ line) some none e =
    let one = gives_one b line none in
    absurd (let never : None ≡ Some (one.fields, st.StartRecord, []) = sym e ∙ one.alone st.StartRecord (inl refl) in cc)
