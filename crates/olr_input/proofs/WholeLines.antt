-- Lines that are whole records.
use Rattle.olr_input.proofs.Common.{◌≡◌, ◌∙◌, ◌+◌, ◌-◌, ◌<◌, ◌≤◌, not, [], ◌∷◌, zero, suc, inl, inr, refl, ap, step}
use Rattle.olr_input.proofs.Common.{ℕ, cases_Bool, drop-drop, NoneBefore, is_byte2, line_feed, HasNoEnd, is_quoted, state_after}
use Rattle.olr_input.proofs.Common.{◌==◌, true, List, ◌++◌, length, take, drop, subst, arith, Passes, Nowhere, State, is_byte3}
use Rattle.olr_input.proofs.Common.{false, append_assoc, slice_index, next_record, carriage_return, default_config, is_line_end}
use Rattle.olr_input.specs.Lines.{HasLinesUpTo, IsWhole, has_line}
use Rattle.memchr.specs.Find.{IsFirstByte, IsLastByte, NoneAfter, is_byte}
use Rattle.olr_input.proofs.Common.{Bool, None, Option, Some, length-take, list_any, unwrap_or}
use Rattle.olr_input.proofs.LineRecords.{none_pass}
use Rattle.csv.specs.declared.parser.State.TheVariants as st
use Rattle.olr_input.proofs.LineRecords.{plain_not_quoted, no_end_more, step_plain, gives_one, end_of, IsEnd, after, plain, skips}
use Rattle.olr_input.proofs.Writing.{rest_is}

-- a line without quotes, its end, and what follows
record Parts (bytes : List ℕ) : Type 0 where
  line : List ℕ
  end : ℕ
  rest : List ℕ
  splits : bytes ≡ line ++ end ∷ rest
  clean : HasNoEnd line
  ends : IsEnd end
  unquoted : (s : State) → plain s ≡ true → plain (state_after s line) ≡ true

line_parts : (bytes : List ℕ) → has_line true bytes ≡ true → Parts bytes
line_parts [] h = absurd (grind arith)
line_parts (b ∷ bytes) h = elim (cases_Bool (b == default_config.quote)) [
  | inl q ↦ absurd (let no = rw q at h in cc)
  | inr q ↦ elim (cases_Bool (is_line_end b)) [
    | inl e ↦ record { line = []; end = b; rest = bytes; splits = refl; clean = refl; ends = end_of b e; unquoted = λ s p. p }
    | inr e ↦
        let p = line_parts bytes (rw (q, e) at h) in
        record {
          line = b ∷ p.line;
          end = p.end;
          rest = p.rest;
          splits = ap (λ (x : List ℕ). b ∷ x) p.splits;
          clean = no_end_more b p.line e p.clean;
          ends = p.ends;
          unquoted = λ s h. p.unquoted (step default_config s b).0 (step_plain s b h q);
        }
  ]
]

pub whole_line : (bytes : List ℕ) → has_line false bytes ≡ true → IsWhole bytes
whole_line [] h s at = absurd (grind arith)
whole_line (b ∷ bytes) h s at = elim (cases_Bool (b == default_config.quote)) [
  | inl q ↦ absurd (let no = rw q at h in cc)
  | inr q ↦ elim (cases_Bool (is_line_end b)) [
    | inl e ↦
        let w = whole_line bytes (rw (q, e) at h) st.StartRecord (inl refl) in
        (w.0, w.1, w.2, λ more. skips s b (bytes ++ more) at (end_of b e) ∙ w.3 more)
    | inr e ↦
        let p = line_parts bytes (rw (q, e) at h) in
        let one = gives_one b p.line (no_end_more b p.line e p.clean) in
        let closed : is_quoted (state_after st.StartRecord (b ∷ p.line)) ≡ false =
        plain_not_quoted (state_after st.StartRecord (b ∷ p.line))
        (p.unquoted (step default_config st.StartRecord b).0 (step_plain st.StartRecord b refl q)) in (
          one.fields,
          after p.end,
          p.rest,
          λ more. ap (λ (x : List ℕ). next_record default_config s [] [] (b ∷ (x ++ more))) p.splits
              ∙ ap (λ (x : List ℕ). next_record default_config s [] [] (b ∷ x)) (append_assoc p.line (p.end ∷ p.rest) more)
              ∙ one.ended closed s at p.end (p.rest ++ more) p.ends,
        )
  ]
]

-- ---- the first byte that ends a line or is a quote

abbrev Stops : List ℕ → ℕ → Type 0
Stops xs k = Passes (is_byte3 line_feed carriage_return default_config.quote) xs k

plain_first : (x : ℕ) (xs : List ℕ) → ¬ (is_byte3 line_feed carriage_return default_config.quote x ≡ true) →
    has_line true (x ∷ xs) ≡ has_line true xs
plain_first x xs plain = grind arith

pub line_found : (xs : List ℕ) (k : ℕ) → NoneBefore (Stops xs) 0 (length xs) k × Stops xs k →
    has_line true xs ≡ not (slice_index xs k == default_config.quote)
line_found [] k h = absurd (omega (arith, h.0.high))
line_found (x ∷ xs) zero h = grind arith
line_found (x ∷ xs) (suc k) h =
    let plain = h.0.before 0 (omega arith) (omega arith) in
    let rest = line_found xs k (
      record {
        low = omega arith;
        high = omega (arith, h.0.high);
        before = λ j low high. h.0.before (suc j) (omega arith) (omega arith);
      },
      h.1,
    ) in
    plain_first x xs (λ e. plain e) ∙ rest

pub no_line : (xs : List ℕ) → Nowhere (Stops xs) 0 (length xs) → has_line true xs ≡ false
no_line [] h = refl
no_line (x ∷ xs) h =
    plain_first x xs (λ e. h 0 (omega arith) (omega arith) e)
    ∙ no_line xs (λ j low high. h (suc j) (omega arith) (omega arith))

-- ---- the last end of a line before a quote

abbrev has_quote : List ℕ → Bool
has_quote bytes = list_any (is_byte default_config.quote) bytes

pub none_up_to : (xs : List ℕ) → HasLinesUpTo 0 xs
none_up_to xs = record { each = λ i low. absurd (omega arith) }

lines_from : (xs : List ℕ) (n k i : ℕ) → has_quote (take n xs) ≡ false → k < n →
    is_line_end (slice_index (take n xs) k) ≡ true → i ≤ k → has_line true (drop i xs) ≡ true
lines_from xs zero k i none low end from = absurd (omega arith)
lines_from [] (suc n) k i none low end from = absurd (grind arith)
lines_from (x ∷ xs) (suc n) zero zero none low end from = grind arith
lines_from (x ∷ xs) (suc n) zero (suc i) none low end from = absurd (omega arith)
lines_from (x ∷ xs) (suc n) (suc k) zero none low end from =
    let plain : (x == default_config.quote) ≡ false = grind arith in
    let rest = lines_from xs n k 0 (grind arith) (omega arith) end (omega arith) in
    elim (cases_Bool (is_line_end x)) [ inl e ↦ rw (plain, e) refl | inr e ↦ rw (plain, e) rest ]
lines_from (x ∷ xs) (suc n) (suc k) (suc i) none low end from =
    lines_from xs n k i (grind arith) (omega arith) end (omega arith)

up_to : (xs : List ℕ) (n k : ℕ) → has_quote (take n xs) ≡ false →
    NoneAfter (Passes (is_byte2 line_feed carriage_return) (take n xs)) 0 (length (take n xs)) k
    × Passes (is_byte2 line_feed carriage_return) (take n xs) k → HasLinesUpTo k xs
up_to xs n k none found =
    let low : k < n = omega (arith, found.0.high, length-take n xs) in
    record { each = λ i less. lines_from xs n k i none low found.1 (omega arith) }

pub last_end : (xs : List ℕ) (q e : Option ℕ) → IsFirstByte (is_byte default_config.quote) xs q →
    IsLastByte (is_byte2 line_feed carriage_return) (take (unwrap_or q (length xs)) xs) e → HasLinesUpTo (unwrap_or e 0) xs
last_end xs q None quote end = none_up_to xs
last_end xs None (Some k) quote end = up_to xs (length xs) k (none_pass _ xs (length xs) quote) end
last_end xs (Some n) (Some k) quote end = up_to xs n k (none_pass _ xs n quote.0.before) end

-- from an index on
pub begins_at : (xs : List ℕ) (start n : ℕ) →
    has_line false (take (length xs - start) (drop start xs)) ≡ has_line true (drop n (take (length xs - start) (drop start xs)))
    → has_line false (drop start xs) ≡ has_line true (drop (start + n) xs)
begins_at xs start n h =
    subst (λ (l : List ℕ). has_line false l ≡ has_line true (drop n l)) (rest_is xs start) h
    ∙ ap (has_line true) (drop-drop n start xs)
