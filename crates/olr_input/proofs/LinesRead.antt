-- The records of the lines of an input, as they are read.
use Rattle.olr_input.proofs.Common.{◌⊎◌, ◌≡◌, ◌≢◌, ◌∙◌, ◌+◌, ◌<◌, ◌≤◌, ℕ, Bool, true, false, List, [], ◌∷◌, ◌++◌, length, take, drop}
use Rattle.olr_input.proofs.Common.{map, Some, None, inl, inr, refl, sym, ap, subst, arith, length-append, get_or, cases_Bool}
use Rattle.olr_input.proofs.Common.{cond_both, append-nil, append_assoc, take-append-drop, map-append, if◌then◌else◌, is_bom}
use Rattle.olr_input.proofs.Common.{HasNoEnd, if_any, is_rejected, formless, unmarked, is_line_end, block_of}
use Rattle.olr_input.proofs.Common.{input_left, Known, IsAtEnd, prepend_known}
use Rattle.olr_input.specs.LineRecords.{lines_of, most_in_line, line_record, left_after, Steps, lines_from}
use Rattle.olr_input.specs.declared.blocks.Blocks.{Blocks}
use Rattle.olr_input.specs.declared.line_records.LineRecords.{LineRecords}
use Rattle.csv.specs.Reading.{strip_bom}
use Rattle.csv.specs.declared.parser.State.TheVariants as st
use Rattle.olr_input.proofs.Common.{Option, csv_state, is_quoted, state_after}
use Rattle.olr_input.proofs.LineRecords.{reads_some, record_is}
use Rattle.olr_input.specs.Machine.{IsFirst}
use Rattle.olr_input.specs.declared.machine.State.{State as Here}
use Rattle.olr_input.specs.declared.machine.State.TheVariants as here
use Rattle.olr_input.proofs.CsvBytes.{at, no_mark}
use Rattle.olr_input.proofs.LineRecords.{IsEnd, end_of, no_end_parts, no_end_join, rejected_record}

abbrev Records : List (List ℕ) → List (List (List ℕ))
Records lines = map line_record lines

-- what is kept of a line that goes on with more bytes: all of it, or no more of one that is too long, even after a mark
abbrev pub Kept : (line more kept : List ℕ) → Type 0
Kept line more kept = (kept ≡ line ++ more) ⊎ ((kept ≡ line) × (most_in_line + 3 < length line))

-- what a record that was found, or none, says of the records of a line
abbrev pub Finds : List (List ℕ) → Bool → List (List ℕ) → Type 0
Finds lines found fields = Records lines ≡ (if found then fields ∷ [] else [])

-- ---- lines

pub line_goes_on : (part line rest : List ℕ) → HasNoEnd part → lines_from line (part ++ rest) ≡ lines_from (line ++ part) rest
unfolding lines_from
line_goes_on [] line rest none = ap (λ (l : List ℕ). lines_from l rest) (sym (append-nil line))
line_goes_on (b ∷ part) line rest none =
    let parts = no_end_parts b part none in
    rw parts.0 (line_goes_on part (line ++ b ∷ []) rest parts.1
    ∙ ap (λ (l : List ℕ). lines_from l rest) (append_assoc line (b ∷ []) part))

pub line_ends : (line : List ℕ) (e : ℕ) (rest : List ℕ) → is_line_end e ≡ true →
    lines_from line (e ∷ rest) ≡ if_any line ++ lines_of rest
unfolding lines_from
line_ends line e rest end = rw end refl

-- of a line that ends
pub lines_ended : (line : List ℕ) (e : ℕ) (rest : List ℕ) → HasNoEnd line → is_line_end e ≡ true →
    lines_of (line ++ e ∷ rest) ≡ if_any line ++ lines_of rest
lines_ended line e rest none end = line_goes_on line [] (e ∷ rest) none ∙ line_ends line e rest end

-- of the last one
lines_last : (line : List ℕ) → HasNoEnd line → lines_of line ≡ if_any line
unfolding lines_from
lines_last line none = ap lines_of (sym (append-nil line)) ∙ line_goes_on line [] [] none

-- ---- a byte order mark

-- of bytes that are more than a mark
pub record Stripped (line : List ℕ) : Type 0 where
  pub more : (rest : List ℕ) → strip_bom (line ++ rest) ≡ strip_bom line ++ rest
  pub size : length line ≤ length (strip_bom line) + 3

stripped : (line : List ℕ) → 3 ≤ length line → Stripped line
unfolding strip_bom
stripped [] some = absurd (omega arith)
stripped (a ∷ []) some = absurd (omega arith)
stripped (a ∷ b ∷ []) some = absurd (omega arith)
stripped (a ∷ b ∷ c ∷ line) some = record {
  more = λ rest. elim (cases_Bool (is_bom a b c)) [ inl m ↦ rw m refl | inr m ↦ rw m refl ];
  size = elim (cases_Bool (is_bom a b c)) [ inl m ↦ rw m (omega arith) | inr m ↦ rw m (omega arith) ];
}

no_mark_with : (a b e : ℕ) → IsEnd e → (is_bom e a b ≡ false) × (is_bom a e b ≡ false) × (is_bom a b e ≡ false)
no_mark_with a b e (inl is) = rw is (refl, grind arith, grind arith)
no_mark_with a b e (inr is) = rw is (refl, grind arith, grind arith)

strip_ended : (line : List ℕ) (e : ℕ) (rest : List ℕ) → is_line_end e ≡ true →
    strip_bom (line ++ e ∷ rest) ≡ strip_bom line ++ e ∷ rest
unfolding strip_bom
strip_ended [] e rest end = sym (no_mark (e ∷ rest) (no_mark_with (get_or rest 0 0) (get_or rest 1 0) e (end_of e end)).0)
strip_ended (a ∷ []) e rest end = sym (no_mark (a ∷ e ∷ rest) (no_mark_with a (get_or rest 0 0) e (end_of e end)).1)
strip_ended (a ∷ b ∷ []) e rest end = sym (no_mark (a ∷ b ∷ e ∷ rest) (no_mark_with a b e (end_of e end)).2)
strip_ended (a ∷ b ∷ c ∷ line) e rest end = (stripped (a ∷ b ∷ c ∷ line) (omega arith)).more (e ∷ rest)

no_end_stripped : (line : List ℕ) → HasNoEnd line → HasNoEnd (strip_bom line)
unfolding strip_bom
no_end_stripped [] none = none
no_end_stripped (a ∷ []) none = none
no_end_stripped (a ∷ b ∷ []) none = none
no_end_stripped (a ∷ b ∷ c ∷ line) none =
    cond_both (is_bom a b c) line (a ∷ b ∷ c ∷ line) HasNoEnd
    (λ _. (no_end_parts c line (no_end_parts b (c ∷ line) (no_end_parts a (b ∷ c ∷ line) none).1).1).1) (λ _. none)

-- ---- the first line, and others

pub no_end_unmarked : (first : Bool) (line : List ℕ) → HasNoEnd line → HasNoEnd (unmarked first line)
no_end_unmarked true line none = no_end_stripped line none
no_end_unmarked false line none = none

unmarked_ended : (first : Bool) (line : List ℕ) (e : ℕ) (rest : List ℕ) → HasNoEnd line → is_line_end e ≡ true →
    lines_of (unmarked first (line ++ e ∷ rest)) ≡ if_any (unmarked first line) ++ lines_of rest
unmarked_ended true line e rest none end =
    ap lines_of (strip_ended line e rest end) ∙ lines_ended (strip_bom line) e rest (no_end_stripped line none) end
unmarked_ended false line e rest none end = lines_ended line e rest none end

unmarked_last : (first : Bool) (line : List ℕ) → HasNoEnd line →
    lines_of (unmarked first line) ≡ if_any (unmarked first line)
unmarked_last first line none = lines_last (unmarked first line) (no_end_unmarked first line none)

-- ---- lines that are too long

long_record : (line : List ℕ) → most_in_line < length line → Records (if_any line) ≡ formless ∷ []
long_record [] long = absurd (omega arith)
long_record (b ∷ line) long =
    let rejected : is_rejected (b ∷ line) ≡ true = grind arith in
    ap (λ (r : List (List ℕ)). r ∷ []) (rejected_record (b ∷ line) rejected)

long_lines : (rest k l : List ℕ) → most_in_line < length k → most_in_line < length l →
    Records (lines_from k rest) ≡ Records (lines_from l rest)
unfolding lines_from
long_lines [] k l a b = long_record k a ∙ sym (long_record l b)
long_lines (e ∷ rest) k l a b =
    let ka = length-append k (e ∷ []) in
    let lb = length-append l (e ∷ []) in
    elim (cases_Bool (is_line_end e)) [
      | inl end ↦
          ap Records (line_ends k e rest end) ∙ map-append line_record (if_any k) (lines_of rest)
          ∙ ap (λ (rs : List (List (List ℕ))). rs ++ Records (lines_of rest)) (long_record k a ∙ sym (long_record l b))
          ∙ sym (map-append line_record (if_any l) (lines_of rest)) ∙ sym (ap Records (line_ends l e rest end))
      | inr end ↦ rw end (long_lines rest (k ++ e ∷ []) (l ++ e ∷ []) (omega arith) (omega arith))
    ]

-- too long, even after a mark
abbrev TooLong : List ℕ → Type 0
TooLong line = most_in_line + 3 < length line

unmarked_long : (first : Bool) (line : List ℕ) → TooLong line → most_in_line < length (unmarked first line)
unmarked_long true line long = let s = (stripped line (omega arith)).size in omega arith
unmarked_long false line long = omega arith

unmarked_more : (first : Bool) (line : List ℕ) → TooLong line → (rest : List ℕ) →
    unmarked first (line ++ rest) ≡ unmarked first line ++ rest
unmarked_more true line long rest = (stripped line (omega arith)).more rest
unmarked_more false line long rest = refl

-- what is left out of a line changes nothing
pub kept_lines : (first : Bool) (line more kept rest : List ℕ) → HasNoEnd line → HasNoEnd more → Kept line more kept →
    Records (lines_of (unmarked first (line ++ (more ++ rest)))) ≡ Records (lines_of (unmarked first (kept ++ rest)))
kept_lines first line more kept rest none end (inl is) =
    ap (λ (l : List ℕ). Records (lines_of (unmarked first l)))
    (sym (append_assoc line more rest) ∙ ap (λ (l : List ℕ). l ++ rest) (sym is))
kept_lines first line more kept rest none end (inr is) =
    let u = unmarked first line in
    let clean = no_end_unmarked first line none in
    let long = unmarked_long first line is.1 in
    ap (λ (l : List ℕ). Records (lines_of l)) (unmarked_more first line is.1 (more ++ rest))
    ∙ ap Records (line_goes_on u [] (more ++ rest) clean ∙ line_goes_on more u rest end)
    ∙ long_lines rest (u ++ more) u (let s = length-append u more in omega arith) long
    ∙ ap Records (sym (line_goes_on u [] rest clean))
    ∙ ap (λ (l : List ℕ). Records (lines_of l)) (sym (unmarked_more first line is.1 rest))
    ∙ ap (λ (l : List ℕ). Records (lines_of (unmarked first (l ++ rest)))) (sym is.0)

pub kept_line : (first : Bool) (line more kept : List ℕ) → HasNoEnd line → HasNoEnd more → Kept line more kept →
    Records (if_any (unmarked first (line ++ more))) ≡ Records (if_any (unmarked first kept))
kept_line first line more kept none end (inl is) = ap (λ (l : List ℕ). Records (if_any (unmarked first l))) (sym is)
kept_line first line more kept none end (inr is) =
    let size = length-append line more in
    let long : TooLong (line ++ more) = omega arith in
    long_record (unmarked first (line ++ more)) (unmarked_long first (line ++ more) long)
    ∙ sym (long_record (unmarked first line) (unmarked_long first line is.1))
    ∙ ap (λ (l : List ℕ). Records (if_any (unmarked first l))) (sym is.0)

pub kept_clean : (line more kept : List ℕ) → HasNoEnd line → HasNoEnd more → Kept line more kept → HasNoEnd kept
kept_clean line more kept none end (inl is) = subst HasNoEnd (sym is) (no_end_join line more none end)
kept_clean line more kept none end (inr is) = subst HasNoEnd (sym is.0) none

-- ---- steps of a source

-- the bytes of a block up to the byte at an index, and those after it
split_at : (block : List ℕ) (i : ℕ) → i < length block →
    block ≡ take i block ++ get_or block i 0 ∷ drop (i + 1) block
split_at block i low = sym (take-append-drop i block) ∙ ap (λ (r : List ℕ). take i block ++ r) (at block i low)

-- the records after a line that ends
ended_records : (first : Bool) (line block kept xs : List ℕ) (i : ℕ) → HasNoEnd line → i < length block →
    HasNoEnd (take i block) → is_line_end (get_or block i 0) ≡ true → Kept line (take i block) kept →
    Records (lines_of (unmarked first (line ++ (block ++ xs))))
    ≡ Records (if_any (unmarked first kept)) ++ Records (lines_of (drop (i + 1) block ++ xs))
ended_records first line block kept xs i none low part end keeps =
    let e = get_or block i 0 in
    let rest = drop (i + 1) block ++ xs in
    let all : line ++ (block ++ xs) ≡ (line ++ take i block) ++ e ∷ rest =
    ap (λ (b : List ℕ). line ++ (b ++ xs)) (split_at block i low)
    ∙ ap (λ (b : List ℕ). line ++ b) (append_assoc (take i block) (e ∷ drop (i + 1) block) xs)
    ∙ sym (append_assoc line (take i block) (e ∷ rest)) in
    ap (λ (b : List ℕ). Records (lines_of (unmarked first b))) all
    ∙ ap Records (unmarked_ended first (line ++ take i block) e rest (no_end_join line (take i block) none part) end)
    ∙ map-append line_record (if_any (unmarked first (line ++ take i block))) (lines_of rest)
    ∙ ap (λ (rs : List (List (List ℕ))). rs ++ Records (lines_of rest))
    (kept_line first line (take i block) kept none part keeps)

nothing : Records (lines_of []) ≡ []
unfolding lines_from
nothing = refl

module _ {R : Type 0} (remaining : R → Known) (old new : LineRecords R) where
  abbrev block : List ℕ
  block = block_of old.source

  -- these are left after the byte at an index of the block
  abbrev After : ℕ → List (List (List ℕ)) → Type 0
  After i rs = left_after false [] (prepend_known (drop (i + 1) block) (remaining old.source.input)) rs

  -- a line ended in the block
  pub line_steps : (found : Bool) (fields : List (List ℕ)) (kept : List ℕ) (i : ℕ) → HasNoEnd old.line.items →
      i < length (block_of old.source) → HasNoEnd (take i (block_of old.source)) →
      is_line_end (get_or (block_of old.source) i 0) ≡ true → Kept old.line.items (take i (block_of old.source)) kept →
      Finds (if_any (unmarked old.is_first kept)) found fields → new.is_first ≡ false → new.line.items ≡ [] →
      block_of new.source ≡ drop (i + 1) (block_of old.source) → remaining new.source.input ≡ remaining old.source.input →
      Steps remaining old new (if found then Some true else None) fields
  line_steps found fields kept i none low part end keeps finds later empty drops same =
      by_found found finds
    where
      here : (rs : List (List (List ℕ))) → After i rs → left_after new.is_first [] (input_left remaining new.source) rs
      here rs h =
          subst (λ (x : Bool × List ℕ × Known). left_after x.0 [] (prepend_known x.1 x.2) rs)
          (λ n. (sym later n, sym drops n, sym same n)) h

      goes : (k : Known) (rs : List (List (List ℕ))) → left_after old.is_first old.line.items (prepend_known block k) rs →
          (rest : List (List (List ℕ))) × (rs ≡ Records (if_any (unmarked old.is_first kept)) ++ rest)
          × left_after false [] (prepend_known (drop (i + 1) block) k) rest
      goes None rs h = absurd h
      goes (Some xs) rs h = (
        Records (lines_of (drop (i + 1) block ++ xs)),
        h ∙ ended_records old.is_first old.line.items block kept xs i none low part end keeps,
        refl,
      )

      by_found : (found : Bool) → Finds (if_any (unmarked old.is_first kept)) found fields →
          Steps remaining old new (if found then Some true else None) fields
      by_found true is = λ rs h.
          let g = goes (remaining old.source.input) rs h in
          (g.0, g.1 ∙ ap (λ (l : List (List (List ℕ))). l ++ g.0) is, here g.0 g.2)
      by_found false is = (
        subst HasNoEnd (sym empty) refl,
        λ rs h.
            let g = goes (remaining old.source.input) rs h in
            let all : rs ≡ g.0 = g.1 ∙ ap (λ (l : List (List (List ℕ))). l ++ g.0) is in
            subst (λ (l : List ℕ). left_after new.is_first l (input_left remaining new.source) rs) (sym empty)
            (here rs (subst (After i) (sym all) g.2)),
      )

  -- the input ended
  pub last_steps : (found : Bool) (fields : List (List ℕ)) → HasNoEnd old.line.items →
      IsAtEnd (input_left remaining old.source) → Finds (if_any (unmarked old.is_first old.line.items)) found fields →
      new.is_first ≡ false → new.source ≡ old.source → Steps remaining old new (Some found) fields
  last_steps found fields none end finds later same = by_found found finds
    where
      all : (k : Known) (rs : List (List (List ℕ))) → IsAtEnd k → left_after old.is_first old.line.items k rs →
          (rs ≡ Records (if_any (unmarked old.is_first old.line.items))) × left_after false [] k []
      all None rs e h = absurd h
      all (Some xs) rs e h = (
        h ∙ ap (λ (l : List ℕ). Records (lines_of (unmarked old.is_first l)))
            (ap (λ (x : List ℕ). old.line.items ++ x) e ∙ append-nil old.line.items)
            ∙ ap Records (unmarked_last old.is_first old.line.items none),
        sym (ap (λ (x : List ℕ). Records (lines_of x)) e ∙ nothing),
      )

      by_found : (found : Bool) → Finds (if_any (unmarked old.is_first old.line.items)) found fields →
          Steps remaining old new (Some found) fields
      by_found true is = λ rs h.
          let a = all (input_left remaining old.source) rs end h in (
            [],
            a.0 ∙ is,
            subst (λ (x : Bool × Blocks R). left_after x.0 [] (input_left remaining x.1) []) (λ n. (sym later n, sym same n)) a.1,
          )
      by_found false is = λ rs h. (all (input_left remaining old.source) rs end h).0 ∙ is

  -- a block in which no line ends
  pub block_steps : (fields : List (List ℕ)) → HasNoEnd old.line.items → HasNoEnd (block_of old.source) →
      Kept old.line.items (block_of old.source) new.line.items → new.is_first ≡ old.is_first →
      block_of new.source ≡ [] → remaining new.source.input ≡ remaining old.source.input →
      Steps remaining old new None fields
  block_steps fields none clean keeps first empty same = (
    kept_clean old.line.items (block_of old.source) new.line.items none clean keeps,
    λ rs h.
        subst (λ (x : Bool × List ℕ × Known). left_after x.0 new.line.items (prepend_known x.1 x.2) rs)
        (λ n. (sym first n, sym empty n, sym same n)) (goes (remaining old.source.input) rs h),
  )
    where
      goes : (k : Known) (rs : List (List (List ℕ))) →
          left_after old.is_first old.line.items (prepend_known (block_of old.source) k) rs
          → left_after old.is_first new.line.items (prepend_known [] k) rs
      goes None rs h = absurd h
      goes (Some xs) rs h =
          h ∙ kept_lines old.is_first old.line.items (block_of old.source) new.line.items xs none clean keeps

pub finds_one : (line : List ℕ) (fields : List (List ℕ)) → line ≢ [] → fields ≡ line_record line →
    Finds (if_any line) true fields
finds_one [] fields some is = absurd (some refl)
finds_one (b ∷ line) fields some is = ap (λ (r : List (List ℕ)). r ∷ []) (sym is)

-- the record of a line that isn't rejected
pub read_one : (line : List ℕ) (fields : List (List ℕ)) (end : Option (ℕ × Here)) → IsFirst line here.StartRecord fields end →
    line ≢ [] → HasNoEnd line → length line ≤ most_in_line → is_quoted (state_after st.StartRecord line) ≡ false →
    Finds (if_any line) true fields
read_one line fields None first some clean short closed = absurd (reads_some line some clean first)
read_one line fields (Some e) first some clean short closed =
    let kept : is_rejected line ≡ false = grind arith in
    finds_one line fields some (sym (record_is line fields (csv_state e.1) (drop e.0 line) kept first.1))
