-- Which lines of records are whole.
use Rattle.olr_log.proofs.Common.{◌≡◌, ◌∙◌, ◌==◌, ℕ, Bool, true, false, not, List, [], ◌∷◌, ◌++◌, length, refl, sym, ◌≢◌, ap}
use Rattle.olr_log.proofs.Common.{subst, arith, ◌⊎◌, inl, inr, codes, cases_Bool, and_parts, and_right, both_ways, append-nil}
use Rattle.olr_log.proofs.Common.{append_assoc, take-take, take_at, join_with_byte, ◌<◌, ◌≤◌, ◌+◌, zero, suc, take, get_or}
use Rattle.olr_log.proofs.Common.{stays_open, is_empty, is_whole, is_whole_from, IsFront, is_clean, effect_by, word_effect}
use Rattle.olr_log.proofs.Common.{has_line, line_of, Turns, turned, IsLineFor, Effect, ◌&&◌, if◌then◌else◌, length-append}
use Rattle.olr_log.proofs.Common.{bytes_eq, not-true}
use Rattle.std.proofs.lemmas.List.Folds.{list_all-append}
use Rattle.olr_log.specs.StoredLines.{is_clean_byte}
use Rattle.olr_input.specs.RecordWords.{word_in, words}
use Rattle.olr_input.proofs.RecordWords.{by_word, same_text}
use Rattle.olr_input.specs.declared.record.Effect.TheVariants as effect

-- ---- one line

clean_parts : (b : ℕ) (bs : List ℕ) → is_clean (b ∷ bs) ≡ true →
    ((b == 10) ≡ false) × ((b == 13) ≡ false) × (is_clean bs ≡ true)
clean_parts b bs h = grind (arith, cases_Bool, and_parts)

whole_line : (o : Bool) (p l more : List ℕ) → is_clean l ≡ true →
    is_whole_from o p (l ++ 10 ∷ more) ≡ is_whole_from (stays_open o (p ++ l)) [] more
whole_line o p [] more h = ap (λ (q : List ℕ). is_whole_from (stays_open o q) [] more) (sym (append-nil p))
whole_line o p (b ∷ l) more h =
    let c = clean_parts b l h in
    let step : is_whole_from o p (b ∷ l ++ 10 ∷ more) ≡ is_whole_from o (p ++ b ∷ []) (l ++ 10 ∷ more) =
    rw (c.0, c.1) refl in
    step ∙ whole_line o (p ++ b ∷ []) l more c.2
    ∙ ap (λ (q : List ℕ). is_whole_from (stays_open o q) [] more) (append_assoc p (b ∷ []) l)

pub empty_snoc : (l : List ℕ) (b : ℕ) → is_empty (l ++ b ∷ []) ≡ false
empty_snoc [] b = refl
empty_snoc (a ∷ l) b = refl

-- no part of a line is whole
part_of_line : (o : Bool) (p l : List ℕ) (c : ℕ) (front rest : List ℕ) → is_clean l ≡ true →
    l ++ 10 ∷ [] ≡ c ∷ front ++ rest → rest ≢ [] → is_whole_from o p (c ∷ front) ≡ false
part_of_line o p [] c [] rest clean is some = absurd (some (cc is))
part_of_line o p [] c (d ∷ front) rest clean is some = absurd (cc is)
part_of_line o p (b ∷ l) c [] rest clean is some =
    let parts = clean_parts b l clean in
    let same : b ≡ c = cc in
    subst (λ (x : ℕ). is_whole_from o p (x ∷ []) ≡ false) same (rw (parts.0, parts.1) (and_right (not o) _ (empty_snoc p b)))
part_of_line o p (b ∷ l) c (d ∷ front) rest clean is some =
    let parts = clean_parts b l clean in
    let same : b ≡ c = cc in
    let more : l ++ 10 ∷ [] ≡ d ∷ front ++ rest = cc in
    subst (λ (x : ℕ). is_whole_from o p (x ∷ d ∷ front) ≡ false) same
    (rw (parts.0, parts.1) (part_of_line o (p ++ b ∷ []) l d front rest parts.2 more some))

line_firm : (o : Bool) (l front rest : List ℕ) → is_clean l ≡ true → l ++ 10 ∷ [] ≡ front ++ rest → rest ≢ [] →
    is_whole_from o [] front ≡ true → front ≡ []
line_firm o l [] rest clean is some whole = refl
line_firm o l (c ∷ front) rest clean is some whole = absurd (both_ways _ (part_of_line o [] l c front rest clean is some) whole)

line_turns : (o t : Bool) (l : List ℕ) → is_clean l ≡ true → stays_open o l ≡ t → Turns o t (l ++ 10 ∷ [])
line_turns o t l clean is =
    record {
      whole = λ more. rw (append_assoc l (10 ∷ []) more) (whole_line o [] l more clean
          ∙ ap (λ (b : Bool). is_whole_from b [] more) is);
      firm = λ front rest. line_firm o l front rest clean;
    }

-- ---- the line of a record, without its end

body_rest : List (List ℕ) → List ℕ
body_rest [] = []
body_rest (f ∷ fs) = 44 ∷ join_with_byte 44 (f ∷ fs)

body_is : (word : List ℕ) (fs : List (List ℕ)) → join_with_byte 44 (word ∷ fs) ≡ word ++ body_rest fs
unfolding body_rest
body_is word [] = sym (append-nil word)
body_is word (f ∷ fs) = refl

-- ---- words

-- no word of a change begins as those of batches do
begins_otherwise : (o : Bool) (b : ℕ) (x : List ℕ) → (b == 98) ≡ false → (b == 99) ≡ false → stays_open o (b ∷ x) ≡ o
begins_otherwise true b x nb nc = rw (nb, nc) refl
begins_otherwise false b x nb nc = rw nb refl

starts_otherwise : List ℕ → Bool
starts_otherwise [] = false
starts_otherwise (b ∷ x) = not (b == 98) && not (b == 99)

change_stays : (o : Bool) (field rest : List ℕ) → starts_otherwise field ≡ true → stays_open o (field ++ rest) ≡ o
unfolding starts_otherwise
change_stays o [] rest h = absurd cc
change_stays o (b ∷ x) rest h =
    let parts = and_parts (not (b == 98)) (not (b == 99)) h in
    begins_otherwise o b (x ++ rest) (not-true _ parts.0) (not-true _ parts.1)

-- ---- by the effect of a record

commit_closes : (o : Bool) (rest : List ℕ) → stays_open o (codes "commit" ++ 44 ∷ rest) ≡ false
commit_closes true rest = refl
commit_closes false rest = refl

-- what the effect of a record says of its first field, and whether there are others
agrees : List ℕ → Bool → Effect → Bool
agrees field alone effect.Change = starts_otherwise field
agrees field alone effect.Begin = bytes_eq field (codes "begin") && alone
agrees field alone effect.Commit = bytes_eq field (codes "commit") && not alone
agrees field alone _ = true

agrees_at : (alone : Bool) (field : List ℕ) → agrees field alone (effect_by (word_in words field) alone) ≡ true
unfolding agrees starts_otherwise
agrees_at true field = by_word (λ f k. agrees f true (effect_by k true)) (λ f. refl) words refl field
agrees_at false field = by_word (λ f k. agrees f false (effect_by k false)) (λ f. refl) words refl field

nonzero : (n : ℕ) → (suc n == 0) ≡ false
nonzero n = grind arith

one_more : (n : ℕ) → (suc n == 1) ≡ (n == 0)
one_more zero = refl
one_more (suc n) = grind arith

stays_for : (e : Effect) (field : List ℕ) (fs : List (List ℕ)) → word_effect (field ∷ fs) ≡ e → has_line e ≡ true →
    (o : Bool) → stays_open o (field ++ body_rest fs) ≡ turned e o
unfolding body_rest agrees
stays_for effect.Nothing field fs is stored o = absurd (both_ways _ refl stored)
stays_for effect.Abort field fs is stored o = absurd (both_ways _ refl stored)
stays_for effect.Compact field fs is stored o = absurd (both_ways _ refl stored)
stays_for effect.Change field fs is stored o =
    let alone = length (field ∷ fs) == 1 in
    change_stays o field (body_rest fs) (subst (λ (e : Effect). agrees field alone e ≡ true) is (agrees_at alone field))
stays_for effect.Begin field [] is stored o =
    let begins = subst (λ (e : Effect). agrees field true e ≡ true) is (agrees_at true field) in
    let both = and_parts (bytes_eq field (codes "begin")) true begins in
    ap (λ (w : List ℕ). stays_open o (w ++ [])) (same_text field (codes "begin") both.0)
stays_for effect.Begin field (f ∷ fs) is stored o =
    let alone = length (field ∷ f ∷ fs) == 1 in
    let begins = subst (λ (e : Effect). agrees field alone e ≡ true) is (agrees_at alone field) in
    let both = and_parts (bytes_eq field (codes "begin")) alone begins in
    absurd (both_ways _ (one_more (suc (length fs)) ∙ nonzero (length fs)) both.1)
stays_for effect.Commit field [] is stored o =
    let commits = subst (λ (e : Effect). agrees field true e ≡ true) is (agrees_at true field) in
    absurd (both_ways false refl (and_parts (bytes_eq field (codes "commit")) false commits).1)
stays_for effect.Commit field (f ∷ fs) is stored o =
    let alone = length (field ∷ f ∷ fs) == 1 in
    let commits = subst (λ (e : Effect). agrees field alone e ≡ true) is (agrees_at alone field) in
    let both = and_parts (bytes_eq field (codes "commit")) (not alone) commits in
    ap (λ (w : List ℕ). stays_open o (w ++ 44 ∷ join_with_byte 44 (f ∷ fs))) (same_text field (codes "commit") both.0)
    ∙ commit_closes o (join_with_byte 44 (f ∷ fs))

pub line_for : (e : Effect) (fields : List (List ℕ)) → word_effect fields ≡ e → has_line e ≡ true →
    is_clean (join_with_byte 44 fields) ≡ true → IsLineFor e (line_of fields)
line_for e [] is stored clean = absurd (let no = ap has_line is ∙ stored in cc)
line_for e (word ∷ fs) is stored clean =
    record {
      none = λ no. absurd (let never : true ≡ false = sym stored ∙ no in cc);
      turns = λ _ o. line_turns o (turned e o) (join_with_byte 44 (word ∷ fs)) clean
          (ap (stays_open o) (body_is word fs) ∙ stays_for e word fs is stored o);
    }

pub no_line : IsLineFor effect.Nothing []
no_line = record { none = λ _. refl; turns = λ stored. absurd (cc stored) }

-- ---- fields

-- one more field
pub join_more : (fs : List (List ℕ)) (i : ℕ) → i < length fs →
    (join_with_byte 44 (take i fs) ++ (if i == 0 then [] else 44 ∷ [])) ++ get_or fs i []
    ≡ join_with_byte 44 (take (suc i) fs)
join_more [] i h = absurd (omega arith)
join_more (f ∷ fs) zero h = refl
join_more (f ∷ []) (suc i) h = absurd (omega arith)
join_more (f ∷ g ∷ fs) (suc zero) h = append_assoc f (44 ∷ []) g
join_more (f ∷ g ∷ fs) (suc (suc i)) h =
    let more = rw (nonzero i) at (join_more (g ∷ fs) (suc i) (omega arith)) in
    let joined = join_with_byte 44 (take (suc i) (g ∷ fs)) in
    rw (nonzero (suc i)) (ap (λ (x : List ℕ). x ++ get_or fs i []) (append_assoc f (44 ∷ joined) (44 ∷ []))
    ∙ append_assoc f (44 ∷ joined ++ 44 ∷ []) (get_or fs i []) ∙ ap (λ (x : List ℕ). f ++ 44 ∷ x) more)

-- the same behind other lines
pub text_more : (lines text : List ℕ) (fs : List (List ℕ)) (i : ℕ) → i < length fs →
    text ≡ lines ++ join_with_byte 44 (take i fs)
    → (text ++ (if i == 0 then [] else 44 ∷ [])) ++ get_or fs i [] ≡ lines ++ join_with_byte 44 (take (i + 1) fs)
text_more lines text fs i h e =
    let joined = join_with_byte 44 (take i fs) in
    let comma : List ℕ = if i == 0 then [] else 44 ∷ [] in
    let one : suc i ≡ i + 1 = omega arith in
    ap (λ (x : List ℕ). (x ++ comma) ++ get_or fs i []) e
    ∙ ap (λ (x : List ℕ). x ++ get_or fs i []) (append_assoc lines joined comma)
    ∙ append_assoc lines (joined ++ comma) (get_or fs i [])
    ∙ ap (λ (x : List ℕ). lines ++ x) (join_more fs i h ∙ ap (λ (k : ℕ). join_with_byte 44 (take k fs)) one)

-- it holds no line end
pub clean_more : (fs : List (List ℕ)) (i : ℕ) → i < length fs → is_clean (join_with_byte 44 (take i fs)) ≡ true →
    is_clean (get_or fs i []) ≡ true → is_clean (join_with_byte 44 (take (i + 1) fs)) ≡ true
clean_more fs i h before field =
    let joined = join_with_byte 44 (take i fs) in
    let comma : List ℕ = if i == 0 then [] else 44 ∷ [] in
    let one : suc i ≡ i + 1 = omega arith in
    let clean : is_clean comma ≡ true = by_first (i == 0) in
    sym (ap is_clean (join_more fs i h ∙ ap (λ (k : ℕ). join_with_byte 44 (take k fs)) one))
    ∙ list_all-append is_clean_byte (joined ++ comma) (get_or fs i [])
    ∙ ap (λ (b : Bool). b && is_clean (get_or fs i [])) (list_all-append is_clean_byte joined comma)
    ∙ (λ n. (before n && clean n) && field n)
  where
    by_first : (first : Bool) → is_clean (if first then [] else 44 ∷ []) ≡ true
    by_first true = refl
    by_first false = refl

-- or one
pub unclean : (fs : List (List ℕ)) (i : ℕ) → i < length fs → is_clean (get_or fs i []) ≡ false →
    is_clean (join_with_byte 44 fs) ≡ false
unfolding body_rest
unclean [] i h e = absurd (omega arith)
unclean (f ∷ fs) zero h e =
    ap is_clean (body_is f fs) ∙ list_all-append is_clean_byte f (body_rest fs) ∙ ap (λ (b : Bool). b && is_clean (body_rest fs)) e
unclean (f ∷ []) (suc i) h e = absurd (omega arith)
unclean (f ∷ g ∷ fs) (suc i) h e =
    list_all-append is_clean_byte f (44 ∷ join_with_byte 44 (g ∷ fs))
    ∙ ap (λ (b : Bool). is_clean f && b) (unclean (g ∷ fs) i (omega arith) e) ∙ and_false (is_clean f)
  where
    and_false : (b : Bool) → (b && false) ≡ false
    and_false true = refl
    and_false false = refl

-- the lines before it stay
pub lines_stay : (lines text more longer : List ℕ) (n k : ℕ) → n ≡ length lines → k ≡ length (text ++ more) →
    (rest : List ℕ) → text ≡ lines ++ rest → take k longer ≡ text ++ more → take n longer ≡ lines
lines_stay lines text more longer n k size sizes rest e front =
    let all : text ++ more ≡ lines ++ (rest ++ more) =
    ap (λ (x : List ℕ). x ++ more) e ∙ append_assoc lines rest more in
    let less : n ≤ k = let long = ap length all in let longs = length-append lines (rest ++ more) in omega arith in
    sym (take-take n k longer less) ∙ ap (take n) (front ∙ all) ∙ take_at lines (rest ++ more) n (sym size)

-- ---- texts that follow each other

-- a front of two texts ends in the first, or behind it
split_either : (a x f r : List ℕ) → a ++ x ≡ f ++ r →
    ((b : ℕ) × (m : List ℕ) × (a ≡ f ++ b ∷ m)) ⊎ ((m : List ℕ) × (f ≡ a ++ m) × (x ≡ m ++ r))
split_either [] x f r e = inr (f, refl, e)
split_either (c ∷ a) x [] r e = inl (c, a, refl)
split_either (c ∷ a) x (d ∷ f) r e = grind (arith, split_either a x f r)

pub turns_join : (o t : Bool) (x y : List ℕ) → Turns o true x → Turns true t y → Turns o t (x ++ y)
turns_join o t x y h k =
    record {
      whole = λ more. rw (append_assoc x y more) (h.whole (y ++ more) ∙ k.whole more);
      firm = λ front rest is some whole. elim (split_either x y front rest is) [
        | inl s ↦ h.firm front (s.0 ∷ s.1) s.2 (λ never. cc never) whole
        | inr s ↦
            let of_more : is_whole_from true [] s.0 ≡ true = sym (h.whole s.0) ∙ ap (is_whole_from o []) (sym s.1) ∙ whole in
            absurd (some_left s.0 (k.firm s.0 rest s.2 some of_more) of_more)
      ];
    }
  where
    some_left : (m : List ℕ) → m ≡ [] → is_whole_from true [] m ≡ true → ⊥
    some_left m none open_left = let never : false ≡ true = sym (ap (is_whole_from true []) none) ∙ open_left in cc never

pub whole_join : (o : Bool) (p a m : List ℕ) → is_whole_from o p a ≡ true →
    is_whole_from o p (a ++ m) ≡ is_whole_from false [] m
whole_join true p [] m h = absurd cc
whole_join false [] [] m h = refl
whole_join false (b ∷ p) [] m h = absurd cc
whole_join o p (b ∷ a) m h = elim (cases_Bool (b == 10)) [
  | inl e ↦ rw e (whole_join (stays_open o p) [] a m (rw e at h))
  | inr e ↦ elim (cases_Bool (b == 13)) [
    | inl f ↦ absurd (let no = rw (e, f) at h in cc)
    | inr f ↦ rw (e, f) (whole_join o (p ++ b ∷ []) a m (rw (e, f) at h))
  ]
]

pub front_either : (a x front : List ℕ) → is_whole a ≡ true → Turns false false x →
    IsFront (a ++ x) front → IsFront a front ⊎ (front ≡ a ++ x)
front_either a x front whole turns h = elim (split_either a x front h.rest h.splits) [
  | inl s ↦ inl (record { rest = s.0 ∷ s.1; splits = s.2; whole = h.whole })
  | inr s ↦ by_rest s.0 h.rest s.1 s.2
]
  where
    by_rest : (m rest : List ℕ) → front ≡ a ++ m → x ≡ m ++ rest → IsFront a front ⊎ (front ≡ a ++ x)
    by_rest m [] e f = inr (e ∙ ap (λ (y : List ℕ). a ++ y) (sym (f ∙ append-nil m)))
    by_rest m (b ∷ rest) e f =
        let alone = sym (whole_join false [] a m whole) ∙ ap is_whole (sym e) ∙ h.whole in
        let same = e ∙ ap (λ (y : List ℕ). a ++ y) (turns.firm m (b ∷ rest) f (λ never. cc never) alone) ∙ append-nil a in
        inl (record { rest = []; splits = sym (append-nil front ∙ same); whole = h.whole })
