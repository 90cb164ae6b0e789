-- The text of the program's own file, after writes and after a crash within one.
use Rattle.olr_log.proofs.Common.{◌≡◌, ◌⊎◌, inl, inr, ⊎_elim, ℕ, suc, ◌+◌, ◌-◌, ◌≤◌, ◌<◌, max, true, false, List, [], ◌∷◌, ◌++◌}
use Rattle.olr_log.proofs.Common.{length, take, drop, get_or, replicate, refl, sym, ◌∙◌, ap, subst, arith, length-drop}
use Rattle.olr_log.proofs.Common.{take-append-drop, cases_lt, cases_eq, cond-true, cond-false, eqb-true, append-nil, take_all}
use Rattle.olr_log.proofs.Common.{get_or-take, get_or-drop, get_or-replicate, length-take-le, length-replicate, drop_more}
use Rattle.olr_log.proofs.Common.{same_number_lists, Holds, Torn, Mixed, Cut, IsFront, counts, is_native, text_in, HasText}
use Rattle.olr_log.proofs.Common.{IsFound, IsPadded, IsPaddedText, KeepsFirst, IsBlank}
use Rattle.olr_log.specs.Texts.{recovered, text_of}
use Rattle.olr_log.proofs.Fronts.{counts_append, recovered_append, recovered_counts, recovered_stop, recovered_same, recovered_spotted, short_none, spotted_from}
use Rattle.olr_log.proofs.Behind.{returns_from}
use Rattle.olr_log.proofs.Padding.{carriage_returns, first_bytes, torn_keeps, keeps_take, written_front, written_reach, text_from, blank_more}

native_head : (file : List ℕ) → is_native file ≡ true → file ≡ 10 ∷ drop 1 file
native_head [] kind = absurd (cc kind)
native_head (b ∷ bs) kind = ap (λ (x : ℕ). x ∷ bs) (eqb-true b 10 kind)

pub text_is : (n : ℕ) (file : List ℕ) → HasText n file → text_of file ≡ text_in n file
unfolding text_of
text_is n file has = cond-true _ _ _ has.kind ∙ has.text

pub foreign_text : (file : List ℕ) → is_native file ≡ false → text_of file ≡ file
unfolding text_of
foreign_text file foreign = cond-false _ _ _ foreign

pub text_counts : (n : ℕ) (file : List ℕ) → HasText n file → counts (text_in n file) ≡ true
text_counts n file has = ap counts (sym has.text) ∙ recovered_counts (drop 1 file)

-- the first line and the text
pub text_front : (n : ℕ) (file : List ℕ) → HasText n file → take (n + 1) file ≡ 10 ∷ text_in n file
text_front n file has =
    let e : n + 1 ≡ suc n = omega arith in
    ap (λ (x : List ℕ). take (n + 1) x) (native_head file has.kind) ∙ ap (λ (j : ℕ). take j (10 ∷ drop 1 file)) e

-- a file that begins with an empty line and a text that counts
module _ (n : ℕ) (t file : List ℕ) (whole : counts t ≡ true) (front : take (n + 1) file ≡ 10 ∷ t) (within : n + 1 ≤ length file) where
  abbrev rest : List ℕ
  rest = drop (n + 1) file

  parts : file ≡ 10 ∷ (t ++ rest)
  parts = sym (take-append-drop (n + 1) file) ∙ ap (λ (x : List ℕ). x ++ rest) front

  pub text_stored : text_in n file ≡ t
  text_stored = text_from n (n + 1) file (10 ∷ t) refl front

  has_text : recovered (t ++ rest) ≡ t → HasText n file
  has_text is = record {
    kind = ap is_native parts;
    within = within;
    text = ap (λ (x : List ℕ). recovered (drop 1 x)) parts ∙ is ∙ sym text_stored;
  }

  text_of_own : text_of file ≡ recovered (t ++ rest)
  unfolding text_of
  text_of_own = ap text_of parts

  -- what stands behind a carriage return counts for nothing
  pub stopped : n + 1 < length file → get_or file (n + 1) 0 ≡ 13 → HasText n file
  stopped long next =
      let z = drop (n + 1 + 1) file in
      let is : rest ≡ 13 ∷ z = drop_more file (n + 1) 0 long ∙ ap (λ (b : ℕ). b ∷ z) next in
      has_text (ap (λ (x : List ℕ). recovered (t ++ x)) is ∙ recovered_stop t z ∙ recovered_same t whole)

  -- so do more of them
  pub padded : n + 1 < length file → ((i : ℕ) → n + 1 ≤ i → i < length file → get_or file i 0 ≡ 13) → IsPadded n file
  padded some returns = record { text = stopped some (returns (n + 1) (omega arith) some); some = some; returns = returns }

  -- one byte doesn't either
  pub short : length file ≤ n + 1 + 1 → HasText n file
  short low = has_text (recovered_append t rest whole ∙ ap (λ (x : List ℕ). t ++ x) (short_none rest (omega (arith, length-drop (n + 1) file))) ∙ append-nil t)

  -- records of which a crash left some bytes, and carriage returns for the others
  pub spotted : (records : List ℕ) → n + 1 + length records < length file → get_or file (n + 1 + length records) 0 ≡ 13
      → ((i : ℕ) → i < length records → (get_or file (n + 1 + i) 0 ≡ get_or records i 0) ⊎ (get_or file (n + 1 + i) 0 ≡ 13))
      → (front : List ℕ) × IsFront records front × (text_of file ≡ t ++ front)
  spotted records long next each =
      let k = length records in
      let s = take k rest in
      let z = drop (k + 1) rest in
      let tail = length-drop (n + 1) file in
      let last : drop k rest ≡ 13 ∷ z = drop_more rest k 0 (omega (arith, tail)) ∙ ap (λ (b : ℕ). b ∷ z) (get_or-drop (n + 1) file k 0 ∙ next) in
      let is : rest ≡ s ++ 13 ∷ z = sym (take-append-drop k rest) ∙ ap (λ (x : List ℕ). s ++ x) last in
      let byte : (i : ℕ) → i < k → get_or s i 0 ≡ get_or file (n + 1 + i) 0 = λ i low. get_or-take k rest i 0 low ∙ get_or-drop (n + 1) file i 0 in
      let some = spotted_from records s (length-take-le k rest (omega (arith, tail))) (λ i low. ⊎_elim (λ new. inl (byte i low ∙ new)) (λ old. inr (byte i low ∙ old)) (each i low)) in
      let found = recovered_spotted t records s z whole some in
      (found.0, found.1, text_of_own ∙ ap (λ (x : List ℕ). recovered (t ++ x)) is ∙ found.2)

-- a file whose text stands before a carriage return, and whose first bytes are unchanged
pub stored_stopped : (n : ℕ) (file c : List ℕ) → HasText n file → get_or file (n + 1) 0 ≡ 13 → n + 1 < length file → n + 1 < length c
    → ((i : ℕ) → i < n + 1 + 1 → get_or c i 0 ≡ get_or file i 0) → text_of c ≡ text_in n file
stored_stopped n file c has next some long same =
    let t = text_in n file in
    let whole = text_counts n file has in
    let front = first_bytes (n + 1) c file (omega arith) has.within (λ i low. same i (omega arith)) ∙ text_front n file has in
    text_is n c (stopped n t c whole front (omega arith) long (same (n + 1) (omega arith) ∙ next)) ∙ text_stored n t c whole front (omega arith)

pub keeps_stopped : (n m : ℕ) (file c : List ℕ) → HasText n file → get_or file (n + 1) 0 ≡ 13 → n + 1 < length file → n + 1 < m → KeepsFirst m file c → text_of c ≡ text_in n file
keeps_stopped n m file c has next some within keeps =
    stored_stopped n file c has next some (omega (arith, keeps.no_shorter)) (λ i low. keeps.below i (omega arith) (omega arith))

-- padding that is longer
pub padded_more : (n len more : ℕ) (file new : List ℕ) → IsPadded n file → length file ≡ len → len ≤ more → Torn len (more - len) file new → (len < more → IsBlank len more new)
    → IsPadded n new × (length new ≡ more)
padded_more n len more file new is size le torn blank =
    let keeps = torn_keeps len len (more - len) file new (omega arith) torn in
    let short = is.some in
    let within = is.text.within in
    let front = keeps_take len (n + 1) file new keeps (omega arith) within ∙ text_front n file is.text in
    let long : length new ≡ more = all_there in
    let byte : (i : ℕ) → n + 1 ≤ i → i < length new → get_or new i 0 ≡ 13 = λ i above below. elim (cases_lt i len) [
      | inl before ↦ torn.below i (omega arith) before ∙ is.returns i above (omega arith)
      | inr behind ↦ (blank (omega (arith, long))).each i behind (omega (arith, long))
    ] in (
      padded n (text_in n file) new (text_counts n file is.text) front (omega (arith, long)) (omega (arith, long)) byte,
      long,
    )
  where
    all_there : length new ≡ more
    all_there = elim (cases_lt len more) [
      | inl some ↦ omega (arith, (blank some).reach, torn.no_longer)
      | inr none ↦ omega (arith, torn.no_shorter, torn.no_longer)
    ]

module _ (n : ℕ) (records file : List ℕ) (is : IsPadded n file) (room : n + 1 + length records < length file) where
  abbrev t : List ℕ
  t = text_in n file

  -- a crash while records are written over padding leaves a front of them
  pub mixed_text : (c : List ℕ) → Mixed (n + 1) records file c → (front : List ℕ) × IsFront records front × (text_of c ≡ t ++ front)
  mixed_text c mixed =
      let torn = mixed.torn in
      let size : length c ≡ length file = omega (arith, torn.no_shorter, torn.no_longer) in
      let front = keeps_take (n + 1) (n + 1) file c (torn_keeps (n + 1) (n + 1) (length records) file c (omega arith) torn) (omega arith) is.text.within ∙ text_front n file is.text in
      spotted n t c (text_counts n file is.text) front (omega (arith, size)) records (omega (arith, size))
      (torn.above (n + 1 + length records) room (omega arith) ∙ is.returns (n + 1 + length records) (omega arith) room) (λ i low.
      ⊎_elim (λ old. inr (old ∙ is.returns (n + 1 + i) (omega arith) (omega arith))) (λ new. inl new) (mixed.each i low (omega arith)))

  -- all of them are there
  pub padded_behind : (new : List ℕ) → counts records ≡ true → (0 < length records → Holds new (n + 1) records) → Torn (n + 1) (length records) file new
      → IsPadded (n + length records) new × (length new ≡ length file)
  padded_behind new whole holds torn =
      let m = n + length records in
      let size : length new ≡ length file = omega (arith, torn.no_shorter, torn.no_longer) in
      let place : n + 1 + length records ≡ m + 1 = omega arith in
      let front = sym (ap (λ (j : ℕ). take j new) place) ∙ written_front (n + 1) records file new is.text.within holds torn ∙ ap (λ (x : List ℕ). x ++ records) (text_front n file is.text) in
      let byte : (i : ℕ) → m + 1 ≤ i → i < length new → get_or new i 0 ≡ 13 = λ i above below. torn.above i (omega (arith, size)) (omega arith) ∙ is.returns i (omega arith) (omega (arith, size)) in (
        padded m (t ++ records) new (counts_append t records (text_counts n file is.text) ∙ whole) front (omega (arith, size)) (omega (arith, size)) byte,
        size,
      )

-- a crash while the first byte behind a text is overwritten by a carriage return leaves the text
pub first_wiped : (n : ℕ) (file c : List ℕ) → HasText n file → Mixed (n + 1) (13 ∷ []) file c → text_of c ≡ text_in n file
first_wiped n file c has mixed =
    let torn = mixed.torn in
    let t = text_in n file in
    let whole = text_counts n file has in
    let front = keeps_take (n + 1) (n + 1) file c (torn_keeps (n + 1) (n + 1) 1 file c (omega arith) torn) (omega arith) has.within ∙ text_front n file has in
    let within : n + 1 ≤ length c = omega (arith, torn.no_shorter, has.within) in
    let is : HasText n c → text_of c ≡ t = λ kind. text_is n c kind ∙ text_stored n t c whole front within in
    elim (cases_lt (n + 1) (length file)) [
      | inl more ↦
          let size : length c ≡ length file = omega (arith, torn.no_shorter, torn.no_longer) in
          let place : n + 1 + 0 ≡ n + 1 = omega arith in
          elim (mixed.each 0 (omega arith) (omega arith)) [
            | inl old ↦ ap text_of (same_number_lists c file size (λ i low. elim (cases_lt i (n + 1)) [
              | inl before ↦ torn.below i (omega (arith, size)) before
              | inr reached ↦ elim (cases_eq i (n + 1 + 0)) [
                | inl here ↦ subst (λ (j : ℕ). get_or c j 0 ≡ get_or file j 0) (sym here) old
                | inr behind ↦ torn.above i (omega (arith, size)) (omega (arith, behind))
              ]
            ])) ∙ text_is n file has
            | inr new ↦ is (stopped n t c whole front within (omega (arith, size)) (ap (λ (j : ℕ). get_or c j 0) (sym place) ∙ new))
          ]
      | inr end ↦ is (short n t c whole front within (omega (arith, torn.no_longer)))
    ]

-- once that byte is overwritten, and those behind it up to the last that isn't a carriage return
module _ (n last to : ℕ) (file once : List ℕ) (found : IsFound n last file) (to_is : to ≡ max (n + 1 + 1) (last + 1)) (holds : Holds once (n + 1) (13 ∷ [])) (torn : Torn (n + 1) 1 file once) where
  abbrev text : List ℕ
  text = text_in n file

  once_front : take (n + 1) once ≡ 10 ∷ text
  once_front = keeps_take (n + 1) (n + 1) file once (torn_keeps (n + 1) (n + 1) 1 file once (omega arith) torn) (omega arith) found.text.within ∙ text_front n file found.text

  pub once_next : get_or once (n + 1) 0 ≡ 13
  once_next = let place : n + 1 + 0 ≡ n + 1 = omega arith in ap (λ (j : ℕ). get_or once j 0) (sym place) ∙ holds.each 0 (omega arith)

  pub once_has : HasText n once
  once_has = stopped n text once (text_counts n file found.text) once_front (omega (arith, holds.within)) (omega (arith, holds.within)) once_next

  pub once_text : text_in n once ≡ text
  once_text = text_stored n text once (text_counts n file found.text) once_front (omega (arith, holds.within))

  pub wiped : (rest : ℕ) (new : List ℕ) → rest ≡ n + 1 + 1 → Torn rest (to - rest) once new → (rest < to → IsBlank rest to new)
      → IsPadded n new × (text_in n new ≡ text) × (length new ≡ max (length file) to)
  wiped rest new rest_is after blank =
      let whole = text_counts n file found.text in
      let stored = torn_keeps (n + 1) rest (to - rest) once new (omega arith) after in
      let all = keeps_take (n + 1) (n + 1) once new stored (omega arith) (omega (arith, holds.within)) ∙ once_front in
      let byte : (i : ℕ) → n + 1 ≤ i → i < length new → get_or new i 0 ≡ 13 = λ i above below. elim (cases_lt i to) [
        | inl before ↦ elim (cases_lt (n + 1) i) [
          | inl behind ↦ (blank (omega arith)).each i (omega arith) before
          | inr here ↦
              let e : n + 1 ≡ i = omega arith in
              subst (λ (j : ℕ). get_or new j 0 ≡ 13) e (after.below (n + 1) (omega (arith, holds.within)) (omega arith) ∙ once_next)
        ]
        | inr past ↦
            after.above i (omega (arith, size, holds.within, torn.no_shorter)) (omega (arith, to_is)) ∙ torn.above i (omega (arith, size)) (omega (arith, to_is))
            ∙ returns_from last file found.reach found.rest i (omega (arith, to_is)) (omega (arith, size))
      ] in (
        padded n text new whole all (omega (arith, size, to_is)) (omega (arith, size, to_is)) byte,
        text_stored n text new whole all (omega (arith, size, to_is)),
        size,
      )
    where
      size : length new ≡ max (length file) to
      size = elim (cases_lt rest to) [
        | inl some ↦ omega (arith, (blank some).reach, after.no_shorter, after.no_longer, torn.no_shorter, torn.no_longer, holds.within)
        | inr none ↦ omega (arith, to_is, after.no_shorter, after.no_longer, torn.no_shorter, torn.no_longer, holds.within)
      ]

-- the padding of a file is cut off, but for one carriage return first
module _ (n : ℕ) (file : List ℕ) (is : IsPadded n file) where
  pub cut_text : (c : List ℕ) → Cut (n + 1 + 1) file c → text_of c ≡ text_in n file
  cut_text c cut =
      stored_stopped n file c is.text (is.returns (n + 1) (omega arith) is.some) is.some (omega (arith, is.some, cut.no_shorter)) (λ i low. cut.below i (omega (arith, is.some)) low)

  module _ (once c : List ℕ) (first : Cut (n + 1 + 1) file once) (size : length once ≡ n + 1 + 1) (second : Cut (n + 1) once c) where
    left : take (n + 1) c ≡ 10 ∷ text_in n file
    left =
        first_bytes (n + 1) c file (omega (arith, second.no_shorter)) is.text.within (λ i low. second.below i (omega (arith, size)) low ∙ first.below i (omega (arith, is.some)) (omega arith))
        ∙ text_front n file is.text

    pub cut_twice_text : text_of c ≡ text_in n file
    cut_twice_text =
        let whole = text_counts n file is.text in
        let within : n + 1 ≤ length c = omega (arith, second.no_shorter) in
        text_is n c (short n (text_in n file) c whole left within (omega (arith, second.no_longer))) ∙ text_stored n (text_in n file) c whole left within

    -- once all of it is cut off, the first line and the text are left
    pub cut_twice_file : length c ≡ n + 1 → c ≡ 10 ∷ text_in n file
    cut_twice_file all = sym (take_all (n + 1) c (omega (arith, all))) ∙ left

pub padded_text : (n : ℕ) (file : List ℕ) → IsPadded n file → IsPaddedText (text_in n file) file
padded_text n file is =
    let k = length file - (n + 1) in
    let size = length-drop (n + 1) file in
    let rest : drop (n + 1) file ≡ replicate k 13 = same_number_lists (drop (n + 1) file) (replicate k 13) (size ∙ sym (length-replicate {A = ℕ} k 13)) (λ i low.
    get_or-drop (n + 1) file i 0 ∙ is.returns (n + 1 + i) (omega arith) (omega (arith, size)) ∙ sym (get_or-replicate k i 13 0 (omega (arith, size)))) in
    (k, omega (arith, is.some), sym (take-append-drop (n + 1) file) ∙ ap (λ (x : List ℕ). x ++ drop (n + 1) file) (text_front n file is.text) ∙ ap (λ (x : List ℕ). 10 ∷ (text_in n file ++ x)) rest)

-- a file that is written anew: its first line and its text
pub begun : (text none first second : List ℕ) → length none ≡ 0 → (0 < 1 → Holds first 0 (10 ∷ [])) → Torn 0 1 none first
    → (0 < length text → Holds second 1 text) → Torn 1 (length text) first second → second ≡ 10 ∷ text
begun text none first second empty holds_1 torn_1 holds_2 torn_2 =
    let size_1 : length first ≡ 1 = omega (arith, written_reach 0 (10 ∷ []) none first (omega arith) holds_1 torn_1, torn_1.no_longer, empty) in
    sym (take_all (1 + length text) second (omega (arith, torn_2.no_longer, size_1))) ∙ written_front 1 text first second (omega (arith, size_1)) holds_2 torn_2
    ∙ ap (λ (x : List ℕ). x ++ text) (written_front 0 (10 ∷ []) none first (omega arith) holds_1 torn_1)

-- and carriage returns
pub filled : (text second third : List ℕ) (end m : ℕ) → end ≡ length text + 1 → second ≡ 10 ∷ text → (0 < length (carriage_returns m) → Holds third end (carriage_returns m))
    → Torn end (length (carriage_returns m)) second third → 0 < m → counts text ≡ true → IsPadded (length text) third × (text_in (length text) third ≡ text) × (length third ≡ end + m)
filled text second third end m ends is holds torn some whole =
    let long_m = length-replicate {A = ℕ} m 13 in
    let size_2 : length second ≡ end = omega (arith, ends, ap length is) in
    let blank = blank_more end end (carriage_returns m) second third (omega arith) (λ never. absurd (omega (arith, never))) (λ i low. get_or-replicate m i 13 0 (omega (arith, low, long_m))) (holds (omega (arith, long_m, some))) torn in
    let size_3 : length third ≡ end + m = omega (arith, blank.reach, torn.no_longer, size_2, long_m) in
    let front : take (length text + 1) third ≡ 10 ∷ text =
    ap (λ (j : ℕ). take j third) (sym ends) ∙ keeps_take end end second third (torn_keeps end end (length (carriage_returns m)) second third (omega arith) torn) (omega arith) (omega (arith, size_2))
    ∙ take_all end second (omega (arith, size_2)) ∙ is in
    let long : length text + 1 < length third = omega (arith, size_3, ends) in
    let byte : (i : ℕ) → length text + 1 ≤ i → i < length third → get_or third i 0 ≡ 13 = λ i above below. blank.each i (omega (arith, ends)) (omega (arith, size_3)) in (
      padded (length text) text third whole front (omega arith) long byte,
      text_stored (length text) text third whole front (omega arith),
      size_3,
    )
