-- The effect of one byte on a record, and that a byte order mark is skipped.
use Rattle.olr_input.proofs.Common.{◌≡◌, ◌≤◌, ◌<◌, ◌+◌, ◌-◌, ◌++◌, ℕ, List, [], ◌∷◌, Some, None, true, false, refl, length}
use Rattle.olr_input.proofs.Common.{take, drop, sym, ap, ◌∙◌, arith, length-drop, get_or, get_or-drop, drop-cons, add-one, step}
use Rattle.olr_input.proofs.Common.{ends_at_end, is_end, fields_after, field_after, default_config, is_bom, csv_state}
use Rattle.olr_input.proofs.Common.{drop-length, append-nil, append_assoc, take_more, if◌then◌else◌, State}
use Rattle.csv.specs.declared.parser.State.TheVariants.{StartRecord}
use Rattle.olr_input.specs.Machine.{csv_action}
use Rattle.olr_input.specs.declared.machine.Action.{Action}
use Rattle.std.proofs.Math.ListN.{drop_of_length-le}
use Rattle.std.proofs.Common.{Bor, subst}
use Rattle.std.proofs.lemmas.Bool.{and_parts, cases_Bool}
use Rattle.std.specs.Prelude.{MatchOption, Option, unwrap_or}
use Rattle.std.specs.Str.{bytes_eq}
use Rattle.csv.specs.Machine.{next_record}
use Rattle.csv.specs.Reading.{strip_bom}
use Rattle.csv.specs.declared.parser.Action.{Action as CsvAction}
use Rattle.olr_input.specs.declared.machine.State.{State as Here}
use Rattle.csv.specs.declared.parser.Action.TheVariants as act

-- the effect of a byte, by the state and the action after it
pub did : (r : Here × Action) (a : Action) (x : State × CsvAction) → (csv_state r.0, csv_action r.1) ≡ x → r.1 ≡ a →
    x ≡ (csv_state r.0, csv_action a)
did r a x e h = sym e ∙ ap (λ (k : Action). (csv_state r.0, csv_action k)) h

-- the effect of a byte on a record
pub of_byte : (s t : State) (a : CsvAction) (f : List (List ℕ)) (p rest : List ℕ) (c : ℕ) → step default_config s c ≡ (t, a) →
    next_record default_config s f p (c ∷ rest) ≡ (if is_end a then Some (fields_after a f p, t, rest) else
    next_record default_config t (fields_after a f p) (field_after a c p) rest)
unfolding next_record
of_byte s t a f p rest c e = rw e refl

-- the bytes from an index on, with the first of them
pub at : (text : List ℕ) (i : ℕ) → i < length text → drop i text ≡ get_or text i 0 ∷ drop (i + 1) text
at text i low = drop-cons text i 0 low ∙ ap (λ (k : ℕ). get_or text i 0 ∷ drop k text) (sym (add-one i))

-- a part of a text, with one byte more
pub longer : (text : List ℕ) (start i : ℕ) → start ≤ i → i < length text →
    take (i + 1 - start) (drop start text) ≡ take (i - start) (drop start text) ++ get_or text i 0 ∷ []
longer text start i from low =
    grind (arith, length-drop, take_more (drop start text) (i - start) 0, get_or-drop start text (i - start) 0)

pub empty : (text : List ℕ) (i : ℕ) → take (i + 1 - (i + 1)) (drop (i + 1) text) ≡ []
empty text i = grind arith

-- the loop over bytes at an index, after which the field has its earlier bytes and those from `start` on
pub copied : (s t : State) (f : List (List ℕ)) (field text : List ℕ) (start i : ℕ) → start ≤ i → i < length text →
    step default_config s (get_or text i 0) ≡ (t, act.Copy) →
    next_record default_config s f (field ++ take (i - start) (drop start text)) (drop i text)
    ≡ next_record default_config t f (field ++ take (i + 1 - start) (drop start text)) (drop (i + 1) text)
copied s t f field text start i from low e =
    let part = take (i - start) (drop start text) in
    rw (
      at text i low,
      of_byte s t act.Copy f (field ++ part) (drop (i + 1) text) (get_or text i 0) e,
      longer text start i from low,
    ) (simp append_assoc refl)

pub skipped : (s t : State) (f : List (List ℕ)) (field p text : List ℕ) (i : ℕ) → i < length text → field ≡ p →
    step default_config s (get_or text i 0) ≡ (t, act.Skip) →
    next_record default_config s f p (drop i text)
    ≡ next_record default_config t f (field ++ take (i + 1 - (i + 1)) (drop (i + 1) text)) (drop (i + 1) text)
skipped s t f field p text i low same e =
    let byte = of_byte s t act.Skip f p (drop (i + 1) text) (get_or text i 0) e in
    rw (at text i low, byte, empty text i, append-nil field, same) refl

pub field_ended : (s t : State) (f g : List (List ℕ)) (field p text : List ℕ) (i : ℕ) → i < length text → field ≡ [] →
    g ≡ f ++ p ∷ [] → step default_config s (get_or text i 0) ≡ (t, act.EndField) →
    next_record default_config s f p (drop i text)
    ≡ next_record default_config t g (field ++ take (i + 1 - (i + 1)) (drop (i + 1) text)) (drop (i + 1) text)
field_ended s t f g field p text i low none more e =
    let byte = of_byte s t act.EndField f p (drop (i + 1) text) (get_or text i 0) e in
    rw (at text i low, byte, empty text i, append-nil field, none, more) refl

pub record_ended : (s t : State) (f g : List (List ℕ)) (p text : List ℕ) (i : ℕ) → i < length text →
    g ≡ f ++ p ∷ [] → step default_config s (get_or text i 0) ≡ (t, act.EndRecord) →
    next_record default_config s f p (drop i text) ≡ Some (g, t, drop (i + 1) text)
record_ended s t f g p text i low more e =
    rw (at text i low, of_byte s t act.EndRecord f p (drop (i + 1) text) (get_or text i 0) e, more) refl

-- the end of the text
pub text_ended : (s : State) (f g : List (List ℕ)) (p text : List ℕ) (i : ℕ) → length text ≤ i → g ≡ f ++ p ∷ [] →
    ends_at_end s ≡ true → next_record default_config s f p (drop i text)
    ≡ Some (g, StartRecord, drop (length text) text)
unfolding next_record
text_ended s f g p text i high more ends = rw (drop_of_length-le text {i = i} high, drop-length text, more, ends) refl

pub none_left : (s : State) (f : List (List ℕ)) (p text : List ℕ) (i : ℕ) → length text ≤ i → ends_at_end s ≡ false →
    next_record default_config s f p (drop i text) ≡ None
unfolding next_record
none_left s f p text i high ends = rw (drop_of_length-le text {i = i} high, ends) refl

-- ---- byte order marks

marked : (xs : List ℕ) → bytes_eq (take 3 xs) (239 ∷ 187 ∷ 191 ∷ []) ≡ true → drop 3 xs ≡ strip_bom xs
unfolding strip_bom
marked [] e = refl
marked (a ∷ []) e = absurd (grind (arith, and_parts))
marked (a ∷ b ∷ []) e = absurd (grind (arith, and_parts))
marked (a ∷ b ∷ c ∷ rest) e =
    let mark : is_bom a b c ≡ true = grind (arith, cases_Bool, and_parts) in
    rw mark refl

unmarked : (xs : List ℕ) → bytes_eq (take 3 xs) (239 ∷ 187 ∷ 191 ∷ []) ≡ false → xs ≡ strip_bom xs
unfolding strip_bom
unmarked [] e = refl
unmarked (a ∷ []) e = refl
unmarked (a ∷ b ∷ []) e = refl
unmarked (a ∷ b ∷ c ∷ rest) e =
    let none : is_bom a b c ≡ false = grind (arith, cases_Bool, and_parts) in
    rw none refl

pub without_mark : (text : Bor (List ℕ)) (mark : List ℕ) (r : Option (Bor (List ℕ))) → mark ≡ 239 ∷ 187 ∷ 191 ∷ [] →
    MatchOption r (bytes_eq (take (length mark) text.now) mark ≡ false)
    (λ x. (bytes_eq (take (length mark) text.now) mark ≡ true) × (x.now ≡ drop (length mark) text.now)
    × (length x.now + length mark ≡ length text.now))
    → (unwrap_or r text).now ≡ strip_bom text.now
without_mark text mark None is h =
    unmarked text.now (subst (λ (m : List ℕ). bytes_eq (take (length m) text.now) m ≡ false) is h)
without_mark text mark (Some x) is h =
    h.1 ∙ ap (λ (m : List ℕ). drop (length m) text.now) is
    ∙ marked text.now (subst (λ (m : List ℕ). bytes_eq (take (length m) text.now) m ≡ true) is h.0)

pub no_mark : (xs : List ℕ) → is_bom (get_or xs 0 0) (get_or xs 1 0) (get_or xs 2 0) ≡ false → xs ≡ strip_bom xs
unfolding strip_bom
no_mark [] e = refl
no_mark (a ∷ []) e = refl
no_mark (a ∷ b ∷ []) e = refl
no_mark (a ∷ b ∷ c ∷ rest) e = rw e refl
