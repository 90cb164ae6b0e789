-- A change that is read has a record, and its coordinates are in range.
use Rattle.olr_records.proofs.Common.{IfOk, degrees, Change, On_map, is_name, number, amount, numbers, nat_abs, Option, Command}
use Rattle.olr_records.proofs.Common.{IfSome, AllByRecursion, has_degrees_text, value_or_fault, set_line_record, are_attributes}
use Rattle.olr_records.proofs.Common.{if◌then◌else◌, line_between, is_named_path, is_longitude, degrees-whole, slice_index_or}
use Rattle.olr_records.proofs.Common.{⊤, ◌≡◌, ℕ, ℤ, true, List, [], ◌∷◌, Some, None, Ok, Err, refl, ◌&&◌, pos, ◌%◌, sym}
use Rattle.olr_records.proofs.Common.{list_all, nat_tests, is_coord, Move_node, Drop_node, Drop_line, Drop_path, ◌⊛◌, is_number}
use Rattle.olr_records.proofs.Common.{and_parts, eq-eqb, coordinate, attributes, whole_line, has_record, are_coords, Set_margin}
use Rattle.olr_records.proofs.Common.{Coord, Field, max32, place, point, shape, unit7, IsTrue, length, nat_le, negsuc, digits}
use Rattle.olr_records.proofs.Common.{ShapePoint, node_fields, node_record, line_record, path_fields, is_latitude, Show_margin}
use Rattle.olr_records.proofs.Common.{Line, Edit, Path, Make, Read, name, edit, read, class, Bool, false, subst, arith, codes}
use Rattle.olr_records.proofs.Common.{suc, drop, ◌==◌, Add_node, Add_line, Set_line, Add_path, Set_path, is_place, is_point, Recorded, HasCoord}
use Rattle.std.proofs.lemmas.Result.{IfOk-at_ok, IfOk-weaker}
use Rattle.olr_commands.specs.State.{Show, Show_node, Show_line, Depends, Report, Dump, Compact, Explain, Begin, Preview}
use Rattle.olr_commands.specs.State.{Commit, Abort, Ambiguous, HasCoords}
use Rattle.olr_input.specs.RecordWords.{words, word_in, word_of, effect_by, word_effect}
use Rattle.olr_input.specs.declared.record.Word.{Word}
use Rattle.olr_input.specs.declared.record.Effect.{Effect}
use Rattle.olr_input.specs.declared.record.Effect.TheVariants as effect
use Rattle.olr_input.specs.declared.record.Word.TheVariants as word
use Rattle.olr_input.proofs.RecordWords.{same_text}
use Rattle.std.specs.Str.{bytes_eq}
use Rattle.olr_coords.specs.Bounds.{is_degrees}
use Rattle.olr_records.specs.Records.{longitude, latitude, one, none, path_record, read_as, depends_record}
use Rattle.olr_records.specs.Records.{ambiguous_record, margin_record}
use Rattle.olr_records.proofs.TestLemmas.{all_weaker, ◌also◌}
use Rattle.olr_records.proofs.FieldLemmas.{Plain, AllPlain, digits_plain, name_plain, place_plain}

if_read : {A : Type 0} (P : A → Type 0) (b : Bool) (r q : Read A) → IfOk r P → IfOk q P → IfOk (if b then r else q) P
if_read P true r q h g = h
if_read P false r q h g = g

-- a function whose values satisfy P at what is read
abbrev Takes : {A B : Type 0} → (A → Type 0) → (B → Type 0) → (A → B) → Type 0
Takes {A} Q P f = (a : A) → Q a → P (f a)

pub given : {A B : Type 0} (P : B → Type 0) (Q : A → Type 0) (g : Read (A → B)) (r : Read A) → IfOk r Q →
    IfOk g (Takes Q P) → IfOk (g ⊛ r) P
given P Q (Ok g) (Ok a) q h = h a q
given P Q (Ok g) (Err f) q h = tt
given P Q (Err f) (Ok a) q h = tt
given P Q (Err f) (Err k) q h = tt

-- two parts
pub two : {A B C : Type 0} (P : C → Type 0) (Q : A → Type 0) (S : B → Type 0) (g : Read (A → B → C)) (r : Read A)
    (s : Read B) → IfOk r Q → IfOk s S → IfOk g (Takes Q (Takes S P)) → IfOk (g ⊛ r ⊛ s) P
two P Q S g r s q t h = given P S (g ⊛ r) s t (given (Takes S P) Q g r q h)

-- ---- fields

bounded_passes : {A : Type 0} (test : A → Bool) (a : A) → IfOk (value_or_fault (test a) a) (λ x. IsTrue (test x))
bounded_passes {A} test a = grind arith

digits_pass : (low high : ℕ) (f : Field) → IfOk (digits low high f) (λ n. IsTrue (nat_le low n && nat_le n high))
digits_pass low high f = grind (arith, if_read, nat_le, bounded_passes)

-- a coordinate in range, with a text of degrees
abbrev Written : (ℤ → Bool) → ℤ → Type 0
Written test z = IsTrue (test z) × IsTrue (has_degrees_text z)

found_passes : (test : ℤ → Bool) → ((z : ℤ) → IsTrue (test z) → IsTrue (is_degrees z)) → (o : Option ℤ) →
    IfSome o (λ z. nat_abs z % unit7 ≡ 0) → IfOk (coordinate test o) (Written test)
found_passes test wide None whole = tt
found_passes test wide (Some z) whole = grind (arith, eq-eqb)

longitude_wide : (z : ℤ) → IsTrue (is_longitude z) → IsTrue (is_degrees z)
longitude_wide (pos n) h = grind (arith, nat_tests)
longitude_wide (negsuc n) h = grind (arith, nat_tests)

-- the range of latitudes is within that of longitudes
latitude_within : (z : ℤ) → IsTrue (is_latitude z) → IsTrue (is_longitude z)
latitude_within (pos n) h = grind (arith, nat_tests)
latitude_within (negsuc n) h = grind (arith, nat_tests)

longitude_passes : (f : Field) → IfOk (longitude f) (Written is_longitude)
longitude_passes f = found_passes is_longitude longitude_wide (degrees f) (degrees-whole f)

latitude_passes : (f : Field) → IfOk (latitude f) (Written is_latitude)
latitude_passes f = grind (arith, found_passes, longitude_wide, latitude_within, degrees-whole)

place_passes : (lon lat : Field) → IfOk (place lon lat) (λ p. IsTrue (is_place p))
place_passes lon lat = grind (arith, longitude_passes lon, latitude_passes lat)

name_passes : (f : Field) → IfOk (name f) (λ n. IsTrue (is_name n))
name_passes f = grind arith

-- ---- fields that are plain, too

also_holds : {A : Type 0} (r : Read A) (P Q : A → Type 0) → IfOk r P → IfOk r Q → IfOk r (λ a. P a × Q a)
also_holds (Ok a) P Q h k = (h, k)
also_holds (Err f) P Q h k = tt

abbrev Ranged : ℕ → ℕ → Field → ℕ → Type 0
Ranged low high f n = IsTrue (nat_le low n && nat_le n high) × Plain f

ranged : (low high : ℕ) (f : Field) → IfOk (digits low high f) (Ranged low high f)
ranged low high f =
    also_holds (digits low high f) (λ n. IsTrue (nat_le low n && nat_le n high)) (λ _. Plain f) (digits_pass low high f)
    (digits_plain low high f)

abbrev AtMost : ℕ → Field → ℕ → Type 0
AtMost high f n = IsTrue (nat_le n high) × Plain f

at_most : (high : ℕ) (f : Field) → IfOk (digits 0 high f) (AtMost high f)
at_most high f =
    IfOk-weaker (digits 0 high f) (Ranged 0 high f) (AtMost high f)
    (λ n h. ((and_parts (nat_le 0 n) (nat_le n high) h.0).1, h.1)) (ranged 0 high f)

abbrev NameOf : Field → Field → Type 0
NameOf f n = IsTrue (is_name n) × Plain f

name_of : (f : Field) → IfOk (name f) (NameOf f)
name_of f = also_holds (name f) (λ n. IsTrue (is_name n)) (λ _. Plain f) (name_passes f) (name_plain f)

abbrev PlaceOf : Field → Field → Coord → Type 0
PlaceOf lon lat p = IsTrue (is_place p) × (Plain lon × Plain lat)

place_of : (lon lat : Field) → IfOk (place lon lat) (PlaceOf lon lat)
place_of lon lat =
    also_holds (place lon lat) (λ p. IsTrue (is_place p)) (λ _. Plain lon × Plain lat) (place_passes lon lat)
    (place_plain lon lat)

-- ---- parts of records

abbrev NumbersOf : List Field → List ℕ → Type 0
NumbersOf fs xs = IsTrue (list_all is_number xs) × AllPlain fs

numbers_pass : (fs : List Field) → IfOk (numbers fs) (NumbersOf fs)
numbers_pass [] = (refl, tt)
numbers_pass (f ∷ fs) =
    two (NumbersOf (f ∷ fs)) (Ranged 1 max32 f) (NumbersOf fs) (Ok (λ x xs. x ∷ xs)) (number f) (numbers fs)
    (ranged 1 max32 f) (numbers_pass fs) (λ x h xs k. ((λ i. h.0 i && k.0 i), (h.1, k.1)))

abbrev pub NodeOf : List Field → ℕ × Coord → Type 0
NodeOf fs p = IsTrue (is_number p.0 && is_place p.1) × AllPlain fs

pub node_passes : (fs : List Field) → IfOk (node_fields fs) (NodeOf fs)
node_passes (node ∷ lon ∷ lat ∷ []) =
    two (NodeOf (node ∷ lon ∷ lat ∷ [])) (Ranged 1 max32 node) (PlaceOf lon lat) (Ok (λ x p. (x, p))) (number node)
    (place lon lat) (ranged 1 max32 node) (place_of lon lat)
    (λ x h p k. ((λ i. h.0 i && k.0 i), (h.1, (k.1.0, (k.1.1, tt)))))
node_passes fs = tt

abbrev PointOf : Field → Field → Field → ShapePoint → Type 0
PointOf at lon lat s = IsTrue (is_point s) × (Plain at × (Plain lon × Plain lat))

point_passes : (at lon lat : Field) → IfOk (point at lon lat) (PointOf at lon lat)
point_passes at lon lat =
    two (PointOf at lon lat) (Ranged 1 999999 at) (PlaceOf lon lat) (Ok (λ x p. record { at = x; place = p }))
    (digits 1 999999 at) (place lon lat) (ranged 1 999999 at) (place_of lon lat)
    (λ x h p k. ((λ i. h.0 i && k.0 i), (h.1, k.1)))

abbrev ShapeOf : List Field → List ShapePoint → Type 0
ShapeOf fs ss = IsTrue (list_all is_point ss) × AllPlain fs

shape_passes : (fs : List Field) → IfOk (shape fs) (ShapeOf fs)
shape_passes [] = (refl, tt)
shape_passes (at ∷ lon ∷ lat ∷ fs) =
    two (ShapeOf (at ∷ lon ∷ lat ∷ fs)) (PointOf at lon lat) (ShapeOf fs) (Ok (λ p ps. p ∷ ps)) (point at lon lat)
    (shape fs) (point_passes at lon lat) (shape_passes fs)
    (λ p h ps k. ((λ i. h.0 i && k.0 i), (h.1.0, (h.1.1.0, (h.1.1.1, k.1)))))
shape_passes fs = tt

abbrev AttributesOf : List Field → ℕ × ℕ × ℕ × List ShapePoint → Type 0
AttributesOf fs c = IsTrue (are_attributes c.0 c.1 c.2 c.3) × AllPlain fs

attributes_pass : (frc fow len : Field) (fs : List Field) →
    IfOk (attributes frc fow len fs) (AttributesOf (frc ∷ fow ∷ len ∷ fs))
attributes_pass frc fow len fs =
    let g : Read (ℕ → ℕ → ℕ → List ShapePoint → ℕ × ℕ × ℕ × List ShapePoint) = Ok (λ a b c d. (a, b, c, d)) in
    two (AttributesOf (frc ∷ fow ∷ len ∷ fs)) (Ranged 1 1000000 len) (ShapeOf fs) (g ⊛ class frc ⊛ class fow)
    (digits 1 1000000 len) (shape fs) (ranged 1 1000000 len) (shape_passes fs)
    (two (Takes (Ranged 1 1000000 len) (Takes (ShapeOf fs) (AttributesOf (frc ∷ fow ∷ len ∷ fs)))) (AtMost 7 frc)
    (AtMost 7 fow) g (class frc) (class fow) (at_most 7 frc) (at_most 7 fow)
    (λ a h b k c l d m. let p = and_parts (nat_le 1 c) (nat_le c 1000000) l.0 in
    ((λ i. h.0 i && k.0 i && p.0 i && p.1 i && m.0 i), (h.1, (k.1, (l.1, m.1))))))

abbrev LineOf : List Field → Line → Type 0
LineOf fs l =
    (IsTrue (is_number l.from) × IsTrue (is_number l.to) × IsTrue (are_attributes l.frc l.fow l.len l.shape)) × AllPlain fs

line_passes : (from to frc fow len : Field) (fs : List Field) →
    IfOk (whole_line from to (attributes frc fow len fs)) (LineOf (from ∷ to ∷ frc ∷ fow ∷ len ∷ fs))
line_passes from to frc fow len fs =
    let g : Read (ℕ → ℕ → ℕ × ℕ × ℕ × List ShapePoint → Line) = Ok (λ a b c. line_between a b c.0 c.1 c.2 c.3) in
    let rest = AttributesOf (frc ∷ fow ∷ len ∷ fs) in
    let whole = LineOf (from ∷ to ∷ frc ∷ fow ∷ len ∷ fs) in
    given whole rest (g ⊛ number from ⊛ number to) (attributes frc fow len fs) (attributes_pass frc fow len fs)
    (two (Takes rest whole) (Ranged 1 max32 from) (Ranged 1 max32 to) g (number from) (number to) (ranged 1 max32 from)
    (ranged 1 max32 to) (λ a h b k c l. ((h.0, k.0, l.0), (h.1, (k.1, l.1)))))

-- ---- records

-- an edit that has a record
abbrev pub EditOf : List Field → Edit → Type 0
EditOf fs e = IsTrue (has_record (On_map e)) × AllPlain fs

node_record_passes : (g : ℕ → Coord → Edit) →
    ((n : ℕ) (c : Coord) → IsTrue (is_number n && is_place c) → IsTrue (has_record (On_map (g n c)))) →
    (fs : List Field) → IfOk (node_record g fs) (EditOf fs)
node_record_passes g h fs =
    given (EditOf fs) (NodeOf fs) (Ok (λ p. g p.0 p.1)) (node_fields fs) (node_passes fs) (λ p k. (h p.0 p.1 k.0, k.1))

pub line_record_passes : (fs : List Field) → IfOk (line_record fs) (EditOf fs)
line_record_passes (x ∷ from ∷ to ∷ frc ∷ fow ∷ len ∷ fs) =
    two (EditOf (x ∷ from ∷ to ∷ frc ∷ fow ∷ len ∷ fs)) (Ranged 1 max32 x) (LineOf (from ∷ to ∷ frc ∷ fow ∷ len ∷ fs))
    (Ok (λ x l. Add_line x l)) (number x) (whole_line from to (attributes frc fow len fs)) (ranged 1 max32 x)
    (line_passes from to frc fow len fs)
    (λ x h l k. ((λ i. h.0 i && k.0.0 i && k.0.1 i && k.0.2 i), (h.1, k.1)))
line_record_passes fs = tt

pub set_line_record_passes : (fs : List Field) → IfOk (set_line_record fs) (EditOf fs)
set_line_record_passes (x ∷ frc ∷ fow ∷ len ∷ fs) =
    two (EditOf (x ∷ frc ∷ fow ∷ len ∷ fs)) (Ranged 1 max32 x) (AttributesOf (frc ∷ fow ∷ len ∷ fs))
    (Ok (λ x c. Set_line x c.0 c.1 c.2 c.3)) (number x) (attributes frc fow len fs) (ranged 1 max32 x)
    (attributes_pass frc fow len fs) (λ x h c k. ((λ i. h.0 i && k.0 i), (h.1, k.1)))
set_line_record_passes fs = tt

pub one_passes : {A B : Type 0} (P : List Field → B → Type 0) (Q : Field → A → Type 0) (g : A → B) (r : Field → Read A) →
    ((f : Field) → IfOk (r f) (Q f)) → ((f : Field) (a : A) → Q f a → P (f ∷ []) (g a)) → (fs : List Field) →
    IfOk (one g r fs) (P fs)
one_passes P Q g r q h (f ∷ []) = given (P (f ∷ [])) (Q f) (Ok g) (r f) (q f) (h f)
one_passes P Q g r q h fs = tt

abbrev pub PathOf : List Field → List ℕ × Path → Type 0
PathOf fs p = IsTrue (is_named_path p.0 p.1) × AllPlain fs

pub path_fields_pass : (fs : List Field) → IfOk (path_fields fs) (PathOf fs)
path_fields_pass (n ∷ a ∷ b ∷ fs) =
    let g : Read (List ℕ → ℕ → ℕ → List ℕ → List ℕ × Path) =
    Ok (λ n p q ls. (n, record { lines = ls; pos = p; neg = q })) in
    two (PathOf (n ∷ a ∷ b ∷ fs)) (AtMost max32 b) (NumbersOf fs) (g ⊛ name n ⊛ amount a) (amount b) (numbers fs)
    (at_most max32 b) (numbers_pass fs)
    (two (Takes (AtMost max32 b) (Takes (NumbersOf fs) (PathOf (n ∷ a ∷ b ∷ fs)))) (NameOf n) (AtMost max32 a) g (name n)
    (amount a) (name_of n) (at_most max32 a)
    (λ n h p k q l ls m. ((λ i. h.0 i && k.0 i && l.0 i && m.0 i), (h.1, (k.1, (l.1, m.1))))))
path_fields_pass fs = tt

-- ---- commands

-- what is known of the fields of a command, and of their word
abbrev pub KnownFields : Word → List Field → Command → Type 0
KnownFields k fs (Make x) = AllPlain fs
KnownFields k fs Begin = AllPlain fs
KnownFields k fs (Commit n) = AllPlain fs
KnownFields k fs Report = (k ≡ word.Report) × (length fs ≡ 1)
KnownFields k fs (Explain text) = (k ≡ word.Explain) × (length fs ≡ 2)
KnownFields k fs c = ⊤

-- what a log makes of an accepted command
abbrev pub effect_for : Command → Effect
effect_for (Make x) = effect.Change
effect_for Begin = effect.Begin
effect_for (Commit count) = effect.Commit
effect_for Abort = effect.Abort
effect_for Compact = effect.Compact
effect_for _ = effect.Nothing

-- what is known of a word, its text, the fields after it, and the command that they are read as
abbrev Fits : Word → Field → List Field → Command → Type 0
Fits k w fs c = Recorded c × KnownFields k (w ∷ fs) c × (effect_by k (suc (length fs) == 1) ≡ effect_for c)

abbrev IsChange : Word → Type 0
IsChange k = (alone : Bool) → effect_by k alone ≡ effect.Change

edit_fits : (k : Word) (w : Field) (r : List Field → Read Edit) → Plain w → IsChange k → ((fs : List Field) → IfOk (r fs) (EditOf fs)) →
    (fs : List Field) → IfOk (edit (r fs)) (Fits k w fs)
edit_fits k w r p is h fs =
    given (Fits k w fs) (EditOf fs) (Ok (λ x. Make (On_map x))) (r fs) (h fs) (λ e m. (m.0, (p, m.1), is _))

any_passes : {A : Type 0} (x : Read A) → IfOk x (λ _. ⊤)
any_passes (Ok a) = tt
any_passes (Err f) = tt

abbrev few : ℕ → Read ℕ
few n = value_or_fault (nat_le n 10000) n

-- commands of whose values nothing is known
module _ (P : List Field → Command → Type 0) where
  pub all_asked : {A : Type 0} (g : A → Command) (r : Field → Read A) → ((f : Field) (a : A) → P (f ∷ []) (g a)) →
      (fs : List Field) → IfOk (one g r fs) (P fs)
  all_asked g r h fs = one_passes P (λ _ _. ⊤) g r (λ f. any_passes (r f)) (λ f a _. h f a) fs

  pub all_alone : (c : Command) → P [] c → (fs : List Field) → IfOk (none c fs) (P fs)
  all_alone c h [] = h
  all_alone c h fs = tt

  pub all_depend : ((fs : List Field) (nodes : List ℕ) → P fs (Depends nodes)) → (fs : List Field) →
      IfOk (depends_record fs) (P fs)
  all_depend h [] = tt
  all_depend h (f ∷ fs) =
      two (P (f ∷ fs)) (λ _. ⊤) (λ _. ⊤) (Ok (λ n nodes. Depends nodes)) (few (length (f ∷ fs))) (numbers (f ∷ fs))
      (any_passes (few (length (f ∷ fs)))) (any_passes (numbers (f ∷ fs))) (λ n _ nodes _. h (f ∷ fs) nodes)

  pub all_ambiguous : ((fs : List Field) (n : Option (List ℕ)) → P fs (Ambiguous n)) → (fs : List Field) →
      IfOk (ambiguous_record fs) (P fs)
  all_ambiguous h [] = h [] None
  all_ambiguous h (f ∷ fs) = all_asked (λ n. Ambiguous (Some n)) name (λ g n. h (g ∷ []) (Some n)) (f ∷ fs)

path_fits : (k : Word) (w : Field) (g : List ℕ → Path → Change) → Plain w → IsChange k →
    ((n : List ℕ) (p : Path) → IsTrue (is_named_path n p) → IsTrue (has_record (g n p))) → (fs : List Field) →
    IfOk (path_record g fs) (Fits k w fs)
path_fits k w g p is h fs =
    given (Fits k w fs) (PathOf fs) (Ok (λ q. Make (g q.0 q.1))) (path_fields fs) (path_fields_pass fs)
    (λ q m. (h q.0 q.1 m.0, (p, m.1), is _))

margin_fits : (fs : List Field) → IfOk (margin_record fs) (Fits word.SetMargin (codes "margin") fs)
margin_fits (r ∷ c ∷ []) =
    two (Fits word.SetMargin (codes "margin") (r ∷ c ∷ [])) (AtMost 1000 r) (AtMost 7 c) (Ok (λ r c. Make (Set_margin (record { routes = r; classes = c }))))
    (digits 0 1000 r) (class c) (at_most 1000 r) (at_most 7 c) (λ r h c k. ((λ i. h.0 i && k.0 i), (refl, (h.1, (k.1, tt))), refl))
margin_fits fs = tt

-- ---- what a record is read as

module _ (P : Word → Field → List Field → Command → Type 0) where
  abbrev pub AllHold : List (Field × Word) → Type 0
  AllHold ws = AllByRecursion (λ r. (fs : List Field) → IfOk (read_as r.1 fs) (P r.1 r.0 fs)) ws

  chosen : (b : Bool) (v w : Field) (k l : Word) (fs : List Field) → bytes_eq w v ≡ b → IfOk (read_as k fs) (P k v fs) →
      IfOk (read_as l fs) (P l w fs) → IfOk (read_as (if b then k else l) fs) (P (if b then k else l) w fs)
  chosen true v w k l fs e h g = subst (λ (u : Field). IfOk (read_as k fs) (P k u fs)) (sym (same_text w v e)) h
  chosen false v w k l fs e h g = g

  by_words : (ws : List (Field × Word)) → AllHold ws → (w : Field) (fs : List Field) →
      IfOk (read_as (word_in ws w) fs) (P (word_in ws w) w fs)
  by_words [] h w fs = tt
  by_words (r ∷ rs) h w fs =
      chosen (bytes_eq w r.0) r.0 w r.1 (word_in rs w) fs refl (h.0 fs) (by_words rs h.1 w fs)

words_fit : AllHold Fits words
words_fit =
    edit_fits word.Line (codes "line") line_record refl (λ _. refl) line_record_passes
    also edit_fits word.Node (codes "node") (node_record Add_node) refl (λ _. refl) (node_record_passes Add_node (λ n c h. h))
    also all_asked (Fits word.Explain (codes "explain")) Explain (λ f. Ok f) (λ f n. (tt, (refl, refl), refl))
    also edit_fits word.SetLine (codes "set-line") set_line_record refl (λ _. refl) set_line_record_passes
    also edit_fits word.Move (codes "move") (node_record Move_node) refl (λ _. refl) (node_record_passes Move_node (λ n c h. h))
    also edit_fits word.DropLine (codes "drop-line") (one Drop_line number) refl (λ _. refl)
    (one_passes EditOf (Ranged 1 max32) Drop_line number (ranged 1 max32) (λ f n h. (h.0, (h.1, tt))))
    also edit_fits word.DropNode (codes "drop-node") (one Drop_node number) refl (λ _. refl)
    (one_passes EditOf (Ranged 1 max32) Drop_node number (ranged 1 max32) (λ f n h. (h.0, (h.1, tt))))
    also path_fits word.Path (codes "path") Add_path refl (λ _. refl) (λ n p h. h)
    also all_alone (Fits word.Begin (codes "begin")) Begin (tt, (refl, tt), refl)
    also all_alone (Fits word.Abort (codes "abort")) Abort (tt, tt, refl)
    also path_fits word.SetPath (codes "repath") Set_path refl (λ _. refl) (λ n p h. h)
    also one_passes (Fits word.Commit (codes "commit")) (AtMost max32) Commit amount (at_most max32) (λ f n h. (tt, (refl, (h.1, tt)), refl))
    also one_passes (Fits word.DropPath (codes "drop-path")) NameOf (λ n. Make (Drop_path n)) name name_of
    (λ f n h. (h.0, (refl, (h.1, tt)), refl))
    also all_asked (Fits word.Show (codes "show")) Show name (λ f n. (tt, tt, refl))
    also all_asked (Fits word.ShowNode (codes "show-node")) Show_node number (λ f n. (tt, tt, refl))
    also all_asked (Fits word.ShowLine (codes "show-line")) Show_line number (λ f n. (tt, tt, refl))
    also all_depend (Fits word.Depends (codes "depends")) (λ fs nodes. (tt, tt, refl))
    also all_alone (Fits word.Report (codes "report")) Report (tt, (refl, refl), refl)
    also all_alone (Fits word.Dump (codes "dump")) Dump (tt, tt, refl)
    also all_alone (Fits word.Compact (codes "compact")) Compact (tt, tt, refl)
    also all_alone (Fits word.Preview (codes "preview")) Preview (tt, tt, refl)
    also all_ambiguous (Fits word.Ambiguous (codes "ambiguous")) (λ fs n. (tt, tt, refl))
    also margin_fits
    also all_alone (Fits word.ShowMargin (codes "show-margin")) Show_margin (tt, tt, refl)
    also tt

pub read_is : (fs : List Field) → read fs ≡ read_as (word_of fs) (drop 1 fs)
read_is [] = refl
read_is (f ∷ fs) = refl

fits : (w : Field) (fs : List Field) (c : Command) → read (w ∷ fs) ≡ Ok c → Fits (word_in words w) w fs c
fits w fs c e = IfOk-at_ok (Fits (word_in words w) w fs) e (by_words Fits words words_fit w fs)

pub read_recorded : (fields : List Field) (c : Command) → read fields ≡ Ok c → Recorded c
read_recorded [] c e = absurd cc
read_recorded (w ∷ fs) c e = (fits w fs c e).0

pub known_fields : (fields : List Field) (c : Command) → read fields ≡ Ok c → KnownFields (word_of fields) fields c
known_fields [] c e = absurd cc
known_fields (w ∷ fs) c e = (fits w fs c e).1

pub effect_read : (w : Field) (fs : List Field) (c : Command) → read (w ∷ fs) ≡ Ok c → word_effect (w ∷ fs) ≡ effect_for c
effect_read w fs c e = (fits w fs c e).2

-- a record that decodes to `report` is this word alone
pub report_record : (fs : List Field) → length fs ≡ 1 → word_of fs ≡ word.Report → read fs ≡ Ok Report
report_record (w ∷ []) one e = rw e refl
report_record fs one e = absurd (omega arith)

pub report_is : (fs : List Field) → read fs ≡ Ok Report → (word_of fs ≡ word.Report) × (length fs ≡ 1)
report_is fs e = known_fields fs Report e

-- one that decodes to `explain` is this word and the text
pub explain_record : (fs : List Field) → length fs ≡ 2 → word_of fs ≡ word.Explain →
    read fs ≡ Ok (Explain (slice_index_or fs 1 []))
explain_record (w ∷ t ∷ []) two e = rw e refl
explain_record fs two e = absurd (omega arith)

pub explain_is : (fs : List Field) (text : Field) → read fs ≡ Ok (Explain text) →
    (word_of fs ≡ word.Explain) × (length fs ≡ 2)
explain_is fs text e = known_fields fs (Explain text) e

-- ---- its coordinates are in range

place_coord : (p : Coord) → IsTrue (is_place p) → IsTrue (is_coord p)
place_coord p h = (and_parts (is_coord p) _ h).0

attributes_coords : (frc fow len : ℕ) (ss : List ShapePoint) → IsTrue (are_attributes frc fow len ss) →
    IsTrue (are_coords ss)
attributes_coords frc fow len ss h = grind (arith, all_weaker, place_coord, and_parts)

edit_coords : (e : Edit) → IsTrue (has_record (On_map e)) → HasCoord e
edit_coords (Add_node v p) h = place_coord p (and_parts (is_number v) (is_place p) h).1
edit_coords (Move_node v p) h = place_coord p (and_parts (is_number v) (is_place p) h).1
edit_coords (Add_line x l) h = grind (arith, attributes_coords, and_parts)
edit_coords (Set_line x frc fow len ss) h = grind (arith, attributes_coords, and_parts)
edit_coords e h = tt

coords : (c : Command) → Recorded c → HasCoords c
coords (Make (On_map e)) h = edit_coords e h
coords (Make (Set_margin g)) h = h
coords c h = tt

pub coords_read : (fields : List Field) (c : Command) → read fields ≡ Ok c → HasCoords c
coords_read fields c e = coords c (read_recorded fields c e)
