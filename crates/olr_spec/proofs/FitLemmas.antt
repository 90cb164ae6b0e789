-- The fields of an answer's reference fit, so it can be encoded as bytes.
use Rattle.olr_spec.proofs.Common.{answer_by_points_with, middle_points_with, reference_by_with, div-lt_iff_lt-mul, taken_start}
use Rattle.olr_spec.proofs.Common.{reference_with, AllByRecursion, length-append, extended_path, last_position, CandidateWith}
use Rattle.olr_spec.proofs.Common.{EncodingWith, scaled_coord, kept_points, EncodesWith, IsReference, slice_range, first_where}
use Rattle.olr_spec.proofs.Common.{get_or_past, length-map, from_start, FollowWith, dm_between, from_front, is_path, first_kept}
use Rattle.olr_spec.proofs.Common.{path_fault, cases_Bool, last_where, attrs_with, last_point, get_or-map, last_two, leb-false}
use Rattle.olr_spec.proofs.Common.{cond_both, taken_end, Reference, last_kept, and_parts, nat_tests, eqb-true, subst, IsMiddle}
use Rattle.olr_spec.proofs.Common.{take-map, drop-map, ltb-true, cases_lt, and_from, is_coord, relative, coord_at, ap, position}
use Rattle.olr_spec.proofs.Common.{dm_along, AreAttrs, take-add, to_back, line_at, node_at, stretch, bearing, Margin, length}
use Rattle.olr_spec.proofs.Common.{IsTrue, nat_le, Points, IfSome, fits16, no_leg, leg_at, offset, IsLast, fits24, legs, Scaled}
use Rattle.olr_spec.proofs.Common.{sector, arith, IsMap, dm_of, Tried, false, Coord, abs24, true, List, None, Path, ◌≡◌, Bool}
use Rattle.olr_spec.proofs.Common.{take, drop, Some, ◌==◌, fold, ints, zero, ◌+◌, ◌-◌, ◌∷◌, ◌<◌, ◌≤◌, sym, ◌∙◌, Map, has, leg}
use Rattle.olr_spec.proofs.Common.{◌*◌, ◌/◌, max, min, map, Leg, pos, [], ℕ, ℤ, AnswerLaws, LawOf}
use Rattle.olr_spec.proofs.Facts.{follow_linked_with, kept_linked_with, dm_along-append, StartRun-known, path_nonempty, or_None}
use Rattle.olr_spec.proofs.Facts.{dm_along-legs, dm_of-append, EndRun-known, front_within, Each-append, sound_lines, has_filter}
use Rattle.olr_spec.proofs.Facts.{back_within, filter_has, LinkedWith, between_is, Each-range, last_index, Each-from, has_there}
use Rattle.olr_spec.proofs.Facts.{has_cases, Each-cons, Each-head, Each-tail, has_index, has_here, by_fault, two_kept, Each-nil}
use Rattle.olr_spec.proofs.Facts.{between, Known, whole, Each}
use Rattle.olr_spec.proofs.PointMoves.{Each-cond}
use Rattle.olr_spec.proofs.SectorLemmas.{sector_is, le_test, le_yes}
use Rattle.olr_spec.specs.Reference as fields

-- ---- which LRPs remain

-- each LRP is the first of them or after it
pub linked_above : (g : Margin) (M : Map) (ls : List ℕ) (p : ℕ) (ks : List ℕ) → LinkedWith g M ls (p ∷ ks) → Each (λ k. p ≤ k) (p ∷ ks)
linked_above g M ls p [] l = Each-cons (λ k. p ≤ k) p [] (omega arith) (Each-nil (λ k. p ≤ k))
linked_above g M ls p (q ∷ ks) l = grind (arith, Each-cons, (linked_above g M ls q ks l.1))

pub linked_last : (g : Margin) (M : Map) (ls : List ℕ) (p q : ℕ) (ks : List ℕ) → LinkedWith g M ls (p ∷ q ∷ ks) →
    Each (λ k. k ≤ (last_two p q ks).1) (p ∷ q ∷ ks)
linked_last g M ls p q [] l = grind (arith, Each-cons, Each-nil)
linked_last g M ls p q (r ∷ ks) l = grind (arith, linked_last g M ls q r ks l.1, Each-cons, has_here q (r ∷ ks))

pub has_last_two : (p q : ℕ) (ks : List ℕ) → (has (p ∷ q ∷ ks) (last_two p q ks).0 ≡ true)
    × (has (p ∷ q ∷ ks) (last_two p q ks).1 ≡ true)
has_last_two p q [] = (has_here p (q ∷ []), has_there p (q ∷ []) q (has_here q []))
has_last_two p q (r ∷ ks) = grind (arith, has_there, (has_last_two q r ks))

pub last_two_linked : (g : Margin) (M : Map) (ls : List ℕ) (p q : ℕ) (ks : List ℕ) → LinkedWith g M ls (p ∷ q ∷ ks) →
    CandidateWith g M ls (last_two p q ks).0 (last_two p q ks).1
last_two_linked g M ls p q [] l = l.0
last_two_linked g M ls p q (r ∷ ks) l = last_two_linked g M ls q r ks l.1

pub has_last_where : (test : ℕ → Bool) (d : ℕ) (xs : List ℕ) → has (d ∷ xs) (last_where test d xs) ≡ true
has_last_where test d [] = has_here d []
has_last_where test d (x ∷ xs) =
    grind (arith, cond_both, has_there, has_cases, has_here, (has_last_where test x xs), (has_last_where test d xs))

at_least : (g : Margin) (M : Map) (ls : List ℕ) (test : ℕ → Bool) (d q : ℕ) (ks : List ℕ) → LinkedWith g M ls (q ∷ ks) → d ≤ q →
    d ≤ last_where test d (q ∷ ks)
at_least g M ls test d q ks l h =
    grind (arith, (has_cases d (q ∷ ks) (last_where test d (q ∷ ks)) (has_last_where test d (q ∷ ks))), linked_above)

-- after the last that passes, none passes
pub none_after : (g : Margin) (M : Map) (ls : List ℕ) (test : ℕ → Bool) (d p : ℕ) (ks : List ℕ) → LinkedWith g M ls (p ∷ ks) → d ≤ p →
    (k : ℕ) → has (p ∷ ks) k ≡ true → last_where test d (p ∷ ks) < k → test k ≡ false
none_after g M ls test d p [] l h k i lt = grind (arith, has_cases, cond_both)
none_after g M ls test d p (q ∷ ks) l h k i lt =
    let here = none_after g M ls test p q ks l.1 in
    let there = none_after g M ls test d q ks l.1 in
    grind (arith, cases_Bool (test p), has_cases p (q ∷ ks) k i, at_least g M ls test p q ks l.1)

-- before the first that passes, none passes
pub none_before : (g : Margin) (M : Map) (ls : List ℕ) (test : ℕ → Bool) (d p : ℕ) (ks : List ℕ) → LinkedWith g M ls (p ∷ ks) → (k : ℕ) →
    has (p ∷ ks) k ≡ true → k < first_where test d (p ∷ ks) → test k ≡ false
none_before g M ls test d p [] l k i lt = grind (arith, has_cases, cond_both)
none_before g M ls test d p (q ∷ ks) l k i lt =
    let here = none_before g M ls test d q ks l.1 k in
    grind (arith, cases_Bool (test p), has_cases p (q ∷ ks) k i, linked_above g M ls p (q ∷ ks) l k)

-- ---- parts

pub sector_below : (e n : ℤ) → sector e n < 32
sector_below (pos zero) (pos zero) = omega arith
sector_below e n = (sector_is e n (λ p. absurd (omega (arith, ints, p.0, p.1)))).0

bearing_below : (o : Coord) (s : Scaled) → bearing o s < 32
bearing_below o s = grind (arith, sector_below)

-- ---- lines with the coordinates of their ends

record IsLeg (g : Leg) : Type 0 where
  frc : g.line.frc < 8
  fow : g.line.fow < 8
  begin : IsTrue (is_coord g.begin)
  finish : IsTrue (is_coord g.finish)

module _ (M : Map) (m : IsMap M) (ls : List ℕ) (known : Each (Known M) ls) where
  leg_at_good : (i : ℕ) → IsLeg (leg_at (legs M ls) i)
  leg_at_good i =
      let here = get_or-map (leg M) ls i 0 no_leg in
      let there = get_or_past (legs M ls) i no_leg in
      grind (arith, has_index ls i, length-map ls (leg M), cases_lt i (length ls))

  position_good : (i : ℕ) → IsTrue (is_coord (position (legs M ls) i))
  position_good i = grind (arith, leg_at_good)

  pub first_fits : (i : ℕ) → IsTrue (fits24 (abs24 (position (legs M ls) i).lon))
      × IsTrue (fits24 (abs24 (position (legs M ls) i).lat))
  first_fits i = grind (arith, and_parts, le_yes, and_from, le_test, position_good i)

  -- ---- parts of the list of lines

  pub range_legs : (i j : ℕ) → slice_range (legs M ls) i j ≡ legs M (stretch ls i j)
  range_legs i j = ap (take (j - i)) (drop-map (leg M) i ls) ∙ take-map (leg M) (j - i) (drop i ls)

  pub dm_same : (i j : ℕ) → dm_between (legs M ls) i j ≡ dm_of M (stretch ls i j)
  dm_same i j = ap dm_along (range_legs i j) ∙ dm_along-legs M (stretch ls i j)

  greatest_below : (a : ℕ) (xs : List ℕ) → Each (Known M) xs → a < 8 →
      fold max a (map (λ (g : Leg). g.line.frc) (legs M xs)) < 8
  greatest_below a [] h lt = lt
  greatest_below a (x ∷ xs) h lt = grind (arith, Each-tail, Each-head, nat_tests, and_parts, (greatest_below (max a (line_at M x).frc) xs (Each-tail (Known M) x xs h)))

  -- ---- positions

  pub position_is : (i : ℕ) → 0 < length ls → position (legs M ls) i ≡ coord_at M (node_at M ls i)
  position_is i n = grind (arith, length-map, get_or-map, ltb-true, last_index)

-- with a margin
module _ (g : Margin) (M : Map) (m : IsMap M) (ls : List ℕ) (known : Each (Known M) ls) where
  pub attrs_fit : (i j : ℕ) → CandidateWith g M ls i j → AreAttrs (attrs_with g (legs M ls) i j)
  attrs_fit i j c =
      let here = greatest_below M m ls known 0 (stretch ls i j) (Each-range (Known M) ls i j known) in
      let there = bearing_below (leg_at (legs M ls) i).begin
      (scaled_coord (leg_at (legs M ls) i) (min 200 (leg_at (legs M ls) i).line.len)) in
      grind (arith, dm_same M m ls known i j, leg_at_good M m ls known i, range_legs M m ls known i j)

  relative_fits : (i j : ℕ) → 0 < length ls → CandidateWith g M ls i j →
      IsTrue (fits16 (relative (position (legs M ls) i).lon (position (legs M ls) j).lon))
      × IsTrue (fits16 (relative (position (legs M ls) i).lat (position (legs M ls) j).lat))
  relative_fits i j n c = grind (arith, position_is M m ls known, and_parts)

  pub middles_fit : (h i : ℕ) (js : List ℕ) → 0 < length ls → LinkedWith g M ls (h ∷ i ∷ js) →
      AllByRecursion IsMiddle (middle_points_with g (legs M ls) h i js)
  middles_fit h i [] n l = tt
  middles_fit h i (j ∷ js) n l = grind (arith, relative_fits h i n l.0, attrs_fit i j l.1.0, middles_fit i j js n l.1)

  pub last_fits : (h i : ℕ) → 0 < length ls → CandidateWith g M ls h i → IsLast (fields.last_point (legs M ls) h i)
  last_fits h i n c = grind (arith, relative_fits h i n c, leg_at_good M m ls known (i - 1), bearing_below)

-- ---- offsets

pub offset_fits : (left stretch : ℕ) → left < stretch → IfSome (offset left stretch) (λ n. n < 256)
offset_fits left stretch h =
    cond_both (left == 0) None (Some (256 * left / stretch)) (λ o. IfSome o (λ n. n < 256)) (λ _. tt)
    (λ _. (div-lt_iff_lt-mul (omega arith)).1 (omega arith))

-- the length from the start to j is that to i and that from i to j
pub from_front-add : (gs : List Leg) (i j : ℕ) → i ≤ j → from_front gs j ≡ from_front gs i + dm_between gs i j
from_front-add gs i j h = grind (arith, take-add i (j - i) gs, dm_along-append (take i gs) (take (j - i) (drop i gs)))

-- ---- all fields

module _ (g : Margin) (M : Map) (m : IsMap M) (ls : List ℕ) (known : Each (Known M) ls) (n : 0 < length ls)
    (positive negative a b : ℕ) (two : a < b)
    (front : from_front (legs M ls) a ≤ positive) (back : to_back (legs M ls) b ≤ negative) where
  by_kept : (ks : List ℕ) → LinkedWith g M ls ks → has ks a ≡ true → has ks b ≡ true → Each (λ k. a ≤ k) ks → Each (λ k. k ≤ b) ks
      → Each (λ k. a < k → positive < from_front (legs M ls) k) ks → Each (λ k. k < b → negative < to_back (legs M ls) k) ks
      → IsReference (reference_by_with g (legs M ls) (positive - from_front (legs M ls) a) (negative - to_back (legs M ls) b) ks)
  by_kept [] l ha hb above below after before = absurd cc
  by_kept (h ∷ []) l ha hb above below after before = grind (arith, has_cases h [] a ha, has_cases h [] b hb)
  by_kept (h ∷ i ∷ ks) l ha hb above below after before =
      let gs = legs M ls in
      let t = last_two h i ks in
      let c = last_two_linked g M ls h i ks l in
      let hx = has_last_two h i ks in
      let first : h ≡ a = omega (arith, linked_above g M ls h (i ∷ ks) l a ha, above h (has_here h (i ∷ ks))) in
      let last : t.1 ≡ b = omega (arith, linked_last g M ls h i ks l b hb, below t.1 hx.1) in
      let far = after i (has_there h (i ∷ ks) i (has_here i ks)) (omega arith) in
      let far_back = before t.0 hx.0 (omega arith) in
      record {
        first = grind (arith, first_fits M m ls known h, attrs_fit g M m ls known h i l.0);
        middle = middles_fit g M m ls known h i ks n l;
        last = last_fits g M m ls known t.0 t.1 n c;
        pos = offset_fits (positive - from_front gs a) (dm_between gs h i)
            (omega (arith, ap (from_front gs) first, from_front-add gs h i (omega arith)));
        neg = offset_fits (negative - to_back gs b) (dm_between gs t.0 t.1)
            (omega (arith, ap (to_back gs) last, from_front-add gs t.0 t.1 (omega arith), whole gs t.0, whole gs t.1));
      }

-- the first and the last LRP by the offsets are among those that remain
pub kept_ends : (g : Margin) (M : Map) (ls js : List ℕ) (positive negative : ℕ) → FollowWith g M ls 0 js → last_position 0 js ≡ length ls →
    positive + negative < dm_of M ls
    → (has (kept_points (legs M ls) positive negative js) (first_kept (legs M ls) positive js) ≡ true)
    × (has (kept_points (legs M ls) positive negative js) (last_kept (legs M ls) negative js) ≡ true)
kept_ends g M ls js positive negative f e less =
    let here = two_kept g M ls js positive negative f e less in
    grind (arith, has_last_where, back_within, filter_has, has_here 0 js, has_cases 0 (0 ∷ js), length-map ls (leg M))

pub reference_fits_with : (g : Margin) (M : Map) → IsMap M → (ls : List ℕ) → Each (Known M) ls → 0 < length ls →
    (js : List ℕ) (positive negative : ℕ) → FollowWith g M ls 0 js → last_position 0 js ≡ length ls → positive + negative < dm_of M ls
    → IsReference (reference_with g (legs M ls) positive negative js)
reference_fits_with g M m ls known n js positive negative f e less =
    let gs = legs M ls in
    let a = first_kept gs positive js in
    let b = last_kept gs negative js in
    let l = follow_linked_with g M ls 0 js f in
    let two = two_kept g M ls js positive negative f e less in
    let ends = kept_ends g M ls js positive negative f e less in
    let back = (back_within gs negative js (e ∙ sym (length-map ls (leg M)))).1 in
    let kept = has_filter (between a b) (0 ∷ js) in
    let after = none_after g M ls (λ i. nat_le (from_front gs i) positive) 0 0 js l in
    let before = none_before g M ls (λ i. nat_le (to_back gs i) negative) 0 0 js l in
    by_kept g M m ls known n positive negative a b two (front_within gs positive js) back (kept_points gs positive negative js)
    (kept_linked_with g M ls a b (0 ∷ js) l) ends.0 ends.1 (λ k h. grind (arith, kept k h, between_is a b k))
    (λ k h. grind (arith, kept k h, between_is a b k))
    (λ k h lt. grind (arith, kept k h, leb-false (from_front gs k) positive, after (omega arith) k))
    (λ k h lt. grind (arith, kept k h, leb-false (to_back gs k) negative, before k))

-- ---- an answer

pub long_enough : (M : Map) (P : Path) → path_fault M P ≡ None → P.pos + P.neg < dm_of M P.lines
long_enough M P e = grind (arith, or_None, leb-false, cases_Bool)

-- the extended path of a path with an encoding: its lines are on the map, and the offsets leave a part of it
pub record Sound (M : Map) (E : Path) : Type 0 where
  pub known : Each (Known M) E.lines
  pub size : 0 < length E.lines
  pub long : E.pos + E.neg < dm_of M E.lines

pub extended_sound : (M : Map) (P : Path) → IsTrue (is_path P.lines) → path_fault M P ≡ None → (before after : List ℕ) →
    Tried M P before after → Sound M (extended_path M P before after)
extended_sound M P is none before after tried =
    let n = path_nonempty P.lines is in
    let known = Each-from (Known M) P.lines (sound_lines M P none) in
    let b = taken_start M before P.lines in
    let fs = from_start M P before in
    let a = taken_end M fs after in
    let fs_known : Each (Known M) fs =
    Each-append (Known M) b P.lines (Each-cond (Known M) _ before (StartRun-known M before P.lines tried.before.run)) known in
    let less = long_enough M P none in
    record {
      known = Each-append (Known M) fs a fs_known (Each-cond (Known M) _ after (EndRun-known M fs after tried.after.run));
      size = omega (arith, length-append fs a, length-append b P.lines);
      long = omega (arith, dm_of-append M fs a, dm_of-append M b P.lines);
    }

-- an answer with a reference has LRPs up to the end, and the reference is that of these LRPs
pub answered : (g : Margin) (M : Map) (E : Path) (js : List ℕ) (r : Reference) → Points r ≡ answer_by_points_with g M E js →
    (last_position 0 js ≡ length E.lines) × (r ≡ reference_with g (legs M E.lines) E.pos E.neg js)
answered g M E js r h = grind (arith, cond_both, eqb-true)

-- a path whose answer is a reference has no fault, and the reference is its encoding
pub by_answer : {g : Margin} (M : Map) (P : Path) (r : Reference) → EncodesWith g M P (Points r) → (path_fault M P ≡ None) × EncodingWith g M P (Points r)
by_answer M P r = grind (arith, by_fault)

pub encoded_fits : (g : Margin) → LawOf (λ (l : AnswerLaws g). l.answer_fits)
encoded_fits g M m P is r q =
    let x = by_answer M P r q in
    let p = x.1 in
    let E = extended_path M P p.before p.after in
    let s = extended_sound M P is x.0 p.before p.after p.tried in
    let a = answered g M E p.points r p.holds in
    subst IsReference (sym a.1) (reference_fits_with g M m E.lines s.known s.size p.points E.pos E.neg p.follow a.0 s.long)
