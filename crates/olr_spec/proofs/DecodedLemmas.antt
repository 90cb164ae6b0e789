-- The coordinates that the LRPs of an answer are decoded as.
use Rattle.olr_spec.proofs.Common.{Margin, ◌≡◌, ℕ, zero, suc, ◌+◌, ◌*◌, ℤ, pos, ◌<ℤ◌, ◌-ℤ◌, true, List, ◌∷◌, ◌++◌, length, take}
use Rattle.olr_spec.proofs.Common.{map, ◌<◌, ◌≤◌, Some, None, IsTrue, refl, ap, ◌∙◌, arith, [], ◌-◌, nat_abs, le-leb}
use Rattle.olr_spec.proofs.Common.{slice_index, ints, abs24, relative, Map, has, Path, is_path, extended_path, Leg, Middle}
use Rattle.olr_spec.proofs.Common.{Reference, legs, position, first_kept, last_kept, kept_points, last_two, middle_points_with}
use Rattle.olr_spec.proofs.Common.{reference_by_kept_with, reference_by_with, last_point, Last, from_front, to_back, Points}
use Rattle.olr_spec.proofs.Common.{path_fault, EncodingWith, decoded_bound, IsNear, ◌+ℤ◌, cond-true, from_abs24, nearest}
use Rattle.olr_spec.proofs.Common.{from_rel16, middle_point_with, steps_sum, decoded}
use Rattle.olr_spec.proofs.Facts.{has_cases, two_kept, LinkedWith, follow_linked_with, kept_linked_with}
use Rattle.olr_spec.proofs.FitLemmas.{kept_ends, extended_sound, answered}

-- ---- one rounding

-- a and b are less than n apart
record Close (n : ℕ) (a b : ℤ) : Type 0 where
  below : a <ℤ (b +ℤ pos n)
  above : b <ℤ (a +ℤ pos n)

close_abs : (n : ℕ) (a b : ℤ) → Close n a b → nat_abs (a -ℤ b) < n
close_abs n a b c = grind (arith, ints)

-- a coordinate and the 24-bit step that it is rounded to
close24 : (z : ℤ) → Close 7031250 (from_abs24 (abs24 z)) z
close24 z = grind (arith, ints)

-- a difference and its relative value are at most half a relative step apart
close16 : (z : ℤ) → Close 1638401 (from_rel16 (nearest 1638400 3276800 z)) z
close16 z = grind (arith, ints)

-- ---- sums of relative values

-- the relative values from h to the first of ks, from there to the second, and so on; f is a coordinate of each
abbrev relatives : (ℕ → ℤ) → ℕ → List ℕ → List ℤ
relatives f h [] = []
relatives f h (i ∷ ks) = relative (f h) (f i) ∷ relatives f i ks

close_on : (f : ℕ → ℤ) (n h k : ℕ) (ks : List ℕ) (a : ℤ) → Close n a (f h) → k ≤ length ks →
    Close (n + k * 1638400) (a +ℤ steps_sum (take k (relatives f h ks))) (f (slice_index (h ∷ ks) k))
close_on f n h zero ks a c le = record { below = omega (arith, ints); above = omega (arith, ints) }
close_on f n h (suc k) [] a c le = absurd (omega arith)
close_on f n h (suc k) (i ∷ ks) a c le =
    let r = from_rel16 (relative (f h) (f i)) in
    let near : Close 1638401 r (f i -ℤ f h) = close16 (f i -ℤ f h) in
    let rest = close_on f (n + 1638400) i k ks (a +ℤ r)
    (record { below = omega (arith, ints); above = omega (arith, ints) }) (omega arith) in
    record { below = omega (arith, ints); above = omega (arith, ints) }

-- ---- the fields of a reference

-- by one of the two axes
relatives_of : (g : Margin) (gs : List Leg) (f : ℕ → ℤ) (d : Middle → ℤ) (e : Last → ℤ) →
    ((h i j : ℕ) → d (middle_point_with g gs h i j) ≡ relative (f h) (f i)) →
    ((h i : ℕ) → e (last_point gs h i) ≡ relative (f h) (f i)) → (h i : ℕ) (js : List ℕ) →
    map d (middle_points_with g gs h i js) ++ e (last_point gs (last_two h i js).0 (last_two h i js).1) ∷ []
    ≡ relatives f h (i ∷ js)
relatives_of g gs f d e p q h i [] = λ n. q h i n ∷ []
relatives_of g gs f d e p q h i (j ∷ js) = λ n. p h i j n ∷ relatives_of g gs f d e p q i j js n

pub middle_count : (g : Margin) (gs : List Leg) (h i : ℕ) (js : List ℕ) → length (middle_points_with g gs h i js) ≡ length js
middle_count g gs h i [] = refl
middle_count g gs h i (j ∷ js) = ap suc (middle_count g gs i j js)

near_of : (g : Margin) (gs : List Leg) (p q h i : ℕ) (js : List ℕ) (k : ℕ) → k ≤ length (i ∷ js) → (d : ℤ × ℤ)
    × (decoded (reference_by_kept_with g gs p q h i js) k ≡ Some d) × IsNear k d (position gs (slice_index (h ∷ i ∷ js) k))
near_of g gs p q h i js k le =
    let r = reference_by_kept_with g gs p q h i js in
    let near = λ (f : ℕ → ℤ). close_abs (decoded_bound k) _ (f (slice_index (h ∷ i ∷ js) k))
    (close_on f 7031250 h k (i ∷ js) (from_abs24 (abs24 (f h))) (close24 (f h)) le) in (
      _,
      cond-true _ _ _ (le-leb k (length r.middle + 1) (omega (arith, middle_count g gs h i js))),
      record {
        lon = rw (relatives_of g gs (λ n. (position gs n).lon) (λ m. m.dlon) (λ l. l.dlon) (λ _ _ _. refl) (λ _ _. refl) h i js)
            (near (λ n. (position gs n).lon));
        lat = rw (relatives_of g gs (λ n. (position gs n).lat) (λ m. m.dlat) (λ l. l.dlat) (λ _ _ _. refl) (λ _ _. refl) h i js)
            (near (λ n. (position gs n).lat));
      },
    )

-- ---- the LRPs of an answer

-- a list with two different numbers has two elements
pub two_of : (ks : List ℕ) (a b : ℕ) → has ks a ≡ true → has ks b ≡ true → a < b → (h i : ℕ) × (js : List ℕ) × (ks ≡ h ∷ i ∷ js)
two_of [] a b p q lt = absurd cc
two_of (h ∷ []) a b p q lt = grind (arith, has_cases)
two_of (h ∷ i ∷ js) a b p q lt = (h, i, js, refl)

-- what is decoded for the LRPs ks: one coordinate for each, near its own
pub record Decodes (gs : List Leg) (ks : List ℕ) (r : Reference) : Type 0 where
  pub count : length r.middle + 2 ≡ length ks
  pub near : (k : ℕ) → k < length ks → (d : ℤ × ℤ) × (decoded r k ≡ Some d) × IsNear k d (position gs (slice_index ks k))

-- at least two LRPs remain, h, i and js, and the reference is that of these
pub record Form (g : Margin) (M : Map) (ls ks : List ℕ) (p q : ℕ) (r : Reference) : Type 0 where
  pub h : ℕ
  pub i : ℕ
  pub js : List ℕ
  pub kept : ks ≡ h ∷ i ∷ js
  pub linked : LinkedWith g M ls (h ∷ i ∷ js)
  pub fields_are : r ≡ reference_by_kept_with g (legs M ls) p q h i js

module _ {g : Margin} (M : Map) (P : Path) (is : IsTrue (is_path P.lines)) (none : path_fault M P ≡ None) (r : Reference)
    (e : EncodingWith g M P (Points r)) where
  -- the extended path, its LRPs, those that remain, and what remains of the offsets
  abbrev pub E : Path
  E = extended_path M P e.before e.after

  abbrev pub Kept : List ℕ
  Kept = kept_points (legs M E.lines) E.pos E.neg e.points

  abbrev pub Front : ℕ
  Front = E.pos - from_front (legs M E.lines) (first_kept (legs M E.lines) E.pos e.points)

  abbrev pub Back : ℕ
  Back = E.neg - to_back (legs M E.lines) (last_kept (legs M E.lines) E.neg e.points)

  pub form : Form g M E.lines Kept Front Back r
  form =
      let gs = legs M E.lines in
      let a = first_kept gs E.pos e.points in
      let b = last_kept gs E.neg e.points in
      let s = extended_sound M P is none e.before e.after e.tried in
      let ans = answered g M E e.points r e.holds in
      let ends = kept_ends g M E.lines e.points E.pos E.neg e.follow ans.0 s.long in
      let t = two_of Kept a b ends.0 ends.1 (two_kept g M E.lines e.points E.pos E.neg e.follow ans.0 s.long) in
      let fields_are : r ≡ reference_by_kept_with g gs Front Back t.0 t.1 t.2 = ans.1 ∙ ap (reference_by_with g gs Front Back) t.3 in
      grind (arith, kept_linked_with g M E.lines a b (0 ∷ e.points) (follow_linked_with g M E.lines 0 e.points e.follow))

  pub answer_decodes : Decodes (legs M E.lines) Kept r
  answer_decodes = coe 1 0 (i. Decodes (legs M E.lines) (form.kept i) (form.fields_are i))
      (record {
        count = omega (arith, middle_count g (legs M E.lines) form.h form.i form.js);
        near = λ k lt. near_of g (legs M E.lines) Front Back form.h form.i form.js k (omega arith);
      })
