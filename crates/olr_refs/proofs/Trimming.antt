-- Which LRPs remain, by the distances of all positions.
use Rattle.olr_refs.proofs.Common.{common_steps, zero, slice_index, last_position, DistancesTo, whole_distance, from_front-add}
use Rattle.olr_refs.proofs.Common.{inl, inr, ◌≡◌, ◌<◌, ◌≤◌, ◌-◌, ◌+◌, suc, [], ◌∷◌, sym, ap, ◌∙◌, Map, leg, ℕ, slice_range}
use Rattle.olr_refs.proofs.Common.{distance_at, length-take, length-drop, get_or-take, get_or-drop, first_where, Bool, cases_lt}
use Rattle.olr_refs.proofs.Common.{cases_eq, nat_tests, last_kept, ArePoints, AreTrimmed, IsLastKept, true, false}
use Rattle.olr_refs.proofs.Common.{cond, List, take, drop, refl, subst, arith, dm_of, legs, later, filter, Margin, length}
use Rattle.olr_refs.proofs.Common.{dm_between, from_front, last_where, first_kept, kept_points, LinkedWith, IsFirstKept, le-leb}
use Rattle.olr_refs.proofs.Common.{take-map, take_all, nat_le, lt-leb, dm_along, to_back, between, AreAlong, AreKept}
use Rattle.olr_refs.proofs.Common.{CandidateWith, reference_with, reference_by_with, AllPairs-from_increasing, kept_linked_with}
use Rattle.olr_spec.proofs.JoinLemmas.{follow_linked_with}
use Rattle.olr_spec.proofs.KeptLemmas.{dm_along-legs, whole}
use Rattle.olr_refs.proofs.Stretches.{distances_rise}

-- ---- the LRPs

-- each of them but the first may follow the one before it
abbrev AreLinked : Margin → Map → List ℕ → List ℕ → Type 0
AreLinked g M ls ps = (k : ℕ) → k + 1 < length ps → CandidateWith g M ls (slice_index ps k) (slice_index ps (k + 1))

linked_at : (g : Margin) (M : Map) (ls ps : List ℕ) → LinkedWith g M ls ps → AreLinked g M ls ps
linked_at g M ls (p ∷ q ∷ ps) l zero h = l.0
linked_at g M ls (p ∷ q ∷ ps) l (suc k) h = grind (arith, linked_at g M ls (q ∷ ps) l.1 k (omega arith))
linked_at g M ls _ l k h = absurd (omega arith)

-- the last two
pub linked_end : (g : Margin) (M : Map) (ls ps : List ℕ) → AreLinked g M ls ps → 2 ≤ length ps →
    CandidateWith g M ls (slice_index ps (length ps - 1 - 1)) (slice_index ps (length ps - 1))
linked_end g M ls ps l h = grind arith

-- neighbours ascend, so all do
linked_less : (g : Margin) (M : Map) (ls ps : List ℕ) → AreLinked g M ls ps → (j k : ℕ) → j < k → k < length ps →
    slice_index ps j < slice_index ps k
linked_less g M ls ps l j k h below = AllPairs-from_increasing ps (λ n i. (l n i).after) j k 0 h below

last_index : (i : ℕ) (js : List ℕ) → slice_index (i ∷ js) (length js) ≡ last_position i js
last_index i [] = refl
last_index i (j ∷ js) = last_index j js

-- the last of them is the end
pub points_end : (g : Margin) (M : Map) (ls ps : List ℕ) → ArePoints g M ls ps → slice_index ps (length ps - 1) ≡ length ls
points_end g M ls ps a = grind (arith, common_steps, nat_tests, last_index)

-- lines with a length are some
pub some_lines : (M : Map) (ls : List ℕ) (n : ℕ) → n < dm_of M ls → 0 < length ls
some_lines M [] n h = absurd (omega arith)
some_lines M (x ∷ ls) n h = omega arith

-- ---- lists of which a middle part passes a test

none_pass : (p : ℕ → Bool) (xs : List ℕ) → ((k : ℕ) → k < length xs → p (slice_index xs k) ≡ false) → filter p xs ≡ []
none_pass p [] h = refl
none_pass p (x ∷ xs) h = rw (h 0 (omega arith)) (none_pass p xs (λ k lt. h (suc k) (omega arith)))

range_passes : (p : ℕ → Bool) (xs : List ℕ) (a n : ℕ) → a + n ≤ length xs →
    ((k : ℕ) → k < a → p (slice_index xs k) ≡ false)
    → ((k : ℕ) → a ≤ k → k < a + n → p (slice_index xs k) ≡ true) →
    ((k : ℕ) → a + n ≤ k → k < length xs → p (slice_index xs k) ≡ false) → filter p xs ≡ take n (drop a xs)
range_passes p xs zero zero h front mid back = none_pass p xs (λ k lt. back k (omega arith) lt)
range_passes p [] a n h front mid back = grind arith
range_passes p (x ∷ xs) zero (suc n) h front mid back =
    rw (mid 0 (omega arith) (omega arith)) (ap (λ (ys : List ℕ). x ∷ ys) (range_passes p xs zero n (omega arith)
    (λ k lt. absurd (omega arith)) (λ k ge lt. mid (suc k) (omega arith) (omega arith))
    (λ k ge lt. back (suc k) (omega arith) (omega arith))))
range_passes p (x ∷ xs) (suc a) n h front mid back =
    rw (front 0 (omega arith)) (range_passes p xs a n (omega arith) (λ k lt. front (suc k) (omega arith))
    (λ k ge lt. mid (suc k) (omega arith) (omega arith)) (λ k ge lt. back (suc k) (omega arith) (omega arith)))

-- the last that passes, and the first
none_last : (p : ℕ → Bool) (d : ℕ) (xs : List ℕ) → ((k : ℕ) → k < length xs → p (slice_index xs k) ≡ false) →
    last_where p d xs ≡ d
none_last p d [] h = refl
none_last p d (x ∷ xs) h = rw (h 0 (omega arith)) (none_last p d xs (λ k lt. h (suc k) (omega arith)))

last_where_at : (p : ℕ → Bool) (d : ℕ) (xs : List ℕ) (a : ℕ) → a < length xs → p (slice_index xs a) ≡ true →
    ((k : ℕ) → a < k → k < length xs → p (slice_index xs k) ≡ false) → last_where p d xs ≡ slice_index xs a
last_where_at p d [] a h t f = absurd (omega arith)
last_where_at p d (x ∷ xs) zero h t f = rw t (none_last p x xs (λ k lt. f (suc k) (omega arith) (omega arith)))
last_where_at p d (x ∷ xs) (suc a) h t f =
    last_where_at p (cond (p x) x d) xs a (omega arith) t (λ k gt lt. f (suc k) (omega arith) (omega arith))

first_where_at : (p : ℕ → Bool) (d : ℕ) (xs : List ℕ) (a : ℕ) → a < length xs → p (slice_index xs a) ≡ true →
    ((k : ℕ) → k < a → p (slice_index xs k) ≡ false) → first_where p d xs ≡ slice_index xs a
first_where_at p d [] a h t f = absurd (omega arith)
first_where_at p d (x ∷ xs) zero h t f = rw t refl
first_where_at p d (x ∷ xs) (suc a) h t f =
    rw (f 0 (omega arith)) (first_where_at p d xs a (omega arith) t (λ k lt. f (suc k) (omega arith)))

-- ---- the remaining LRPs

-- the remaining LRPs, and the remainders of the offsets, give the reference
pub record IsCut (g : Margin) (M : Map) (ls ds ps : List ℕ) (positive negative : ℕ) (ks : List ℕ) (pos_left neg_left : ℕ) : Type
    0 where
  pub are : AreKept g M ls ks
  pub pos_within : pos_left < dm_between (legs M ls) (slice_index ks 0) (slice_index ks 1)
  pub neg_within : neg_left < dm_between (legs M ls) (slice_index ks (length ks - 1 - 1)) (slice_index ks (length ks - 1))
  pub kept : ks ≡ kept_points (legs M ls) positive negative (later ps)
  pub value : reference_by_with g (legs M ls) pos_left neg_left ks ≡ reference_with g (legs M ls) positive negative (later ps)

module _ (g : Margin) (M : Map) (ls ds ps : List ℕ) (d : DistancesTo M ls (length ls) ds) (p : ArePoints g M ls ps) where
  linked : AreLinked g M ls ps
  linked =
      subst (AreLinked g M ls) (sym p.from_start) (linked_at g M ls (0 ∷ later ps) (follow_linked_with g M ls 0 (later ps) p.follow))

  not_above : (j k : ℕ) → j ≤ k → k < length ps → slice_index ps j ≤ slice_index ps k
  not_above j k h below = grind (arith, cases_eq j k, linked_less g M ls ps linked j k)

  upto : (k : ℕ) → k < length ps → slice_index ps k ≤ length ls
  upto k h = grind (arith, points_end, not_above)

  ascend : (j k : ℕ) → j ≤ k → k < length ps → distance_at ds ps j ≤ distance_at ds ps k
  ascend j k h below = distances_rise M ls ds d _ _ (not_above j k h below) (omega (arith, upto k below))

  last_distance : whole_distance ds ≡ slice_index ds (length ls)
  last_distance = let long = d.long in let on : length ds - 1 ≡ length ls = omega arith in ap (slice_index ds) on

  pub points_along : AreAlong ds ps
  points_along =
      record {
        some = let e = p.from_start in grind arith;
        start = ap (λ (qs : List ℕ). distance_at ds qs 0) p.from_start ∙ d.each 0 (omega arith);
        end = ap (slice_index ds) (points_end g M ls ps p) ∙ sym last_distance;
        within = λ k h. let u = upto k h in let long = d.long in omega arith;
        ascend = ascend;
      }

  pub whole_is : whole_distance ds ≡ dm_of M ls
  whole_is = last_distance ∙ d.each (length ls) (omega arith) ∙ ap (dm_of M) (take_all (length ls) ls (omega arith))

  front : (k : ℕ) → k ≤ length ls → from_front (legs M ls) k ≡ slice_index ds k
  front k h = ap dm_along (take-map (leg M) k ls) ∙ dm_along-legs M (take k ls) ∙ sym (d.each k h)

  back : (k : ℕ) → k ≤ length ls → to_back (legs M ls) k + slice_index ds k ≡ whole_distance ds
  back k h = omega (arith, whole (legs M ls) k, front k h, dm_along-legs M ls, whole_is)

  first_is : (positive a : ℕ) → IsFirstKept ds ps positive a →
      slice_index ps a ≡ first_kept (legs M ls) positive (later ps)
  first_is positive a f =
      let test : ℕ → Bool = λ i. nat_le (from_front (legs M ls) i) positive in
      let after : (k : ℕ) → a < k → k < length ps → test (slice_index ps k) ≡ false = λ k gt lt.
      rw (front _ (upto k lt)) (lt-leb _ positive (omega (arith, f.next (omega arith), ascend (a + 1) k (omega arith) lt))) in
      sym (ap (last_where test 0) (sym p.from_start) ∙ last_where_at test 0 ps a f.within
      (rw (front _ (upto a f.within)) (le-leb _ positive f.near)) after)

  last_is : (negative b : ℕ) → IsLastKept ds ps negative b →
      slice_index ps b ≡ last_kept (legs M ls) negative (later ps)
  last_is negative b l =
      let test : ℕ → Bool = λ i. nat_le (to_back (legs M ls) i) negative in
      let within = l.within in
      let before : (k : ℕ) → k < b → test (slice_index ps k) ≡ false = λ k lt. lt-leb _ negative
      (omega (arith, l.before, ascend k (b - 1) (omega arith) (omega arith), back _ (upto k (omega arith)))) in
      sym (ap (first_where test 0) (sym p.from_start) ∙ first_where_at test 0 ps b within
      (le-leb _ negative (omega (arith, back _ (upto b within)))) before)

  range_is : (a b : ℕ) → a ≤ b → b < length ps → filter (between (slice_index ps a) (slice_index ps b)) ps
      ≡ slice_range ps a (b + 1)
  range_is a b h below = range_passes (between (slice_index ps a) (slice_index ps b)) ps a (b + 1 - a) (omega arith)
      (λ k lt. grind (arith, nat_tests, linked_less g M ls ps linked k a))
      (λ k ge lt. grind (arith, nat_tests, not_above a k, not_above k b))
      (λ k ge lt. grind (arith, nat_tests, linked_less g M ls ps linked b k))

  -- the length of a leg, by the distances of its ends
  leg_is : (i j : ℕ) → CandidateWith g M ls i j → slice_index ds j ≡ slice_index ds i + dm_between (legs M ls) i j
  leg_is i j c = grind (arith, upto, front, from_front-add, legs)

  pub trimmed : (positive negative : ℕ) (ks : List ℕ) (pos_left neg_left : ℕ) →
      AreTrimmed ds ps positive negative ks pos_left neg_left → positive + negative < dm_of M ls →
      IsCut g M ls ds ps positive negative ks pos_left neg_left
  trimmed positive negative ks pos_left neg_left r less =
      let a = r.first in
      let b = r.last in
      let f = r.is_first in
      let l = r.is_last in
      let total = whole_is in
      let within = l.within in
      let two : a < b = elim (cases_lt a b) [ inl lt ↦ lt | inr ge ↦ absurd (omega (arith, ascend b a ge f.within)) ] in
      let first = first_is positive a f in
      let last = last_is negative b l in
      let long : length ks ≡ b + 1 - a =
      ap length r.range ∙ omega (arith, length-take (b + 1 - a) (drop a ps), length-drop a ps) in
      let at : (k n : ℕ) → a + k ≡ n → n ≤ b → distance_at ds ks k ≡ distance_at ds ps n = λ k n e h.
      ap (slice_index ds) (ap (λ (qs : List ℕ). slice_index qs k) r.range
      ∙ get_or-take (b + 1 - a) (drop a ps) k 0 (omega arith) ∙ get_or-drop a ps k 0 ∙ ap (slice_index ps) e) in
      let kept_is : ks ≡ kept_points (legs M ls) positive negative (later ps) =
      r.range ∙ sym (range_is a b (omega arith) within) ∙ (λ i. filter (between (first i) (last i)) (p.from_start i)) in
      let pos_is : pos_left ≡ positive - from_front (legs M ls) (first_kept (legs M ls) positive (later ps)) =
      rw (← first, front _ (upto a f.within)) (omega (arith, r.pos_cut)) in
      let neg_is : neg_left ≡ negative - to_back (legs M ls) (last_kept (legs M ls) negative (later ps)) =
      rw (← last) (omega (arith, r.neg_cut, back _ (upto b within))) in
      let linked : AreLinked g M ls ks =
      rw kept_is (linked_at g M ls _ (kept_linked_with g M ls (first_kept (legs M ls) positive (later ps))
      (last_kept (legs M ls) negative (later ps)) (0 ∷ later ps) (follow_linked_with g M ls 0 (later ps) p.follow))) in
      let next = f.next (omega arith) in
      let before = l.before (omega arith) in
      let first_leg = leg_is _ _ (linked 0 (omega arith)) in
      let last_leg = leg_is _ _ (linked_end g M ls ks linked (omega arith)) in
      let last_at = at (length ks - 1) b (omega arith) (omega arith) in
      record {
        are = record { linked = linked; two = omega arith };
        pos_within = omega (arith, r.pos_cut, at 0 a (omega arith) (omega arith), at 1 (a + 1) refl (omega arith));
        neg_within = omega (arith, r.neg_cut, at (length ks - 1 - 1) (b - 1) (omega arith) (omega arith));
        kept = kept_is;
        value = λ i. reference_by_with g (legs M ls) (pos_is i) (neg_is i) (kept_is i);
      }
