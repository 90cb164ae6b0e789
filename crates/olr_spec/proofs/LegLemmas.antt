-- The lines of a part of a path, and its legs one after another.
use Rattle.olr_spec.proofs.Common.{true, refl, List, subst, arith, legs, Margin, ◌≡◌, ℕ, ◌+◌, ◌≤◌, ◌<◌, [], ◌∷◌, ◌++◌, Map, has, length}
use Rattle.olr_spec.proofs.Common.{stretch, last_kept, none_twice, slice_index, first_kept, extended_path, kept_points, OfPathWith}
use Rattle.olr_spec.proofs.Common.{CandidateWith, Path, list_any-append, and_parts, and_from, cases_Bool, not, take-append-drop, take, drop, ◌-◌}
use Rattle.olr_spec.specs.Elsewhere.{OfLegs}
use Rattle.olr_spec.proofs.Facts.{Each, Each-head, Each-tail, Each-left, Each-right, has_here, has_there, has_filter, between, between_is}
use Rattle.olr_spec.proofs.Facts.{stretch_first, LinkedWith, kept_linked_with, follow_linked_with}
use Rattle.olr_spec.proofs.QueryLemmas.{stretch_parts}

-- what holds of each line of a part holds of each line of a part of it
pub part_of : (P : ℕ → Type 0) (ls : List ℕ) (a b p q : ℕ) → a ≤ p → p ≤ q → q ≤ b → Each P (stretch ls a b) → Each P (stretch ls p q)
part_of P ls a b p q from h to all =
    let behind = Each-right P (stretch ls a p) (stretch ls p b) (subst (Each P) (stretch_parts ls a p b from (omega arith)) all) in
    Each-left P (stretch ls p q) (stretch ls q b) (subst (Each P) (stretch_parts ls p q b h to) behind)

pub line_on : (ls : List ℕ) (from to p : ℕ) → from ≤ p → p < to → p < length ls → has (stretch ls from to) (slice_index ls p) ≡ true
line_on ls from to p f lt h =
    let On : ℕ → Type 0 = λ x. has (stretch ls from to) x ≡ true in
    Each-head On (slice_index ls p) (stretch ls (p + 1) to)
    (subst (Each On) (stretch_first ls p to lt h) (part_of On ls from to p to f (omega arith) (omega arith) (λ x i. i)))

-- ---- no line twice

pub once_right : (xs ys : List ℕ) → none_twice (xs ++ ys) ≡ true → none_twice ys ≡ true
once_right [] ys once = once
once_right (x ∷ xs) ys once = once_right xs ys (and_parts (not (has (xs ++ ys) x)) (none_twice (xs ++ ys)) once).1

pub once_left : (xs ys : List ℕ) → none_twice (xs ++ ys) ≡ true → none_twice xs ≡ true
once_left [] ys once = refl
once_left (x ∷ xs) ys once =
    let parts = and_parts (not (has (xs ++ ys) x)) (none_twice (xs ++ ys)) once in
    grind (arith, parts.0, once_left xs ys parts.1, and_from, list_any-append, cases_Bool (has xs x))

pub once_range : (ls : List ℕ) (i j : ℕ) → none_twice ls ≡ true → none_twice (stretch ls i j) ≡ true
once_range ls i j h =
    once_left (take (j - i) (drop i ls)) (drop (j - i) (drop i ls))
    (rw take-append-drop (once_right (take i ls) (drop i ls) (rw take-append-drop h)))

-- ---- legs

-- what holds of each leg, and of the last one, if something else does
of_legs : (g : Margin) (M : Map) (ls : List ℕ) (from to : ℕ) (Q R L K : ℕ → ℕ → Type 0) →
    ((p q : ℕ) → from ≤ p → q < to → q < length ls → CandidateWith g M ls p q → Q p q → R p q) →
    ((p q : ℕ) → from ≤ p → q ≤ to → CandidateWith g M ls p q → L p q → K p q) →
    (ks : List ℕ) → LinkedWith g M ls ks → Each (λ k. from ≤ k) ks → Each (λ k. k ≤ to) ks → OfLegs Q L ks → OfLegs R K ks
of_legs g M ls from to Q R L K each end [] l above below h = tt
of_legs g M ls from to Q R L K each end (p ∷ []) l above below h = tt
of_legs g M ls from to Q R L K each end (p ∷ q ∷ []) l above below h =
    end p q (above p (has_here p (q ∷ []))) (below q (has_there p (q ∷ []) q (has_here q []))) l.0 h
of_legs g M ls from to Q R L K each end (p ∷ q ∷ r ∷ ks) l above below h =
    let next : q < r = l.1.0.after in
    let upto : r ≤ length ls = l.1.0.upto in
    let t = below r (has_there p (q ∷ r ∷ ks) r (has_there q (r ∷ ks) r (has_here r ks))) in (
      each p q (above p (has_here p (q ∷ r ∷ ks))) (omega (arith, next, t)) (omega (arith, next, upto)) l.0 h.0,
      of_legs g M ls from to Q R L K each end (q ∷ r ∷ ks) l.1 (Each-tail (λ k. from ≤ k) p (q ∷ r ∷ ks) above)
          (Each-tail (λ k. k ≤ to) p (q ∷ r ∷ ks) below) h.1,
    )

-- the legs of a path
module _ {g : Margin} {M : Map} {P : Path} {H : Path → List ℕ → List ℕ → List ℕ → Type 0} (p : OfPathWith g M P H) where
  abbrev pub Lines_of : List ℕ
  Lines_of = (extended_path M P p.before p.after).lines

  abbrev pub From : ℕ
  From = first_kept (legs M Lines_of) (extended_path M P p.before p.after).pos p.points

  abbrev pub To : ℕ
  To = last_kept (legs M Lines_of) (extended_path M P p.before p.after).neg p.points

  abbrev pub Kept_of : List ℕ
  Kept_of = kept_points (legs M Lines_of) (extended_path M P p.before p.after).pos (extended_path M P p.before p.after).neg p.points

  pub of_kept : (Q R L K : ℕ → ℕ → Type 0) →
      ((i j : ℕ) → From ≤ i → j < To → j < length Lines_of → CandidateWith g M Lines_of i j → Q i j → R i j) →
      ((i j : ℕ) → From ≤ i → j ≤ To → CandidateWith g M Lines_of i j → L i j → K i j) → OfLegs Q L Kept_of → OfLegs R K Kept_of
  of_kept Q R L K each end =
      let kept = has_filter (between From To) (0 ∷ p.points) in
      of_legs g M Lines_of From To Q R L K each end Kept_of
      (kept_linked_with g M Lines_of From To (0 ∷ p.points) (follow_linked_with g M Lines_of 0 p.points p.follow))
      (λ k h. grind (arith, kept k h, between_is From To k)) (λ k h. grind (arith, kept k h, between_is From To k))
