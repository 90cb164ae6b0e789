-- The LRPs of a reference, as they are read.
use Rattle.olr_refs.proofs.Common.{middle_points_with, reference_by_with, middle_point_with, middle_points_of, first_point_with}
use Rattle.olr_refs.proofs.Common.{if◌then◌else◌, bearing_back, slice_index, attrs_with, dm_between, last_point, Reference, arith}
use Rattle.olr_refs.proofs.Common.{to_z-of_z, relative, position, last_two, is_some, Option, length, Middle, leg_at, offset, zero}
use Rattle.olr_refs.proofs.Common.{Margin, Coord, abs24, Attrs, First, Width, List, ◌++◌, take, refl, legs, Last, Bool, true, ◌≡◌}
use Rattle.olr_refs.proofs.Common.{None, Some, ◌<◌, ◌≤◌, ◌-◌, ◌+◌, suc, ◌∷◌, Map, Leg, ◌∙◌, w64, sym, [], ap, ℕ, ℤ}
use Rattle.olr_spec.specs.Coordinates.{fits16, rel16}
use mir.Val.{SFits, of_z, to_z}

-- what a call computes from a number that is passed, as it is stored
pub stored : (w : Width) (f : ℤ → ℤ) (z x r : ℤ) → SFits w64 z → z ≡ x → SFits w r → r ≡ f (to_z w64 (of_z w64 z)) →
    to_z w (of_z w r) ≡ f x
stored w f z x r h e g d = to_z-of_z w r g ∙ d ∙ ap f (to_z-of_z w64 z h ∙ e)

-- a relative coordinate, by the numbers that are passed: whether it fits, and what it is
passed : (x y a b : ℤ) → SFits w64 x → SFits w64 y → x ≡ a → y ≡ b →
    rel16 (to_z w64 (of_z w64 x)) (to_z w64 (of_z w64 y)) ≡ rel16 a b
passed x y a b p q e f = λ i. rel16 ((to_z-of_z w64 x p ∙ e) i) ((to_z-of_z w64 y q ∙ f) i)

some_if : (b : Bool) (x : ℤ) → is_some (if b then Some x else None) ≡ b
some_if v1 x = grind arith

given_if : (b : Bool) (x r : ℤ) → b ≡ true → (if b then Some x else None) ≡ Some r → r ≡ x
given_if b x r t e = grind arith

pub close_read : (x y a b : ℤ) (o : Option ℤ) → SFits w64 x → SFits w64 y → x ≡ a → y ≡ b →
    o ≡ rel16 (to_z w64 (of_z w64 x)) (to_z w64 (of_z w64 y)) → is_some o ≡ fits16 (relative a b)
close_read x y a b o p q e f is =
    ap (λ (n : Option ℤ). is_some n) (is ∙ passed x y a b p q e f) ∙ some_if (fits16 (relative a b)) (relative a b)

pub relative_read : (x y a b r : ℤ) (o : Option ℤ) → SFits w64 x → SFits w64 y → x ≡ a → y ≡ b → fits16 (relative a b) ≡ true →
    o ≡ rel16 (to_z w64 (of_z w64 x)) (to_z w64 (of_z w64 y)) → o ≡ Some r → r ≡ relative a b
relative_read x y a b r o p q e f fits is some =
    given_if (fits16 (relative a b)) (relative a b) r fits (sym (is ∙ passed x y a b p q e f) ∙ some)

pub first_read : (g : Margin) (gs : List Leg) (i j : ℕ) (lon lat : ℤ) (a : Attrs) → lon ≡ abs24 (position gs i).lon →
    lat ≡ abs24 (position gs i).lat → a ≡ attrs_with g gs i j
    → ◌≡◌ {A = First} (record { lon = lon; lat = lat; attrs = a }) (first_point_with g gs i j)
first_read g gs i j lon lat a hx hy ha = λ k. record { lon = hx k; lat = hy k; attrs = ha k }

pub last_read : (gs : List Leg) (h i frc fow bearing : ℕ) (dlon dlat : ℤ) (g : Leg) (p q : Coord) → g ≡ leg_at gs (i - 1)
    → p ≡ position gs h → q ≡ position gs i → dlon ≡ relative p.lon q.lon → dlat ≡ relative p.lat q.lat →
    frc ≡ g.line.frc → fow ≡ g.line.fow → bearing ≡ bearing_back g
    → ◌≡◌ {A = Last} (record { dlon = dlon; dlat = dlat; frc = frc; fow = fow; bearing = bearing }) (last_point gs h i)
last_read gs h i frc fow bearing dlon dlat g p q is hp hq hx hy hr hf hb = grind arith

-- ---- one more LRP

one_more : (g : Margin) (gs : List Leg) (h i : ℕ) (js : List ℕ) (n : ℕ) → n < length js
    → middle_points_with g gs h i (take (suc n) js) ≡ middle_points_with g gs h i (take n js)
    ++ middle_point_with g gs (slice_index (h ∷ i ∷ js) n) (slice_index (i ∷ js) n) (slice_index js n) ∷ []
one_more g gs h i [] n lt = absurd (omega arith)
one_more g gs h i (j ∷ js) zero lt = refl
one_more g gs h i (j ∷ js) (suc n) lt = grind (arith, one_more g gs i j js n (omega arith))

pub middle_more : (g : Margin) (gs : List Leg) (ps : List ℕ) (k : ℕ) → 0 < k → k + 1 < length ps
    → middle_points_of g gs (take (k + 2) ps) ≡ middle_points_of g gs (take (k + 1) ps)
    ++ middle_point_with g gs (slice_index ps (k - 1)) (slice_index ps k) (slice_index ps (k + 1)) ∷ []
middle_more g gs (p ∷ q ∷ ps) (suc n) h lt =
    let two : suc n + 2 ≡ suc (suc (suc n)) = omega arith in
    let one : suc n + 1 ≡ suc (suc n) = omega arith in
    let less : suc n - 1 ≡ n = omega arith in
    simp (two, one, less) (one_more g gs p q ps n (omega arith))
middle_more g gs _ k h lt = absurd (omega arith)

-- ---- the whole

last_two_at : (h i : ℕ) (js : List ℕ) → ((last_two h i js).0 ≡ slice_index (h ∷ i ∷ js) (length js))
    × ((last_two h i js).1 ≡ slice_index (i ∷ js) (length js))
last_two_at h i [] = (refl, refl)
last_two_at h i (j ∷ js) = last_two_at i j js

-- the reference whose parts are read, with the offsets by distances
pub reference_read : (g : Margin) (M : Map) (ls ks : List ℕ) (pos_left neg_left : ℕ) (first : First) (middle : List Middle)
    (last : Last) (pos neg : Option ℕ) → 2 ≤ length ks
    → first ≡ first_point_with g (legs M ls) (slice_index ks 0) (slice_index ks 1) → middle ≡ middle_points_of g (legs M ls) ks →
    last ≡ last_point (legs M ls) (slice_index ks (length ks - 1 - 1)) (slice_index ks (length ks - 1))
    → pos ≡ offset pos_left (dm_between (legs M ls) (slice_index ks 0) (slice_index ks 1)) →
    neg ≡ offset neg_left (dm_between (legs M ls) (slice_index ks (length ks - 1 - 1)) (slice_index ks (length ks - 1)))
    → ◌≡◌ {A = Reference} (record { first = first; middle = middle; last = last; pos = pos; neg = neg })
    (reference_by_with g (legs M ls) pos_left neg_left ks)
reference_read g M ls (p ∷ q ∷ ks) pos_left neg_left first middle last pos neg two hf hm hl hp hn =
    let ends = last_two_at p q ks in
    let less : length (p ∷ q ∷ ks) - 1 - 1 ≡ length ks = omega arith in
    let one : length (p ∷ q ∷ ks) - 1 ≡ suc (length ks) = omega arith in
    let last_is = rw (less, one, ← ends.0, ← ends.1) at hl in
    let neg_is = rw (less, one, ← ends.0, ← ends.1) at hn in
    λ k. record { first = hf k; middle = hm k; last = last_is k; pos = hp k; neg = neg_is k }
reference_read g M ls _ pos_left neg_left first middle last pos neg two hf hm hl hp hn = absurd (omega arith)
