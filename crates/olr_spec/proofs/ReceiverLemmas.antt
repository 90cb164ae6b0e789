-- Every receiver recovers the legs between the remaining LRPs: a shortest route over lines within the LFRCNP is the leg of
-- the extended path.
use Rattle.olr_spec.proofs.Common.{reference_by_kept_with, AllPass-from_list_all, middle_points_with, list_any-append, cases_Bool}
use Rattle.olr_spec.proofs.Common.{not_from_false, length-take-le, UniqueShortest, extended_path, length-append, list_all-map, ap}
use Rattle.olr_spec.proofs.Common.{EncodingWith, RecoversLast, has_no_twin, slice_index, EncodesWith, length-drop, candidates, []}
use Rattle.olr_spec.proofs.Common.{is_nearest, option_map, get_or-map, none_twice, OfPathWith, attrs_with, path_fault, RecoversTo}
use Rattle.olr_spec.proofs.Common.{AnswerLaws, both_ways, slice_get, Reference, nat_tests, and_parts, JoinsLast, eqb-true, Margin}
use Rattle.olr_spec.proofs.Common.{ltb-true, cases_eq, or_cases, has_line, Receiver, list_all, last_two, and_from, or_parts, Bool}
use Rattle.olr_spec.proofs.Common.{not-true, allowed, line_at, is_path, stretch, JoinsTo, IsTrue, eq-eqb, length, leg_at, no_leg}
use Rattle.olr_spec.proofs.Common.{Middle, Points, Within, ne_eqb, arith, IsMap, subst, false, start, Tried, LawOf, true, List, ℕ}
use Rattle.olr_spec.proofs.Common.{Some, None, refl, Path, legs, Side, fold, ◌==◌, zero, ◌++◌, drop, ◌≡◌, ◌≢◌, ◌↔◌, Map, Leg, leg}
use Rattle.olr_spec.proofs.Common.{suc, ◌+◌, ◌-◌, ◌∷◌, map, ◌<◌, sym, ◌∙◌, inr, max, inl, not, ◌≤◌, end, has, ℤ, ⊤}
use Rattle.olr_spec.specs.Receiver.{decoded_coord, RecoversFrom, last_number, RecoversBy, More_lines, sector_on, Outgoing, Lrp}
use Rattle.olr_spec.specs.Receiver.{Incoming, last_lrp, Shortest, One_line, rating, lrp_at, Takes}
use Rattle.olr_spec.specs.Recovery.{IsStretchesWith, IsLineAtWith, stretches, line_by}
use Rattle.olr_spec.proofs.Facts.{OnlyShortest, extended_keeps, has_number, LinkedWith, joins_last, has_index, path_also, at_index, joins_to}
use Rattle.olr_spec.proofs.Facts.{path_at, Known, Each, carries_here, Carries, Each-range, Each-head, Each-tail, dec_same}
use Rattle.olr_spec.proofs.FitLemmas.{range_legs, extended_sound, by_answer}
use Rattle.olr_spec.proofs.DecodedLemmas.{answer_decodes, Front, Back, Form, Kept, form}
use Rattle.olr_spec.specs.Reference as fields

-- ---- lists

pub within_parts : (M : Map) (c : ℕ) (xs ys : List ℕ) → Within M c (xs ++ ys) → Within M c xs × Within M c ys
within_parts M c [] ys w = (tt, w)
within_parts M c (x ∷ xs) ys w = let r = within_parts M c xs ys w.1 in ((w.0, r.0), r.1)

-- ---- the greatest class

greatest_from : (M : Map) (a : ℕ) (xs : List ℕ) → a ≤ fold max a (map (λ (g : Leg). g.line.frc) (legs M xs))
greatest_from M a [] = omega arith
greatest_from M a (x ∷ xs) = omega (arith, greatest_from M (max a (line_at M x).frc) xs)

pub within_greatest : (M : Map) (a : ℕ) (xs : List ℕ) → Within M (fold max a (map (λ (g : Leg). g.line.frc) (legs M xs))) xs
within_greatest M a [] = tt
within_greatest M a (x ∷ xs) = grind (arith, greatest_from, (within_greatest M (max a (line_at M x).frc) xs))

-- and within what a margin allows
pub within_allowed : (g : Margin) (M : Map) → IsMap M → (c : ℕ) (xs : List ℕ) → Each (Known M) xs → Within M c xs →
    Within M (allowed g c) xs
within_allowed g M m c [] known w = tt
within_allowed g M m c (x ∷ xs) known w =
    let good = m.good x (Each-head (Known M) x xs known) in
    grind (arith, nat_tests, and_parts, good, cases_Bool (g.classes == 0), within_allowed g M m c xs (Each-tail (Known M) x xs known) w.1)

-- ---- a unique shortest path is the only shortest route over any lines that include it

shortest_is : (M : Map) (c s t : ℕ) (xs : List ℕ) → UniqueShortest M s t xs → Within M c xs → (ys : List ℕ) →
    Shortest M c s t ys → ys ≡ xs
shortest_is M c s t xs r w ys h = grind (arith, dec_same ys xs)

route_shortest : (M : Map) (c s t : ℕ) (xs : List ℕ) → UniqueShortest M s t xs → Within M c xs → Shortest M c s t xs
route_shortest M c s t xs r w = grind (arith, dec_same)

-- a line, and the only shortest route behind it
pub recovers_only : (M : Map) (c x y : ℕ) (xs : List ℕ) → OnlyShortest M c (end M x) (start M y) xs → (w : List ℕ) →
    RecoversTo M c x y w ↔ (w ≡ x ∷ xs)
recovers_only M c x y xs only w =
    ((λ z. z.1 ∙ ap (λ zs. x ∷ zs) ((only z.0).0 z.2)), (λ e. (xs, e, (only xs).1 refl)))

pub recovers_to : (M : Map) (ls : List ℕ) (c p q : ℕ) → Within M c (stretch ls p q) → JoinsTo M ls p q →
    (w : List ℕ) → RecoversTo M c (slice_index ls p) (slice_index ls q) w ↔ (w ≡ stretch ls p q)
recovers_to M ls c p q within j w = grind (arith, shortest_is, route_shortest)

-- ---- the last leg

one_line : (M : Map) (ls : List ℕ) (c p q : ℕ) → q ≡ p + 1 → stretch ls p q ≡ slice_index ls p ∷ [] → (w : List ℕ) →
    RecoversLast M c (slice_index ls p) (slice_index ls (q - 1)) w ↔ (w ≡ stretch ls p q)
one_line M ls c p q e is w = grind (arith, One_line)

pub only_more : (M : Map) (c x y : ℕ) (all r : List ℕ) → x ≢ y → (line_at M y).frc ≤ c → all ≡ x ∷ (r ++ y ∷ []) →
    OnlyShortest M c (end M x) (start M y) r → (w : List ℕ) → RecoversLast M c x y w ↔ (w ≡ all)
only_more M c x y all r n class is only w =
    let same : (xs : List ℕ) → Shortest M c (end M x) (start M y) xs → xs ≡ r = λ xs. (only xs).0 in
    ((λ k. grind (arith, same)), (λ g. More_lines r n (g ∙ is) ((only r).1 refl) class))

more_lines : (M : Map) (c x y : ℕ) (all r : List ℕ) → x ≢ y → Within M c all → all ≡ x ∷ (r ++ y ∷ []) →
    UniqueShortest M (end M x) (start M y) r → (w : List ℕ) → RecoversLast M c x y w ↔ (w ≡ all)
more_lines M c x y all r n within is route w =
    let parts : Within M c (x ∷ (r ++ y ∷ [])) = subst (Within M c) is within in
    let ends = within_parts M c r (y ∷ []) parts.1 in
    let only : OnlyShortest M c (end M x) (start M y) r = λ xs. (
      shortest_is M c (end M x) (start M y) r route ends.0 xs,
      λ e. subst (Shortest M c (end M x) (start M y)) (sym e) (route_shortest M c (end M x) (start M y) r route ends.0),
    ) in
    only_more M c x y all r n ends.1.0 is only w

pub recovers_last : (M : Map) (ls : List ℕ) (c p q : ℕ) → p < q → q ≤ length ls →
    (p + 1 < q → slice_index ls p ≢ slice_index ls (q - 1)) → Within M c (stretch ls p q) → JoinsLast M ls p q →
    (w : List ℕ) → RecoversLast M c (slice_index ls p) (slice_index ls (q - 1)) w ↔ (w ≡ stretch ls p q)
recovers_last M ls c p q lt up differ within j w =
    let long = length-take-le (q - p) (drop p ls) (omega (arith, length-drop p ls)) in
    elim j [
      | inl is ↦ one_line M ls c p q (omega (arith, ap (λ (xs : List ℕ). length xs) is)) is w
      | inr t ↦
          more_lines M c (slice_index ls p) (slice_index ls (q - 1)) (stretch ls p q) t.0
          (differ (omega (arith, ap (λ (xs : List ℕ). length xs) t.1, length-append t.0 (slice_index ls (q - 1) ∷ []))))
          within t.1 t.2 w
    ]

-- ---- no line twice

pushed_once : (ls : List ℕ) (x : ℕ) → none_twice ls ≡ true → has ls x ≡ false → none_twice (ls ++ x ∷ []) ≡ true
pushed_once [] x o h = refl
pushed_once (y ∷ ls) x o h =
    grind (arith, or_parts, and_parts, list_any-append, not-true, and_from, ne_eqb, eq-eqb, both_ways, (pushed_once ls x))

pub extended_once : (M : Map) (P : Path) (b a : List ℕ) → IsTrue (is_path P.lines) → Tried M P b a →
    none_twice (extended_path M P b a).lines ≡ true
extended_once M P b a is t =
    extended_keeps M (λ ls. none_twice ls ≡ true) (λ x ls p o. and_from _ _ (not_from_false _ p.fresh) o)
    (λ ls x p o. pushed_once ls x o p.fresh) P b a t (and_parts _ (none_twice P.lines) is).1

pub once_apart : (ls : List ℕ) (i j : ℕ) → none_twice ls ≡ true → i < j → j < length ls → slice_index ls i ≢ slice_index ls j
once_apart [] i j o lt h e = absurd (omega arith)
once_apart (x ∷ ls) i zero o lt h e = absurd (omega arith)
once_apart (x ∷ ls) zero (suc j) o lt h e = grind (arith, and_parts, both_ways, not-true, has_index)
once_apart (x ∷ ls) (suc i) (suc j) o lt h e =
    grind (arith, (once_apart ls i j (and_parts (not (has ls x)) (none_twice ls) o).1 (omega arith) (omega arith) e))

-- ---- a test that all candidates pass

pub passes : (M : Map) (f : ℕ × Leg → Bool) → IsTrue (list_all f (candidates M)) → (y : ℕ) → IsTrue (has_line M y) →
    f (y, leg M y) ≡ true
passes M f a y h = grind (arith, at_index, has_number M y h, AllPass-from_list_all, list_all-map f)

-- ---- the path's own line

-- line x is the line that the LRP t describes
pub record Describes (M : Map) (t : Lrp) (x : ℕ) : Type 0 where
  pub known : IsTrue (has_line M x)
  pub frc : t.frc ≡ (line_at M x).frc
  pub fow : t.fow ≡ (line_at M x).fow
  pub bearing : t.bearing ≡ sector_on t.side (leg M x)

-- line x is the nearest candidate, and without a twin
pub record Stands (R : Receiver) (M : Map) (s : Side) (p : ℤ × ℤ) (x : ℕ) : Type 0 where
  pub nearest : IsTrue (is_nearest R.far s p (leg M x) (candidates M))
  pub alone : IsTrue (has_no_twin s x (leg M x) (candidates M))

module _ (R : Receiver) (M : Map) (t : Lrp) (x : ℕ) (d : Describes M t x) (o : Stands R M t.side t.place x) where
  preferred : (y : ℕ) → IsTrue (has_line M y) → y ≢ x → IsTrue (R.prefers (rating R t (leg M x)) (rating R t (leg M y)))
  preferred y h n = grind (arith, passes, or_cases, eqb-true, cases_eq, both_ways, eq-eqb, ltb-true)

  -- so a receiver chooses it, and no other
  pub takes_own : (y : ℕ) → Takes R M t y ↔ (y ≡ x)
  takes_own y = grind (arith, cases_eq, both_ways, preferred, cases_Bool)

-- ---- one LRP

-- S holds of the path's own lines at the LRPs ks, from LRP k on
abbrev Owns : (Side → ℤ × ℤ → ℕ → Type 0) → List ℕ → Reference → ℕ → List ℕ → Type 0
Owns S ls r k [] = ⊤
Owns S ls r k (h ∷ []) = S Incoming (decoded_coord r (last_number r)) (slice_index ls (h - 1))
Owns S ls r k (h ∷ i ∷ js) = S Outgoing (decoded_coord r k) (slice_index ls h) × Owns S ls r (suc k) (i ∷ js)

-- by T each line that an LRP describes, and of which S holds, is chosen and no other
module _ (g : Margin) (M : Map) (T : Lrp → ℕ → Type 0) (S : Side → ℤ × ℤ → ℕ → Type 0)
    (chosen : (t : Lrp) (x : ℕ) → Describes M t x → S t.side t.place x → (y : ℕ) → T t y ↔ (y ≡ x)) (m : IsMap M)
    (ls : List ℕ) (known : Each (Known M) ls) (once : none_twice ls ≡ true) where
  leg_is : (i : ℕ) → i < length ls → leg_at (legs M ls) i ≡ leg M (slice_index ls i)
  leg_is i lt = get_or-map (leg M) ls i 0 no_leg lt

  own_out : (r : Reference) (k i j : ℕ) → i < length ls →
      Describes M (lrp_at r k (attrs_with g (legs M ls) i j)) (slice_index ls i)
  own_out r k i j lt = grind (arith, has_index, leg_is)

  own_in : (r : Reference) (h i : ℕ) → i - 1 < length ls → r.last ≡ fields.last_point (legs M ls) h i →
      Describes M (last_lrp r) (slice_index ls (i - 1))
  own_in r h i lt is = grind (arith, has_index, leg_is)

  within_stretch : (i j : ℕ) → Within M (attrs_with g (legs M ls) i j).lfrc (stretch ls i j)
  within_stretch i j =
      let c = fold max 0 (map (λ (l : Leg). l.line.frc) (legs M (stretch ls i j))) in
      let same = ap (λ (hs : List Leg). allowed g (fold max 0 (map (λ (l : Leg). l.line.frc) hs))) (range_legs M m ls known i j) in
      subst (λ (d : ℕ). Within M d (stretch ls i j)) (sym same) (within_allowed g M m c (stretch ls i j)
      (Each-range (Known M) ls i j known) (within_greatest M 0 (stretch ls i j)))

  carries : Carries g M M ls 0 (suc (length ls))
  carries = carries_here g M (inr m) ls 0 (suc (length ls))

  -- ---- one LRP after another

  -- from the path's own line at LRP k the legs after it are recovered
  from_point : (r : Reference) (k h i : ℕ) (js : List ℕ) → LinkedWith g M ls (h ∷ i ∷ js) →
      r.last ≡ fields.last_point (legs M ls) (last_two h i js).0 (last_two h i js).1 → Owns S ls r (suc k) (i ∷ js) →
      (ws : List (List ℕ)) → RecoversFrom T M r k (slice_index ls h)
      (attrs_with g (legs M ls) h i ∷ map (λ (m : Middle). m.attrs) (middle_points_with g (legs M ls) h i js)) ws
      ↔ (ws ≡ stretches ls (h ∷ i ∷ js))
  from_point r k h i [] l is o ws =
      let y = slice_index ls (i - 1) in
      let c = (attrs_with g (legs M ls) h i).lfrc in
      let takes = chosen (last_lrp r) y (own_in r h i (omega arith) is) o in
      let route = recovers_last M ls c h i l.0.after l.0.upto
      (λ far. once_apart ls h (i - 1) once (omega arith) (omega arith)) (within_stretch h i) (joins_last g M M (inr m) ls 0 (suc (length ls)) carries h i (omega arith) (omega (arith, l.0.upto)) l.0) in (
        (λ z. z.4 ∙ ap (λ (v : List ℕ). v ∷ [])
            ((route z.1).0 (coe 0 1 (n. RecoversLast M c (slice_index ls h) ((takes z.0).0 z.2 n) z.1) z.3))),
        (λ e. (y, stretch ls h i, (takes y).1 refl, (route (stretch ls h i)).1 refl, e)),
      )
  from_point r k h i (j ∷ js) l is o ws =
      let y = slice_index ls i in
      let c = (attrs_with g (legs M ls) h i).lfrc in
      let takes = chosen (lrp_at r (suc k) (attrs_with g (legs M ls) i j)) y (own_out r (suc k) i j (omega arith)) o.0 in
      let route = recovers_to M ls c h i (within_stretch h i) (joins_to g M M (inr m) ls 0 (suc (length ls)) carries h i (omega arith) (omega (arith, l.1.0.after, l.1.0.upto)) (omega (arith, l.1.0.after, l.1.0.upto)) l.0) in
      let rest = from_point r (suc k) i j js l.1 is o.1 in
      let later = attrs_with g (legs M ls) i j ∷ map (λ (m : Middle). m.attrs) (middle_points_with g (legs M ls) i j js) in (
        (λ z.
            let yes = (takes z.0).0 z.3 in
            let w : z.1 ≡ stretch ls h i = (route z.1).0 (coe 0 1 (i. RecoversTo M c (slice_index ls h) (yes i) z.1) z.4) in
            z.5 ∙ (λ n. w n ∷ (rest z.2).0 (coe 0 1 (i. RecoversFrom T M r (suc k) (yes i) later z.2) z.6) n)),
        (λ e. (y, stretch ls h i, _, (takes y).1 refl, (route (stretch ls h i)).1 refl, e, (rest _).1 refl)),
      )

  -- from the first LRP on
  recovers_kept : (p q h i : ℕ) (js : List ℕ) → LinkedWith g M ls (h ∷ i ∷ js) →
      Owns S ls (reference_by_kept_with g (legs M ls) p q h i js) 0 (h ∷ i ∷ js) → (ws : List (List ℕ))
      → RecoversBy T M (reference_by_kept_with g (legs M ls) p q h i js) ws ↔ (ws ≡ stretches ls (h ∷ i ∷ js))
  recovers_kept p q h i js l o ws =
      let r = reference_by_kept_with g (legs M ls) p q h i js in
      let x = slice_index ls h in
      let takes = chosen (lrp_at r 0 (attrs_with g (legs M ls) h i)) x (own_out r 0 h i (omega arith)) o.0 in
      let rest = from_point r 0 h i js l refl o.1 ws in
      grind (arith)

-- ---- an answer

-- a property of the path's extension and LRPs holds for those of the encoding, since they are unique
module _ {g : Margin} (M : Map) (m : IsMap M) (P : Path) (is : IsTrue (is_path P.lines)) (none : path_fault M P ≡ None)
    (r : Reference) (e : EncodingWith g M P (Points r)) where
  pub same_path : (Q : Path → List ℕ → Type 0) → OfPathWith g M P (λ E _ _ js. Q E js) →
      Q (extended_path M P e.before e.after) e.points
  same_path Q p = path_at m is none e p

  abbrev pub Lines : List ℕ
  Lines = (extended_path M P e.before e.after).lines

  abbrev pub Points_kept : List ℕ
  Points_kept = Kept M P is none r e

  pub formed : Form g M Lines Points_kept (Front M P is none r e) (Back M P is none r e) r
  formed = form M P is none r e

  pub size : last_number r + 1 ≡ length Points_kept
  size = omega (arith, (answer_decodes M P is none r e).count)

  pub line_at_point : (s : Side) (k p : ℕ) → slice_get Points_kept k ≡ Some p → IsLineAtWith g M P s k (line_by s Lines p)
  line_at_point s k p at = path_also e (ap (option_map (line_by s Lines)) at)

  module _ (T : Lrp → ℕ → Type 0) (S : Side → ℤ × ℤ → ℕ → Type 0)
      (chosen : (t : Lrp) (x : ℕ) → Describes M t x → S t.side t.place x → (y : ℕ) → T t y ↔ (y ≡ x))
      (out : (k : ℕ) → k < last_number r → (x : ℕ) → IsLineAtWith g M P Outgoing k x → S Outgoing (decoded_coord r k) x)
      (back : (x : ℕ) → IsLineAtWith g M P Incoming (last_number r) x → S Incoming (decoded_coord r (last_number r)) x) where
    owns_from : (k : ℕ) (ks : List ℕ) → ((n : ℕ) → slice_get Points_kept (k + n) ≡ slice_get ks n) →
        k + length ks ≡ last_number r + 1 → Owns S Lines r k ks
    owns_from k [] at size = tt
    owns_from k (h ∷ []) at size =
        let on : k + 0 ≡ last_number r = omega arith in
        back _ (line_at_point Incoming (last_number r) h (ap (slice_get Points_kept) (sym on) ∙ at 0))
    owns_from k (h ∷ i ∷ js) at size =
        let on : k + 0 ≡ k = omega arith in
        let rest : (n : ℕ) → slice_get Points_kept (suc k + n) ≡ slice_get (i ∷ js) n = λ n. let step : suc k + n ≡ k + suc n = omega arith in ap (slice_get Points_kept) step ∙ at (suc n) in
        (out k (omega arith) _ (line_at_point Outgoing k h (ap (slice_get Points_kept) (sym on) ∙ at 0)), owns_from (suc k) (i ∷ js) rest (omega arith))

    recovered_of : (ws : List (List ℕ)) → RecoversBy T M r ws ↔ IsStretchesWith g M P ws
    recovered_of ws =
        let f = formed in
        let s = extended_sound M P is none e.before e.after e.tried in
        let once = extended_once M P e.before e.after is e.tried in
        let all = owns_from 0 Points_kept (λ n. let z : 0 + n ≡ n = omega arith in ap (slice_get Points_kept) z)
        (omega (arith, size)) in
        let by : RecoversBy T M r ws ↔ (ws ≡ stretches Lines Points_kept) =
        coe 1 0 (i. RecoversBy T M (f.fields_are i) ws ↔ (ws ≡ stretches Lines (f.kept i)))
        (recovers_kept g M T S chosen m Lines s.known once (Front M P is none r e) (Back M P is none r e) f.h f.i f.js f.linked
        (coe 0 1 (i. Owns S Lines (f.fields_are i) 0 (f.kept i)) all) ws) in (
          (λ g. path_also e (by.0 g)),
          (λ p. by.1 (same_path _ p)),
        )

-- by T the legs of an answer are recovered, and nothing else, if S holds of the path's line at each LRP
pub recovered_by : (g : Margin) (T : Lrp → ℕ → Type 0) (S : Side → ℤ × ℤ → ℕ → Type 0) (M : Map) →
    ((t : Lrp) (x : ℕ) → Describes M t x → S t.side t.place x → (y : ℕ) → T t y ↔ (y ≡ x)) → IsMap M →
    (P : Path) → IsTrue (is_path P.lines) → (r : Reference) → EncodesWith g M P (Points r) →
    ((k : ℕ) → k < last_number r → (x : ℕ) → IsLineAtWith g M P Outgoing k x → S Outgoing (decoded_coord r k) x) →
    ((x : ℕ) → IsLineAtWith g M P Incoming (last_number r) x → S Incoming (decoded_coord r (last_number r)) x) →
    (ws : List (List ℕ)) → RecoversBy T M r ws ↔ IsStretchesWith g M P ws
recovered_by g T S M chosen m P is r e out back =
    let p = by_answer M P r e in recovered_of M m P is p.0 r p.1 T S chosen out back

pub recovered_with : (g : Margin) → LawOf (λ (l : AnswerLaws g). l.recovered)
recovered_with g R M m P is r e d =
    recovered_by g (Takes R M) (Stands R M) M (takes_own R M) m P is r e
    (λ k lt x at. let own = d.outgoing k lt in record { nearest = own.nearest x at; alone = own.alone x at })
    (λ x at. record { nearest = d.incoming.nearest x at; alone = d.incoming.alone x at })
