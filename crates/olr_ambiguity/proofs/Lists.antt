-- Tests of a list's elements, one after another, and what is found by them.
use Rattle.olr_ambiguity.proofs.Common.{◌≡◌, ◌≢◌, suc, ◌+◌, ◌<◌, ◌&&◌, ◌==◌, List, ◌++◌, take, subst, refl, IsMap, start, Side}
use Rattle.olr_ambiguity.proofs.Common.{ℕ, ◌⊎◌, inl, inr, not, [], ◌∷◌, sym, ap, ◌∙◌, ◌↔◌, has, Map, leg, ℤ, All, map, Bool}
use Rattle.olr_ambiguity.proofs.Common.{length-take-le, Contains-get_or, obstacles_from, all_nodes_ascend, same_ascending, true}
use Rattle.olr_ambiguity.proofs.Common.{filter, length, get_or, IsTrue, eq-eqb, ne_eqb, is_some, side_at, in_from, Placed}
use Rattle.olr_ambiguity.proofs.Common.{false, IsStrictlyIncreasing, Contains-push_cases, Any-from_list_any, is_outdone_for_all}
use Rattle.olr_ambiguity.proofs.Common.{Contains, arith, has_line, has_node, coord_at, list_any, Outgoing, all_nodes, has_there}
use Rattle.olr_ambiguity.proofs.Common.{and_parts, both_ways, take_more, Reference, has-filter, exactly_in, cases_Bool}
use Rattle.olr_ambiguity.proofs.Common.{map-append, append-nil, is_farther, usual_slack, exactly_out, or_left, node_on}
use Rattle.olr_ambiguity.proofs.Common.{Incoming, is_rival, lines_on, Obstacle, has_here, has_from, AreAdded, coordinate_on}
use Rattle.olr_ambiguity.proofs.Common.{append_assoc, decoded_coord, obstacles_at, has-all_nodes}
use Rattle.std.proofs.lemmas.List.Kept.{IsStrictlyIncreasing-filter}

pub none_any : (p : ℕ → Bool) (xs : List ℕ) → ((x : ℕ) → has xs x ≡ true → p x ≡ false) → list_any p xs ≡ false
none_any p [] h = refl
none_any p (x ∷ xs) h = grind (arith, h x (has_here x xs), none_any p xs (λ y on. h y (has_there x xs y on)))

-- ---- rivals

line_in : (M : Map) (s : Side) (w y : ℕ) → has (lines_on s M w) y ≡ true → IsTrue (has_line M y) × (node_on s (leg M y) ≡ w)
line_in M Outgoing w y h = (ap is_some ((exactly_out M w y).0 h).1.0, grind (arith, exactly_out M w y))
line_in M Incoming w y h = (ap is_some ((exactly_in M w y).0 h).1.0, grind (arith, exactly_in M w y))

pub lines_known : (M : Map) (s : Side) (w : ℕ) (ys : List ℕ) → ys ≡ lines_on s M w → All (λ y. IsTrue (has_line M y)) ys
lines_known M s w ys is =
    subst (λ (zs : List ℕ). All (λ y. IsTrue (has_line M y)) zs) (sym is)
    (λ k d lt. (line_in M s w _ (has_from (lines_on s M w) _ (Contains-get_or (lines_on s M w) k d lt))).0)

pub place_there : (M : Map) (s : Side) (y w : ℕ) → node_on s (leg M y) ≡ w → coordinate_on s (leg M y) ≡ coord_at M w
place_there M Outgoing y w e = ap (coord_at M) e
place_there M Incoming y w e = ap (coord_at M) e

module _ (M : Map) (s : Side) (p : ℤ × ℤ) (x w : ℕ) where
  abbrev open_lines : Bool
  open_lines = list_any (λ y. not (is_outdone_for_all s p (leg M x) (leg M y))) (lines_on s M w)

  pub not_itself : w ≡ node_on s (leg M x) → is_rival M s p x w ≡ false
  not_itself e = ap (λ (b : Bool). not b && open_lines) (eq-eqb w (node_on s (leg M x)) e)

  pub by_lines : w ≢ node_on s (leg M x) → is_rival M s p x w ≡ open_lines
  by_lines n = ap (λ (b : Bool). not b && open_lines) (ne_eqb w (node_on s (leg M x)) n)

  pub not_far : is_farther usual_slack p (coordinate_on s (leg M x)) (coord_at M w) ≡ true → is_rival M s p x w ≡ false
  not_far far =
      let none : open_lines ≡ false =
      none_any (λ y. not (is_outdone_for_all s p (leg M x) (leg M y))) (lines_on s M w) (λ y on.
      let there = place_there M s y w (line_in M s w y on).1 in
      let off : is_farther usual_slack p (coordinate_on s (leg M x)) (coordinate_on s (leg M y)) ≡ true =
      ap (is_farther usual_slack p (coordinate_on s (leg M x))) there ∙ far in
      ap not (or_left (is_farther usual_slack p (coordinate_on s (leg M x)) (coordinate_on s (leg M y))) _ off)) in
      grind (arith, none, cases_Bool (not (w == node_on s (leg M x))))

  pub close : is_rival M s p x w ≡ true → is_farther usual_slack p (coordinate_on s (leg M x)) (coord_at M w) ≡ false
  close is = grind (arith, cases_Bool (is_farther usual_slack p (coordinate_on s (leg M x)) (coord_at M w)), not_far, both_ways)

  pub rival_known : IsMap M → is_rival M s p x w ≡ true → IsTrue (has_node M w)
  rival_known m is =
      let some = and_parts (not (w == node_on s (leg M x))) open_lines is in
      let at = Any-from_list_any (λ y. not (is_outdone_for_all s p (leg M x) (leg M y))) (lines_on s M w) some.1 in
      let y = get_or (lines_on s M w) at.0 at.1 in
      let on = has_from (lines_on s M w) y (Contains-get_or (lines_on s M w) at.0 at.1 at.2) in
      subst (λ (v : ℕ). IsTrue (has_node M v)) (line_in M s w y on).1 (node_there m s y (line_in M s w y on).0)
    where
      node_there : IsMap M → (s : Side) (y : ℕ) → IsTrue (has_line M y) → IsTrue (has_node M (node_on s (leg M y)))
      node_there m Outgoing y h = m.starts y h
      node_there m Incoming y h = m.ends y h

-- ---- the rivals that were added

pub added_more : (rival : ℕ → Bool) (es : List Placed) (k : ℕ) (e : Placed) (old mid new : List ℕ) → k < length es →
    get_or es k e ≡ e → AreAdded rival (take k es) old mid →
    ((n : ℕ) → Contains new n ↔ (Contains mid n ⊎ ((n ≡ e.node) × IsTrue (rival e.node)))) →
    AreAdded rival (take (k + 1) es) old new
added_more rival es k e old mid new lt at h more =
    let next : take (k + 1) es ≡ take k es ++ e ∷ [] = take_more es k e lt ∙ ap (λ (f : Placed). take k es ++ f ∷ []) at in
    record {
      sound = λ v there. elim ((more v).0 there) [
        | inl before ↦ h.sound v before
        | inr is ↦ inr (ap rival is.0 ∙ is.1)
      ];
      kept = λ v there. (more v).1 (inl (h.kept v there));
      whole = λ f there r. elim (Contains-push_cases (take k es) e f (subst (λ (fs : List Placed). Contains fs f) next there)) [
        | inl before ↦ (more f.node).1 (inl (h.whole f before r))
        | inr same ↦ (more f.node).1 (inr (ap (λ (g : Placed). g.node) (sym same), ap (λ (g : Placed). rival g.node) same ∙ r))
      ];
    }

-- ---- an ascending list of exactly the nodes that pass a test

pub all_found : (M : Map) (p : ℕ → Bool) (found : List ℕ) → IsStrictlyIncreasing found →
    ((v : ℕ) → Contains found v → IsTrue (p v) × IsTrue (has_node M v)) →
    ((v : ℕ) → IsTrue (has_node M v) → IsTrue (p v) → Contains found v) → found ≡ filter p (all_nodes M)
all_found M p found up sound whole =
    same_ascending found (filter p (all_nodes M)) up (IsStrictlyIncreasing-filter p (all_nodes M) (all_nodes_ascend M)) (λ v.
    let both : has (filter p (all_nodes M)) v ≡ (p v && has_node M v) =
    has-filter p (all_nodes M) v ∙ ap (λ (b : Bool). p v && b) (has-all_nodes M v) in
    grind (arith, both, sound v, whole v, in_from found v, has_from found v, cases_Bool (has found v), cases_Bool (p v), cases_Bool (has_node M v)))

-- ---- what was found at an LRP, and at one after another

abbrev pub numbered : ℕ → List Obstacle → List (ℕ × Obstacle)
numbered k os = map {A = Obstacle} {B = ℕ × Obstacle} (λ o. (k, o)) os

pub joined_at : (k : ℕ) (start one two three : List (ℕ × Obstacle)) (os ps qs : List Obstacle) →
    one ≡ start ++ numbered k os → two ≡ one ++ numbered k ps → three ≡ two ++ numbered k qs →
    three ≡ start ++ numbered k (os ++ ps ++ qs)
joined_at k start one two three os ps qs a b c = grind (arith, a, b, c, map-append, append_assoc)

abbrev at : Map → Reference → ℕ → ℕ → List (ℕ × Obstacle)
at M r k x = numbered k (obstacles_at M (side_at r k) (decoded_coord r k) x)

from_more : (M : Map) (r : Reference) (k : ℕ) (xs : List ℕ) (x : ℕ) → obstacles_from M r k (xs ++ x ∷ [])
    ≡ obstacles_from M r k xs ++ at M r (k + length xs) x
from_more M r k [] x =
    let here : k + 0 ≡ k = omega arith in
    append-nil (at M r k x) ∙ sym (ap (λ (n : ℕ). at M r n x) here)
from_more M r k (y ∷ xs) x =
    let step : suc k + length xs ≡ k + suc (length xs) = omega arith in
    grind (arith, from_more M r (suc k) xs x, append_assoc, step)

pub one_more : (M : Map) (r : Reference) (xs : List ℕ) (k x : ℕ) → k < length xs → get_or xs k x ≡ x →
    obstacles_from M r 0 (take (k + 1) xs) ≡ obstacles_from M r 0 (take k xs) ++ at M r k x
one_more M r xs k x lt is =
    let long : 0 + length (take k xs) ≡ k = omega (arith, length-take-le k xs (omega (arith, lt))) in
    ap (obstacles_from M r 0) (take_more xs k x lt ∙ ap (λ (y : ℕ). take k xs ++ y ∷ []) is)
    ∙ from_more M r 0 (take k xs) x ∙ ap (λ (n : ℕ). obstacles_from M r 0 (take k xs) ++ at M r n x) long
