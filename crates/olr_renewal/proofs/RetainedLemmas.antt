-- Results that are right on a map are right on the next one, if no change can affect them.
use Rattle.olr_renewal.proofs.Common.{AreEncodingsIfAny, AreKnownWith, By_line, By_name, By_node, ChangedLine, CoverageQuery}
use Rattle.olr_renewal.proofs.Common.{IsAffected, IsBefore, IsEncodingOf, IsMap, IsTrue, Item, List, Results, Map, Margin, Option}
use Rattle.olr_renewal.proofs.Common.{Path, Some, arith, cases_Bool, false, get_or, has, inl, inr, refl, None, is_margin, is_path}
use Rattle.olr_renewal.proofs.Common.{min, slice_get, subst, ℕ, All, ◌≡◌, ◌≤◌, at_position, farthest, AreShort, BeginsIn, ToName}
use Rattle.olr_renewal.proofs.Common.{Retains, IsActionFor, Action, Skip, Retain, Encode, IsGiven, known_in, Touches, LineTouched}
use Rattle.olr_renewal.proofs.Common.{QueryTouched, TraversedTouched, known_kept, TraversedOf, IsClear, AllByRecursion, Contains}
use Rattle.olr_renewal.proofs.Common.{IfSome, true, ◌∷◌, [], Near, GREATEST_LIMIT, Contains-get_or, eqb-true, ◌==◌, AreLeft}
use Rattle.olr_renewal.proofs.Common.{ToSkip, zero, suc}
use Rattle.olr_spec.proofs.StayLemmas.{untouched_retained_with}
use Rattle.olr_spec.proofs.TestedLemmas.{foot_affected_with}
use Rattle.olr_refs.proofs.QueryRange.{query_short}

-- no coverage query is longer than the greatest limit
near_wider : {L : Map} {T : List ℕ} {s : ℕ} (d e : ℕ) → d ≤ e → Near L T s d → Near L T s e
near_wider d e le near =
    let short = near.within in
    record { node = near.node; route = near.route; touched = near.touched; leads = near.leads; within = omega arith }

module _ {g : Margin} {M N : Map} (n : IsMap N) {T X : List ℕ} {C : List ChangedLine} {is : List Item}
    (q : IsBefore g M N T X C is)
    (k : ℕ) (i : Item) (at : slice_get is k ≡ Some i) where
  abbrev P : Path
  P = i.path

  path : IsTrue (is_path P.lines)
  path = at_position (AllByRecursion (λ j. IsTrue (is_path j.path.lines))) (λ j. IsTrue (is_path j.path.lines))
      (λ x xs h. h) is k i q.paths at

  lines_off : ¬ LineTouched X P → (x : ℕ) → has X x ≡ true → has P.lines x ≡ false
  lines_off free x on = elim (cases_Bool (has P.lines x)) [ inl e ↦ absurd (free (x, on, e)) | inr e ↦ e ]

  module _ {m : Results} (some : i.results ≡ Some m) where
    results : IsEncodingOf g M P m
    results = subst (λ (o : Option Results). IfSome o (IsEncodingOf g M P)) some
        (at_position (AreEncodingsIfAny g M) (λ j. IfSome j.results (IsEncodingOf g M j.path)) (λ x xs h. h) is k i q.results at)

    within : (l : CoverageQuery) → Contains m.queries l → l.within ≤ GREATEST_LIMIT
    within l on = omega (arith, (query_short g q.margin M P m.queries results.queries l on).1)

    nodes_off : ¬ TraversedTouched T m → (v : ℕ) → has T v ≡ true → ¬ TraversedOf M P v
    nodes_off free v on o = free (v, on, (results.traversed v).1 o)

    stays_clear : ¬ TraversedTouched T m → ¬ LineTouched X P → All (IsClear N C) m.queries → IsEncodingOf g N P m
    stays_clear nodes_free lines_free clear =
        let d = q.difference in
        let lines = lines_off lines_free in
        let traversed = nodes_off nodes_free in
        let k = untouched_retained_with g M N q.sound n T X C d P path lines traversed m.queries results.queries clear in
        record {
          answer = k.0 m.answer results.answer;
          traversed = λ v. ((λ o. (k.1 v).0 ((results.traversed v).0 o)), (λ o. (results.traversed v).1 ((k.1 v).1 o)));
          queries = k.2;
          known = known_kept g M N C d.there d.here P.lines m.queries clear m.known results.known;
        }

    -- a detour begins with a route to a touched node
    clear_far : ¬ QueryTouched N T m.queries → All (IsClear N C) m.queries
    clear_far far = λ j d lt detour.
        let l : CoverageQuery = get_or m.queries j d in
        let on : Contains m.queries l = Contains-get_or m.queries j d lt in
        let short = within l on in
        let w = detour.within in
        far (
          l,
          on,
          record {
            node = detour.first.from;
            route = detour.before;
            touched = q.starts detour.first detour.first_listed;
            leads = detour.leads;
            within = omega arith;
          },
        )

    pub stays_unless : ¬ Touches N T X m P → IsEncodingOf g N P m
    stays_unless free = stays_clear (λ o. free (inl o)) (λ x. free (inr (inl x))) (clear_far (λ l. free (inr (inr l))))

    pub stays_retained : Retains N T X C m P → IsEncodingOf g N P m
    stays_retained stays = stays_clear stays.traversed stays.lines stays.clear

    -- ---- which paths are affected

    pub affected_by : Touches N T X m P → IsAffected g M T X i
    affected_by (inl t) =
        let f = (foot_affected_with g M N q.sound T q.difference.nodes P path m.queries results.queries).1
        (inl (t.0, t.1, (results.traversed t.0).0 t.2)) in By_node f.0 f.1 f.2
    affected_by (inr (inl t)) = By_line t.0 t.1 t.2
    affected_by (inr (inr t)) =
        let f = (foot_affected_with g M N q.sound T q.difference.nodes P path m.queries results.queries).1
        (inr (t.0, t.1, near_wider (min t.0.within GREATEST_LIMIT) t.0.within (omega arith) t.2)) in By_node f.0 f.1 f.2

    pub touched_by : IsAffected g M T X i → Touches N T X m P
    touched_by (By_name none) = absurd cc
    touched_by (By_node v on foot) =
        elim ((foot_affected_with g M N q.sound T q.difference.nodes P path m.queries results.queries).0 (v, on, foot)) [
          | inl traversed ↦ inl (traversed.0, traversed.1, (results.traversed traversed.0).1 traversed.2)
          | inr query ↦
              let l : CoverageQuery = query.0 in
              let short = within l query.1 in
              inr (inr (l, query.1, near_wider l.within (min l.within GREATEST_LIMIT) (omega arith) query.2))
        ]
    touched_by (By_line x on line) = inr (inl (x, on, line))

  known_right : (o : Option Results) → i.results ≡ o → AreKnownWith g M P.lines (known_in o)
  known_right None none = λ k d lt. absurd (omega arith)
  known_right (Some m) some = λ k d lt. ((results some).known k d lt).right

  -- of its coverage queries along its own lines, those that stay right are given to the encoding
  pub given_known : (a : Action) → IsActionFor N T X C i.results P a → IsGiven N g P.lines a
  given_known Skip f = tt
  given_known Retain f = tt
  given_known (Encode ks) f = f.1 g M P.lines q.difference.there q.difference.here (known_right i.results refl)

  pub named_affected : ToName N T X i.results i.path → IsAffected g M T X i
  named_affected (inl none) = By_name none
  named_affected (inr f) = affected_by f.1 f.2

-- where no path is touched, each result stays right
module _ {g : Margin} {M N : Map} (n : IsMap N) {T X : List ℕ} {C : List ChangedLine} {is : List Item}
    (q : IsBefore g M N T X C is) where
  abbrev LeavesAt : List Item → Type 0
  LeavesAt js = (k : ℕ) (i : Item) → slice_get js k ≡ Some i →
      ((m : Results) × (i.results ≡ Some m) × IsEncodingOf g N i.path m) × ¬ IsAffected g M T X i

  left_by : (js : List Item) → LeavesAt js → AreLeft g M N T X js
  left_by [] h = (tt, refl)
  left_by (i ∷ js) h =
      let one = h zero i refl in
      let rest = left_by js (λ k j at. h (suc k) j at) in ((one.0, rest.0), inr (one.1, rest.1))

  pub all_left : ((k : ℕ) (i : Item) → slice_get is k ≡ Some i → ToSkip N T X i.results i.path) → AreLeft g M N T X is
  all_left skips = left_by is (λ k i at. let f = skips k i at in (
    (f.0, f.1, stays_unless n q k i at f.1 f.2),
    (λ o. f.2 (touched_by n q k i at f.1 o)),
  ))

-- so no coverage query of the list is longer than the farthest one may be
short_by : (g : Margin) → IsTrue (is_margin g) → (M : Map) (is : List Item) → AreEncodingsIfAny g M is → AreShort g is
short_by g most M [] h l b = absurd b
short_by g most M (i ∷ is) h l (inl b) = of i.results h.0 b where
  of : (o : Option Results) → IfSome o (IsEncodingOf g M i.path) → BeginsIn o l → l.within ≤ farthest g
  of None e b = absurd b
  of (Some m) e b =
      let short = query_short g most M i.path m.queries e.queries l b in
      elim (cases_Bool (g.routes == 0)) [
        | inl on ↦ rw on (short.0 (eqb-true g.routes 0 on))
        | inr off ↦ rw off short.1
      ]
short_by g most M (i ∷ is) h l (inr b) = short_by g most M is h.1 l b

pub are_short : {g : Margin} {M N : Map} {T X : List ℕ} {C : List ChangedLine} {is : List Item} →
    IsBefore g M N T X C is → AreShort g is
are_short {g} {M} {N} {T} {X} {C} {is} q = short_by g q.margin M is q.results
