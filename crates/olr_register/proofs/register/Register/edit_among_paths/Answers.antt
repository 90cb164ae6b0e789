use Rattle.olr_register.proofs.Common.{◌≡◌, ◌||◌, ◌==◌, ◌∷◌, ◌∙◌, ℕ, List, [], None, Ok, sym, items, map_of, slot_of, content_on, refl, ap}
use Rattle.olr_register.proofs.Common.{AreBoundsOf, ByState, Edit, ChangedLine, RoadMap, Inside, Registered, IsStateRight}
use Rattle.olr_register.proofs.Common.{HasBounds, IsBefore, IsEdit, IsUnderWay, KeepsSlots, changes_of, touched_nodes, touched_lines}
use Rattle.olr_register.proofs.Common.{Bool, On_map, edit_of, edited, at_once, has, or-false, option_to_list, Option, Some, MatchOption}
use Rattle.olr_map.specs.EditPlans.{IsEditPlan}
use Rattle.olr_map.specs.declared.judging.EditPlan.{EditPlan}
use Rattle.olr_renewal.specs.Bounds.{IsRight}
use Rattle.olr_renewal.specs.Reencoded.{AreLeft}
use Rattle.olr_register.proofs.Bounded.{bounds_stay, is_edit, settled_bounds}
use Rattle.olr_register.proofs.Changing.{edit_refused}
use Rattle.olr_register.proofs.Singles.{refused_now, same_map, edit_lacks_now, same_right, bounds_right, right, IsMadeNow}
use Rattle.olr_register.proofs.Singles.{renewed_made, left_made, right_now, done_now}
use Rattle.olr_register.proofs.States.{of_parts}
use Rattle.olr_register.proofs.Touched.{edit_before}
use Rattle.olr_register.proofs.register.Register.edit_among_paths.Goals.{In_ok-make_kept}
use Rattle.olr_register.proofs.register.Register.edit_among_paths.Goals as goal

pub returns-in-Err : goal.returns-in-Err
returns-in-Err c =
    let r = c.self.inside in
    refused_now r c.self.view_is c.requires.open _ refl refl
    (ByState (ap at_once (edit_refused (content_on r.margin (map_of r.roads) (items r.paths)) _ c.in-Err.fault c.in-Err.ensures.fault)))

-- ---- where no path is affected

module _ (r : Inside) {x : Registered} (view : of_parts r.margin r.roads (items r.paths) r.batch r.work ≡ x)
    (none : x.state.batch ≡ None) (h : IsStateRight r.margin r.roads (items r.paths) r.batch r.searches.bounds) (e : Edit)
    (j : EditPlan) (plan : IsEditPlan (map_of r.roads) (slot_of r.roads) e j) (new : RoadMap) (slots : KeepsSlots r.roads new)
    (done : edited (map_of r.roads) e ≡ Ok (map_of new)) (X : List ℕ) (line : X ≡ option_to_list j.line) where
  abbrev T : List ℕ
  T = j.nodes.0 ∷ j.nodes.1 ∷ []

  abbrev C : List ChangedLine
  C = changes_of (map_of r.roads) e

  nodes : (v : ℕ) → has T v ≡ has (touched_nodes (map_of r.roads) e) v
  nodes v = ap (λ (t : Bool). (j.nodes.0 == v) || t) (or-false (j.nodes.1 == v)) ∙ sym (plan.nodes v)

  lines : (y : ℕ) → has X y ≡ has (touched_lines e) y
  lines y = ap (λ (ys : List ℕ). has ys y) (line ∙ plan.lines)

  before : IsBefore r.margin (map_of r.roads) (map_of new) T X C (items r.paths)
  before = edit_before (right r view none h) e T X C nodes lines refl (map_of new) done

  edit : IsEdit T (map_of r.roads) (slot_of r.roads) (map_of new) (slot_of new)
  edit = is_edit r.roads new slots e done T before.difference.nodes

  module _ (bounds : IsEdit T (map_of r.roads) (slot_of r.roads) (map_of new) (slot_of new) →
      IsUnderWay (map_of r.roads) (slot_of r.roads) [] r.searches.bounds → IsRight (map_of new) (slot_of new) r.searches.bounds)
    where
      bounds_left : AreBoundsOf (map_of new) (slot_of new) r.searches.bounds (items r.paths)
      bounds_left =
          let bounded = bounds_right r view none h in
          record { right = bounds edit bounded.under_way; sources = bounded.sources }

      has_bounds : HasBounds new [] (items r.paths) r.searches.bounds
      has_bounds = settled_bounds bounds_left

      made : (IsEdit T (map_of r.roads) (slot_of r.roads) (map_of new) (slot_of new) →
          IsBefore r.margin (map_of r.roads) (map_of new) T X C (items r.paths) →
          AreBoundsOf (map_of new) (slot_of new) r.searches.bounds (items r.paths) →
          AreLeft r.margin (map_of r.roads) (map_of new) T X (items r.paths)) →
          IsMadeNow r view none r.margin (On_map e) new (items r.paths) [] r.work
      made left = left_made r view none h e new done plan.placed T X nodes lines (left edit before bounds_left)

-- the line, as a slice
lines_of_one : (o : Option ℕ) (ys : List ℕ) → MatchOption o (ys ≡ []) (λ y. ys ≡ y ∷ []) → ys ≡ option_to_list o
lines_of_one None ys is = is
lines_of_one (Some y) ys is = is

pub invariant_of-self : goal.invariant_of-self
invariant_of-self c =
    let r = c.self.inside in
    let same = c.in_err-make_kept.ensures.same in
    same_right r c.self.view_is c.requires.open c.self.invariant same refl
    (bounds_stay r.roads c.make_kept.new.self c.make_kept.ensures.slots same
    (bounds_right r c.self.view_is c.requires.open c.self.invariant))

pub returns-in_err-make_kept : goal.returns-in_err-make_kept
returns-in_err-make_kept c =
    let r = c.self.inside in
    edit_lacks_now r c.self.view_is c.requires.open c.requires.some c.in-Ok.ensures.plan.accepted
    (same_map r c.self.view_is c.requires.open c.make_kept.new.self c.in_err-make_kept.ensures.same) c.from_residual.ensures.1

-- the edit is made, and the bounds are right
stays : (c : In_ok-make_kept) →
    IsMadeNow c.self.inside c.self.view_is c.requires.open c.self.inside.margin (On_map (edit_of c.args.edit))
    c.make_kept.new.self (items c.self.inside.paths) [] c.self.inside.work
    × HasBounds c.make_kept.new.self [] (items c.self.inside.paths) c.self.inside.searches.bounds
stays c =
    let r = c.self.inside in
    let new = c.make_kept.new.self in
    let line = lines_of_one c.in-Ok.plan.line c.as_slice-lines.result.now c.as_slice-lines.ensures in
    let far = c.if-is_unaffected.ensures.bounds refl (map_of new) (slot_of new) in
    let left = c.if-is_unaffected.ensures.paths refl r.margin (map_of r.roads) (map_of new) (slot_of new)
    (changes_of (map_of r.roads) (edit_of c.args.edit)) in (
      made r c.self.view_is c.requires.open c.self.invariant (edit_of c.args.edit) c.in-Ok.plan c.in-Ok.ensures.plan new
          c.make_kept.ensures.slots c.in_ok-make_kept.ensures.done c.as_slice-lines.result.now line far left,
      has_bounds r c.self.view_is c.requires.open c.self.invariant (edit_of c.args.edit) c.in-Ok.plan c.in-Ok.ensures.plan new
          c.make_kept.ensures.slots c.in_ok-make_kept.ensures.done c.as_slice-lines.result.now line far,
    )

pub invariant_of-self-then-is_unaffected : goal.invariant_of-self-then-is_unaffected
invariant_of-self-then-is_unaffected c =
    let s = stays (goal.at.invariant_of-self-then-is_unaffected c).In_ok-make_kept in
    right_now c.self.inside c.self.view_is c.requires.open c.self.invariant s.0 s.1

pub returns-then-is_unaffected : goal.returns-then-is_unaffected
returns-then-is_unaffected c =
    done_now c.self.inside c.self.view_is c.requires.open (stays (goal.at.returns-then-is_unaffected c).In_ok-make_kept).0
    (rw c.new.ensures.items)

-- ---- otherwise

pub make_and_renew-requires-clause-right : goal.make_and_renew-requires-clause-right
make_and_renew-requires-clause-right c = right c.self.inside c.self.view_is c.requires.open c.self.invariant

pub invariant_of-self-in_err-renewed : goal.invariant_of-self-in_err-renewed
invariant_of-self-in_err-renewed c =
    let e = c.in_err-renewed.ensures in
    same_right c.self.inside c.self.view_is c.requires.open c.self.invariant e.map e.list c.make_and_renew.ensures.bounded

pub returns-in_err-renewed : goal.returns-in_err-renewed
returns-in_err-renewed c =
    let r = c.self.inside in
    let e = c.in_err-renewed.ensures in
    edit_lacks_now r c.self.view_is c.requires.open c.requires.some c.in-Ok.ensures.plan.accepted
    (rw e.list (same_map r c.self.view_is c.requires.open c.make_and_renew.new.roads e.map)) c.from_residual-in_err-renewed.ensures.1

pub invariant_of-self-2 : goal.invariant_of-self-2
invariant_of-self-2 c =
    let r = c.self.inside in
    let e = c.in_ok-renewed.ensures in
    right_now r c.self.view_is c.requires.open c.self.invariant
    (renewed_made r c.self.view_is c.requires.open c.self.invariant (edit_of c.args.edit) c.make_and_renew.new.roads e.done
    c.in-Ok.ensures.plan.placed e.renewed.1 e.renewed.2) c.make_and_renew.ensures.bounded

pub returns : goal.returns
returns c =
    let r = c.self.inside in
    let e = c.in_ok-renewed.ensures in
    rw c.plus-self-inside.ensures (done_now r c.self.view_is c.requires.open
    (renewed_made r c.self.view_is c.requires.open c.self.invariant (edit_of c.args.edit) c.make_and_renew.new.roads e.done
    c.in-Ok.ensures.plan.placed e.renewed.1 e.renewed.2) refl)
