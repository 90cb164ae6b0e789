use Rattle.olr_register.proofs.Common.{edit_of, map_of, content_on, ◌≡◌, [], length, refl, ap, arith, at_once, ByState, items}
use Rattle.olr_register.proofs.Common.{No_memory}
use Rattle.olr_register.proofs.Bounded.{bounds_stay}
use Rattle.olr_register.proofs.Changing.{edit_refused, edit_lacks}
use Rattle.olr_register.proofs.Singles.{refused_now, same_map, may_refuse_now, same_right, bounds_right, no_path}
use Rattle.olr_register.proofs.Singles.{bare_made, right_now, done_now}
use Rattle.olr_register.proofs.register.Register.edit_now.Goals as goal

pub returns-in-Err : goal.returns-in-Err
returns-in-Err c =
    let r = c.self.inside in
    refused_now c.self.inside c.self.view_is c.requires _ refl refl
    (ByState (ap at_once (edit_refused (content_on r.margin (map_of r.roads) (items r.paths)) _ c.in-Err.fault c.in-Err.ensures.fault)))

pub invariant_of-self : goal.invariant_of-self
invariant_of-self c =
    let same = c.in_err-make_kept.ensures.same in
    same_right c.self.inside c.self.view_is c.requires c.self.invariant same refl
    (bounds_stay c.self.inside.roads c.make_kept.new.self c.make_kept.ensures.slots same
    (bounds_right c.self.inside c.self.view_is c.requires c.self.invariant))

pub returns-in_err-make_kept : goal.returns-in_err-make_kept
returns-in_err-make_kept c =
    let r = c.self.inside in
    let e = c.in_err-make_kept.ensures in
    let bare : length c.args.self.now.state.content.paths ≡ 0 = omega arith in
    may_refuse_now r c.self.view_is c.requires No_memory
    (same_map r c.self.view_is c.requires c.make_kept.new.self e.same) c.from_residual.ensures.1
    (rw bare e.lacks)
    (edit_lacks (content_on r.margin (map_of r.roads) (items r.paths)) _ c.in-Ok.ensures.plan.accepted)

pub invariant_of-self-2 : goal.invariant_of-self-2
invariant_of-self-2 c =
    let r = c.self.inside in
    let bare = no_path r c.self.view_is c.requires (omega arith) in
    right_now r c.self.view_is c.requires c.self.invariant
    (bare_made r c.self.view_is c.requires c.self.invariant (edit_of c.args.edit) c.make_kept.new.self
    c.in_ok-make_kept.ensures.done c.in-Ok.ensures.plan.placed bare)
    (rw bare (record { under_way = c.clear.ensures.under_way _ _ []; sources = λ v on. absurd on }))

pub returns : goal.returns
returns c =
    let r = c.self.inside in
    done_now r c.self.view_is c.requires (bare_made r c.self.view_is c.requires c.self.invariant (edit_of c.args.edit)
    c.make_kept.new.self c.in_ok-make_kept.ensures.done c.in-Ok.ensures.plan.placed
    (no_path r c.self.view_is c.requires (omega arith)))
    (rw c.new.ensures.items)
