use Rattle.olr_renewal.proofs.Common.{◌≡◌, Some, Item, List, ap, arith, to_renew, length, option_map, shown_item}
use Rattle.olr_renewal.proofs.Common.{shown_items, inl, refl, slice_get, take_all, without_answer, ◌∙◌, map, true, length-map}
use Rattle.olr_renewal.proofs.Common.{slice_get-map, Encode}
use Rattle.olr_renewal.proofs.Following.{follows_without}
use Rattle.olr_renewal.proofs.Passing.{past_end}
use Rattle.olr_renewal.proofs.RenewedPrefix.{so_far_none, so_far_step, whole}
use Rattle.olr_renewal.proofs.renewal.renewal_of_all.Goals as goal

pub unreachable-requires : goal.unreachable-requires
unreachable-requires g c =
    let is = shown_items c.args.overlaid in
    let none = c.at.ensures.shown ∙ ap (option_map shown_item) c.in_default.is in
    omega (arith, past_end is c.loop-position.position none, c.len-position-end.ensures)

pub advance-requires : goal.advance-requires
advance-requires g c = rw c.new.ensures.items (λ k d lt. absurd (omega arith))

pub loop-position-init : goal.loop-position-init
loop-position-init g c =
    λ t. so_far_none c.none-renewal.result c.none-renewal.ensures.fresh c.none-renewal.ensures.entries c.none-renewal.ensures.work

pub loop-position-preserved : goal.loop-position-preserved
loop-position-preserved g c =
    let is = shown_items c.args.overlaid in
    let i : Item = shown_item c.in-Some.shown in
    let position = c.loop-position.position in
    let at : slice_get (map without_answer is) position ≡ Some (without_answer i) =
    slice_get-map without_answer is position ∙ ap (option_map without_answer) (c.at.ensures.shown ∙ ap (option_map shown_item) c.in-Some.is) in
    λ t. so_far_step (g.met.M.MapRead.sound c.args.update.now.map.now) (follows_without _ is) position (without_answer i)
    at (Encode c.new.result) (c.loop-position.invariant t)
    (inl refl, (λ h L ls there here are. rw c.new.ensures.items (λ k d lt. absurd (omega arith))))
    c.in_ok-advance.ensures

pub returns : goal.returns
returns g c = λ L t was.
    let is = shown_items c.args.overlaid in
    let ws : List Item = to_renew true is in
    let r = c.loop-position.renewal in
    let long : length ws ≡ length is = length-map is without_answer in
    let end = take_all c.loop-position.position ws (omega (arith, long, c.len-position-end.ensures, c.loop-position-test.false)) in
    whole {t = t} r (L, was) (rw end at (c.loop-position.invariant t))
