use Rattle.olr_renewal.proofs.Common.{shown_item, get_or, arith, ℕ}
use Rattle.olr_renewal.proofs.RetainedLemmas.{given_known}
use Rattle.olr_renewal.proofs.SearchedLemmas.{searched_at}
use Rattle.olr_renewal.proofs.Passing.{walked_none, walked_past, walked_one, walked_to}
use Rattle.olr_renewal.proofs.RenewedPrefix.{so_far_none, so_far_step, unaffected, all_renewed}
use Rattle.olr_renewal.proofs.renewal.renewal_by.Goals as goal

pub decide-requires-clause-searched : goal.decide-requires-clause-searched
decide-requires-clause-searched g c = searched_at _ _ _ _ _ _ _ c.in-Some.ensures.shown
    (c.requires.candidates.searched (omega (arith, c.loop-position-test.true)))

pub decide-requires-clause-detours : goal.decide-requires-clause-detours
decide-requires-clause-detours g c = c.loop-position.invariant.1 (omega (arith, c.loop-position-test.true))

pub advance-requires : goal.advance-requires
advance-requires g c = given_known (g.met.M.MapRead.sound c.args.update.now.map.now) c.requires.before.1 _ _
    c.in-Some.ensures.shown c.in_ok-action.action c.in_ok-action.ensures.action

pub loop-position-init : goal.loop-position-init
loop-position-init g c = (
  walked_none c.requires.candidates.ascending (unaffected (g.met.M.MapRead.sound c.args.update.now.map.now)
      c.args.update.now.touched.now _ c.requires.follows c.requires.candidates.covers c.none-renewal.result)
      (so_far_none _ c.none-renewal.ensures.fresh c.none-renewal.ensures.entries c.none-renewal.ensures.work),
  c.requires.detours,
)

pub loop-position-preserved-in_default : goal.loop-position-preserved-in_default
loop-position-preserved-in_default g c = (
  walked_past c.requires.candidates.ascending c.loop-position-test.true c.loop-position.invariant.0
      c.in_default.ensures.shown,
  c.loop-position.invariant.1,
)

pub loop-position-preserved : goal.loop-position-preserved
loop-position-preserved g c =
    let up = c.requires.candidates.ascending in
    let lt = c.loop-position-test.true in
    let at = c.in-Some.ensures.shown in
    let position : ℕ = get_or c.args.positions.now c.loop-position.position-index 0 in
    let sound = g.met.M.MapRead.sound c.args.update.now.map.now in (
      walked_one up (unaffected sound c.args.update.now.touched.now _ c.requires.follows c.requires.candidates.covers
          c.advance.new.self) lt at
          (so_far_step sound c.requires.follows position (shown_item c.in-Some.shown) at c.in_ok-action.action
          (walked_to up lt c.loop-position.invariant.0 at) c.in_ok-action.ensures.action c.in_ok-advance.ensures),
      (λ some. c.in_ok-action.ensures.detours),
    )

pub returns : goal.returns
returns g c = all_renewed (g.met.M.MapRead.sound c.args.update.now.map.now) _ _
    c.requires.follows c.requires.candidates.covers c.loop-position.renewal c.requires.before c.loop-position.position-index
    (omega (arith, c.loop-position-test.false)) c.loop-position.invariant.0
