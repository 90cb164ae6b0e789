use Rattle.olr_paths.proofs.Common.{slice_get_within, slice_get, NamedPath, IsNoted, String, Global, arith, subst, Some, ◌≡◌, sym}
use Rattle.olr_paths.proofs.PathIdLemmas.{noted_but}
use Rattle.olr_paths.proofs.NotedPositions.{One}
use Rattle.olr_paths.proofs.positions.tidy.Goals as goal

pub invariant_of-list-in-loop-position : goal.invariant_of-list-in-loop-position
invariant_of-list-in-loop-position c =
    let l = c.loop-position.list in
    let r : One = c.loop-position-item.result in
    let x : String Global × NamedPath = (c.in-Some.field-0-0.now, c.in-Some.now.now) in
    let at : slice_get l.paths.entries r.0 ≡ Some x = sym c.in-Some.ensures.entry in
    record {
      long = l.long;
      ascend = l.ascend;
      noted = noted_but l c.forget.new.self r.0 _ (omega (arith, slice_get_within l.paths.entries r.0 x at, l.long))
          c.index-path_id.ensures c.forget.ensures.spares x at (λ h. subst (IsNoted c.forget.new.self c.index-path_id.result.now) c.keys-in-loop-position.ensures
          (c.forget.ensures.stays (subst (IsNoted l.finder c.index-path_id.result.now) (sym c.keys-in-loop-position.ensures) h)));
      encoded = l.encoded;
    }
