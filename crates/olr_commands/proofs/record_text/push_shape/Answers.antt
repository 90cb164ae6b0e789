use Rattle.std.proofs.Common.{◌∙◌}
use Rattle.olr_commands.proofs.RecordLemmas.{points_more}
use Rattle.olr_commands.proofs.record_text.push_shape.Goals as goal

pub loop-point-preserved : goal.loop-point-preserved
loop-point-preserved c =
    rw (c.in_ok-push_coord.ensures, c.in_ok-push_number.ensures, c.loop-point.invariant)
    (points_more _ c.args.shape.now _ _ _ (c.point.view_is ∙ c.point-item.is) c.loop-point-test.true)
