use Rattle.olr_paths.proofs.Common.{◌∙◌, ap}
use Rattle.olr_paths.proofs.NotedPositions.{noted_more}
use Rattle.olr_paths.proofs.index.Index.note_each.Goals as goal

pub loop-k-preserved : goal.loop-k-preserved
loop-k-preserved g c = noted_more g.T.Numbered.number_of _ _ _ _ _ _ _ _ c.loop-k-test.true
    (c.index_number-number.ensures ∙ ap g.T.Numbered.number_of c.index-items-k.is) c.loop-k.invariant c.in_ok-add.ensures.ok
