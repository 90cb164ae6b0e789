use Rattle.olr_paths.proofs.Common.{arith, length-map, items, overlay_changes}
use Rattle.olr_paths.proofs.Changed.{overlaid_long}
use Rattle.olr_paths.proofs.overlaid_list.OverlaidList.len.Goals as goal

pub returns : goal.returns
returns c =
    let l = c.args.self in
    let sum = overlaid_long (overlay_changes l.overlay.now) (items l.list.now) (items l.overlay.now.added) l.none_removed in
    grind (arith, sum, length-map)
