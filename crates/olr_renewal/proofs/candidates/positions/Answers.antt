use Rattle.olr_renewal.proofs.Common.{◌≡◌, ◌∙◌, sym, length, arith, length-map, items, overlay_changes, shown_items, nodes_of}
use Rattle.olr_renewal.proofs.Common.{lines_of, item_of, dedup_is}
use Rattle.olr_renewal.proofs.AroundLemmas.{once_ascends, once_has}
use Rattle.olr_renewal.proofs.Covering.{covers_more, covers_overlaid, covers_grown, changed_grown}
use Rattle.olr_renewal.proofs.candidates.positions.Goals as goal

pub returns : goal.returns
returns g c =
    let N = g.M.MapRead.map c.args.update.now.map.now in
    let slot = g.M.MapRead.node_slot c.args.update.now.map.now in
    let t = c.args.update.now.touched.now in
    let s = c.args.near.now in
    let l = c.args.overlaid in
    let cs = overlay_changes l.overlay.now in
    let is = items l.list.now in
    let ys = items l.overlay.now.added in
    let one = c.put_listed.new.found.items in
    let two = c.put_range.new.found.items in
    let grown = c.in_ok-put_range.ensures.grows in
    let long : c.len-count.result ≡ length is =
    c.len-count.ensures.len ∙ sym (length-map l.list.now.paths.entries item_of) in
    let more : c.len.result ≡ length ys =
    c.len.ensures.len ∙ sym (length-map l.overlay.now.added.paths.entries item_of) in
    let sorted = c.sort_unstable.new.self.items in
    let once = dedup_is _ _ _ c.dedup.ensures.filtered in
    record {
      ascending = once_ascends sorted _ c.sort_unstable.ensures.sorted once;
      covers = covers_more N (nodes_of t) (lines_of t) (shown_items l) two c.dedup.new.self.items
          (λ v. (once_has two sorted c.dedup.new.self.items c.sort_unstable.ensures.permutation once v).1)
          (covers_overlaid cs is ys l.none_removed N slot t s two
          (covers_grown N slot t s is one two grown c.in_ok-put_listed.ensures.listed)
          (changed_grown cs is one two grown c.in_ok-put_listed.ensures.changed)
          (λ k low high. c.in_ok-put_range.ensures.put k (omega arith) (omega arith)) c.requires);
    }
