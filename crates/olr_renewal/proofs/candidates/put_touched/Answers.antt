use Rattle.olr_renewal.proofs.Common.{Against}
use Rattle.olr_renewal.proofs.Covering.{covers_by}
use Rattle.olr_renewal.proofs.candidates.put_touched.Goals as goal

pub returns : goal.returns
returns g c =
    let t = c.args.touched.now in
    let l = c.args.list.now in
    let ids = l.path_ids.items in
    let slot = g.M.MapRead.node_slot c.args.map.now in
    let four = c.put_found_at.new.found.items in
    let grown2 = c.in_ok-put_found-2.ensures.grows in
    let grown3 = c.in_ok-put_found-3.ensures.grows in
    let grown4 = c.in_ok-put_found_at.ensures.grows in
    let same = c.as_slice-ids.ensures.value in
    let one = rw (same, c.nodes-nodes.ensures) at c.in_ok-put_found.ensures.put in
    let two = rw (same, c.nodes-nodes.ensures) at c.in_ok-put_found-2.ensures.put in
    let three = rw (same, c.deref.ensures.value) at c.in_ok-put_found-3.ensures.put in
    covers_by _ t l c.requires.encoded c.requires.indexed four
    (λ i d lt k low on. grown4 k (grown3 k (grown2 k (one i d lt k low on))))
    (λ i d lt k low on. grown4 k (three i d lt k low on)) (g.met.M.MapRead.sound c.args.map.now) slot _
    (λ i d lt k low on. grown4 k (grown3 k (two i d lt k low on)))
    (λ begun lengths v known small. (rw same at c.in_ok-put_found_at.ensures.put) v known
    (c.labelled_slots.ensures.labelled (g.M.MapRead.map c.args.map.now) slot Against begun v lengths known small))
