use Rattle.olr_renewal.proofs.Common.{◌≡◌, sym, ap, CoverageQuery}
use Rattle.olr_renewal.proofs.detours.is_clear.Goals as goal

pub returns-clause-clear : goal.returns-clause-clear
returns-clause-clear g c = λ yes.
    let l = c.args.query.now in
    let raw = c.query.inside in
    let from_is : raw.from ≡ l.from = ap (λ (k : CoverageQuery). k.from) c.query.view_is in
    let to_is : raw.to ≡ l.to = ap (λ (k : CoverageQuery). k.to) c.query.view_is in
    let within_is : raw.within ≡ l.within = ap (λ (k : CoverageQuery). k.within) c.query.view_is in
    let from = rw from_is at c.in-Some.ensures in
    let to = rw to_is at c.in-Some-slot_of.ensures in
    rw within_is at (c.are_longer.ensures yes (g.M.MapRead.map c.args.update.now.map.now)
    (g.M.MapRead.node_slot c.args.update.now.map.now) c.args.update.now.touched.now l.from l.to
    (g.met.M.MapRead.sound c.args.update.now.map.now) c.in_ok-settle_both.ensures from.0 (sym from.1) to.0 (sym to.1))
