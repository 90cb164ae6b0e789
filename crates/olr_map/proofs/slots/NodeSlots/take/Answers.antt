use Rattle.olr_map.proofs.Common.{◌≡◌, get_or, sym, subst, some_of, slots_of, Links}
use Rattle.olr_map.proofs.ColumnLemmas.{entry_is, row_removed}
use Rattle.olr_map.proofs.slots.NodeSlots.take.Goals as goal

pub returns-clause-removes : goal.returns-clause-removes
returns-clause-removes c =
    let s = c.args.self.now in
    let p = c.args.slot in
    let e = some_of _ c.requires in
    let taken = c.take-id.ensures in
    let o : c.replace-outs.result ≡ get_or s.outs.items p c.replace-outs.result =
    subst (λ (w : Links). w ≡ get_or s.outs.items p w) (sym c.replace-outs.ensures.value) c.index_mut.ensures.value in
    let i : c.replace-ins.result ≡ get_or s.ins.items p c.replace-ins.result =
    subst (λ (w : Links). w ≡ get_or s.ins.items p w) (sym c.replace-ins.ensures.value) c.index_mut-2.ensures.value in
    let is =
    entry_is s p e.0 e.1 c.take-id.result c.index-place.result.now c.replace-outs.result c.replace-ins.result
    taken.removes.was c.index-place.ensures o i in
    rw (← is) (row_removed s p e.0 e.1 (slots_of c.take-id.new.self) c.take-id.result c.replace-outs.new.dest
    c.replace-ins.new.dest taken.removes taken.count)
