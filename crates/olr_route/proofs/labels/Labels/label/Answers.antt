use Rattle.olr_route.proofs.Common.{◌≡◌, None, get_or, sym, ◌∙◌, arith, get_or_default, IsLabel, limit_of}
use Rattle.std.proofs.Common.{Ok, Err}
use Rattle.olr_spec.proofs.AscendingLists.{place_of, there_found}
use Rattle.olr_route.proofs.labels.Labels.label.Goals as goal

pub returns-in-Ok : goal.returns-in-Ok
returns-in-Ok c = λ M slot s a.
    let x = c.args.self.now in
    let place =
    place_of x.nodes.items c.args.node (Ok c.in-Ok.at) a.ascending (rw c.deref.ensures.value at c.in-Ok.ensures.position) in
    let here : get_or x.labels.items c.in-Ok.at (0, None) ≡ c.index.result.now =
    sym (c.index.ensures ∙ get_or_default x.labels.items c.in-Ok.at c.index.result.now (0, None) (omega arith)) in
    coe 0 1 (i. IsLabel M s (limit_of x) (place.1 i) (here i)) (a.each c.in-Ok.at place.0)

pub returns-in-Err : goal.returns-in-Err
returns-in-Err c = λ M slot s a near.
    let x = c.args.self.now in
    let place =
    place_of x.nodes.items c.args.node (Err c.in-Err.field-0) a.ascending
    (rw c.deref.ensures.value at c.in-Err.ensures.position) in
    let never = there_found x.nodes.items c.args.node (Err c.in-Err.field-0) place ((a.near c.args.node).1 near) in
    cc
