use Rattle.olr_ambiguity.proofs.Common.{ℕ, List, Contains, get_or, sym, subst, Contains-get_or, Window, AreWindows}
use Rattle.olr_ambiguity.proofs.Cells.{grid_more}
use Rattle.olr_ambiguity.proofs.NearNodes.{in_slot, rival_near}
use Rattle.olr_ambiguity.proofs.finding.obstacles_near.Goals as goal

pub of-requires : goal.of-requires
of-requires g c = λ k d lt.
    let v = get_or c.deref-2.result.now k d in
    let there = subst (λ (vs : List ℕ). Contains vs v) c.deref-2.ensures.value (Contains-get_or c.deref-2.result.now k d lt) in
    let slot = c.in_ok-nodes.ensures.right v there in
    in_slot (g.M.MapRead.map c.args.map.now) c.args.ids.now c.args.places.now c.requires.beside c.requires.nodes slot.0 v slot.1

pub obstacles-requires-clause-grid : goal.obstacles-requires-clause-grid
obstacles-requires-clause-grid g c = λ k x at.
    let M = g.M.MapRead.map c.args.map.now in
    grid_more M _ _ c.in_ok-grid.grid.nodes.items c.in_ok-grid.ensures (λ v is.
    subst (λ (vs : List ℕ). Contains vs v) (sym c.deref-2.ensures.value)
    (rival_near M c.args.ids.now c.args.places.now c.requires.beside c.requires.nodes (g.met.M.MapRead.sound c.args.map.now)
    c.args.reference.now c.args.own.now c.deref.result.now c.in_ok-nodes.nodes.items
    (subst (λ (ws : List Window). AreWindows M c.args.reference.now c.args.own.now ws) (sym c.deref.ensures.value) c.in_ok-windows.ensures)
    c.in_ok-nodes.ensures.whole k x v at is))
