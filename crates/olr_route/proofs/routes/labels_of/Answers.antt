use Rattle.olr_route.proofs.Common.{◌∷◌, [], ◌++◌, ℕ, List, None, Option, Contains, length, get_or, length-append, ap, sym, ◌∙◌}
use Rattle.olr_route.proofs.Common.{subst, arith, below_more, get_or_default_zero, Along, IsLabel, is_some, get_or_push}
use Rattle.olr_route.proofs.Common.{get_or_append_left}
use Rattle.olr_route.proofs.routes.labels_of.Goals as goal

pub unwrap-dist-requires : goal.unwrap-dist-requires
unwrap-dist-requires g c =
    let h = c.requires in
    let near =
    (c.in_ok-nodes.ensures.nodes Along ((h.0, 0) ∷ []) c.node-item.result h.1).0
    (subst (λ (vs : List ℕ). Contains vs c.node-item.result) c.deref-node-items.ensures.value
    (c.loop-node.node-index, c.loop-node-test.true, sym c.node-item.is)) in
    ap (λ (o : Option ℕ). is_some o) ((c.dist.ensures Along ((h.0, 0) ∷ []) near.0 h.1).1 (near.1, near.2))

pub loop-node-preserved : goal.loop-node-preserved
loop-node-preserved g c =
    let inv = c.loop-node.invariant in
    let nodes = c.deref-node-items.result.now in
    let n = c.loop-node.node-index in
    let old = c.loop-node.labels.items in
    let label : ℕ × Option ℕ = (c.unwrap-dist.result, c.last_line.result) in
    let beside = inv.beside in
    rw c.in_ok-push.ensures.items (record {
      beside = omega (arith, length-append old (label ∷ []));
      each = λ s i h lt.
          let Is : ℕ → ℕ × Option ℕ → Type 0 = IsLabel (g.M.MapRead.map c.args.map.now) s c.args.settled.limit in
          let k = (c.dist.ensures Along ((s, 0) ∷ []) c.unwrap-dist.result h).0 c.unwrap-dist.ensures in
          below_more (λ j. Is (get_or nodes j 0) (get_or (old ++ label ∷ []) j (0, None))) n
          (λ j low. subst (Is (get_or nodes j 0))
          (sym (get_or_append_left old (label ∷ []) (0, None) j (omega arith))) (inv.each s j h low))
          (subst (Is (get_or nodes n 0)) (sym (get_or_push old label (0, None) n (omega arith)))
          (subst (λ (v : ℕ). Is v label)
          (c.node-item.is ∙ get_or_default_zero nodes n c.node-item.result c.loop-node-test.true)
          (record { dist = k.0; within = k.1; last = c.last_line.ensures s (record { search = h; dist = k.0; within = k.1 }) }))) i lt;
    })

pub invariant_of-result : goal.invariant_of-result
invariant_of-result g c =
    let beside = c.loop-node.invariant.beside in
    let long = ap (λ (vs : List ℕ). length vs) c.deref-node-items.ensures.value in
    omega (arith, c.loop-node-test.false)

pub returns-clause-labels : goal.returns-clause-labels
returns-clause-labels g c = λ s h.
    let M = g.M.MapRead.map c.args.map.now in
    let slot = g.M.MapRead.node_slot c.args.map.now in
    let long = ap (λ (vs : List ℕ). length vs) c.deref-node-items.ensures.value in
    record {
      sound = g.met.M.MapRead.sound c.args.map.now;
      search = h;
      ascending = c.in_ok-nodes.ensures.ascending Along ((s, 0) ∷ []) h;
      near = λ v. c.in_ok-nodes.ensures.nodes Along ((s, 0) ∷ []) v h;
      each = λ i lt. rw (sym c.deref-node-items.ensures.value)
          (c.loop-node.invariant.each s i h (omega (arith, c.loop-node-test.false)));
    }
