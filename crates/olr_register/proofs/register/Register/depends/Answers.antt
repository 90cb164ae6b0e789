use Rattle.olr_register.proofs.Common.{refl, sym, ◌∙◌, map_of, items, ByState, nodes_of, lines_of, changed_of, No_memory}
use Rattle.olr_register.proofs.Common.{Lacks_memory, AreBoundsOf, slot_of}
use Rattle.olr_register.proofs.Bounded.{settled_bounds}
use Rattle.olr_register.proofs.Touched.{touched_idle, is_before}
use Rattle.olr_register.proofs.Renewed.{encoded_if_any}
use Rattle.olr_register.proofs.Shown.{dependents}
use Rattle.olr_register.proofs.WithoutBatch.{open_refused, shut_answered, shut_refused, shut_right}
use Rattle.olr_register.proofs.register.Register.depends.Goals.{After-settle}
use Rattle.olr_register.proofs.register.Register.depends.Goals as goal

pub returns-then-is_some : goal.returns-then-is_some
returns-then-is_some c = open_refused c.self.inside c.self.view_is c.if-is_some.ensures (λ d xs. refl)

pub returns-then-not-are_nodes : goal.returns-then-not-are_nodes
returns-then-not-are_nodes c =
    shut_refused c.self.inside c.self.view_is c.if-is_some.ensures _ refl
    (ByState (rw (sym c.are_nodes.ensures ∙ c.if-not-are_nodes.true)))

pub returns-in_err-around : goal.returns-in_err-around
returns-in_err-around c =
    shut_refused c.self.inside c.self.view_is c.if-is_some.ensures No_memory c.from_residual.ensures.1
    (Lacks_memory refl (rw (sym c.are_nodes.ensures ∙ c.if-not-are_nodes.false)))

pub affected_names-requires-clause-before : goal.affected_names-requires-clause-before
affected_names-requires-clause-before c =
    let r = c.self.inside in
    let t = c.in_ok-around.around in
    let h = (shut_right r c.if-is_some.ensures c.self.invariant).register in
    is_before r.margin h.content.margin (map_of r.roads) (map_of r.roads) (nodes_of t) (lines_of t) (changed_of t) (items r.paths)
    (touched_idle (map_of r.roads) (nodes_of t) (lines_of t) (changed_of t) c.in_ok-around.ensures.changed)
    h.content.map h.content.paths (encoded_if_any r.margin (map_of r.roads) (items r.paths) h.encoded)

-- the bounds, which are settled
settled : (c : After-settle) →
    AreBoundsOf (map_of c.self.inside.roads) (slot_of c.self.inside.roads) c.settle.new.self (items c.self.inside.paths)
settled c =
    let h = (shut_right c.self.inside c.if-is_some.ensures c.self.invariant).bounded in
    record {
      right = c.settle.ensures.right h.under_way;
      sources = λ l on. c.settle.ensures.sources l.from l.within (h.sources l on);
    }

pub affected_names-requires-clause-bounds : goal.affected_names-requires-clause-bounds
affected_names-requires-clause-bounds c = settled (goal.at.affected_names-requires-clause-bounds c).After-settle

pub invariant_of-self : goal.invariant_of-self
invariant_of-self c =
    rw c.affected_names.ensures.bounds (record {
      register = c.self.invariant.register;
      bounded = settled_bounds (settled (goal.at.invariant_of-self c).After-settle);
    })

pub invariant_of-self-2 : goal.invariant_of-self-2
invariant_of-self-2 c =
    rw c.affected_names.ensures.bounds (record {
      register = c.self.invariant.register;
      bounded = settled_bounds (settled (goal.at.invariant_of-self-2 c).After-settle);
    })

pub returns-in_err-names : goal.returns-in_err-names
returns-in_err-names c =
    rw (← c.self.view_is) (shut_refused c.self.inside refl c.if-is_some.ensures No_memory c.from_residual-in_err-names.ensures.1
    (Lacks_memory refl (rw (sym c.are_nodes.ensures ∙ c.if-not-are_nodes.false))))

pub returns : goal.returns
returns c =
    let r = c.self.inside in
    rw (← c.self.view_is) (shut_answered r refl c.if-is_some.ensures refl (
      rw (sym c.are_nodes.ensures ∙ c.if-not-are_nodes.false),
      dependents r.margin (map_of r.roads) c.args.nodes.now c.in_ok-around.around c.in_ok-around.ensures (items r.paths) _
          (shut_right r c.if-is_some.ensures c.self.invariant).register.encoded c.in_ok-names.ensures.names,
    ))
