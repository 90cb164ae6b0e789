use Rattle.olr_register.proofs.Common.{refl, sym, ◌∙◌, record_line, node_change, coord_at, map_of, ByState, append-nil}
use Rattle.olr_register.proofs.Common.{No_memory, Lacks_memory, Records}
use Rattle.olr_register.proofs.WithoutBatch.{open_refused, shut_answered, shut_refused}
use Rattle.olr_register.proofs.register.Register.show_node.Goals as goal

pub returns-then-is_some : goal.returns-then-is_some
returns-then-is_some c = open_refused c.self.inside c.self.view_is c.if-is_some.ensures (λ d xs. refl)

pub returns-then-is_none : goal.returns-then-is_none
returns-then-is_none c =
    shut_refused c.self.inside c.self.view_is c.if-is_some.ensures _ refl
    (ByState (rw (← c.node.ensures, c.is_none.ensures, c.if-is_none.true)))

pub returns-then-not-is_recordable_place : goal.returns-then-not-is_recordable_place
returns-then-not-is_recordable_place c =
    shut_refused c.self.inside c.self.view_is c.if-is_some.ensures _ refl
    (ByState (rw (sym c.is_recordable_place.ensures ∙ c.if-not-is_recordable_place.true, ← c.node.ensures, c.is_none.ensures, c.if-is_none.false)))

pub returns-in_err-push_node : goal.returns-in_err-push_node
returns-in_err-push_node c =
    shut_refused c.self.inside c.self.view_is c.if-is_some.ensures No_memory c.from_residual.ensures.1
    (Lacks_memory refl (rw (sym c.is_recordable_place.ensures ∙ c.if-not-is_recordable_place.false, ← c.node.ensures, c.is_none.ensures, c.if-is_none.false)))

pub returns : goal.returns
returns c =
    let node = record_line (node_change (c.args.id, coord_at (map_of c.self.inside.roads) c.args.id)) in
    let text = rw (c.new-text.ensures.items, ← append-nil node) at c.in_ok-push_node.ensures in
    shut_answered c.self.inside c.self.view_is c.if-is_some.ensures refl (
      rw (sym c.is_recordable_place.ensures ∙ c.if-not-is_recordable_place.false, ← c.node.ensures, c.is_none.ensures, c.if-is_none.false),
      λ i. Records 1 (text i),
    )
