use Rattle.olr_register.proofs.Common.{◌≡◌, sym, subst, arith, Map, map_of, slot_of, nodes_of, dropped_nodes, SameBut}
use Rattle.olr_register.proofs.Bounded.{bounded_invalid, bounds_undone}
use Rattle.olr_register.proofs.bounds.undo_edits.Goals as goal

pub returns-then-drops_nodes : goal.returns-then-drops_nodes
returns-then-drops_nodes c = record {
  map = c.undo_all.ensures.map;
  bounded = λ is h. bounded_invalid c.forget.ensures;
}

pub returns : goal.returns
returns c = record {
  map = c.undo_all.ensures.map;
  bounded = λ is h.
      let old = c.args.roads.now in
      let new = c.undo_all.new.self in
      let T = nodes_of c.args.touched.now in
      let alike : SameBut T (map_of new) (map_of old) =
      subst (λ (M : Map). SameBut T M (map_of old)) (sym c.undo_all.ensures.map) c.requires.edits.difference.nodes in
      let none : dropped_nodes c.args.log ≡ 0 = grind arith in
      let undone = bounds_undone old new (c.undo_all.ensures.slots none) T alike h in
      record {
        under_way = c.reopen.ensures.under_way (map_of new) (slot_of new) (rw c.nodes.ensures undone.under_way);
        sources = λ l on. c.reopen.ensures.sources l.from l.within (undone.sources l on);
      };
}
