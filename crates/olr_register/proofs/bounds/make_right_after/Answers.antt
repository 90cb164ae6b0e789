use Rattle.olr_register.proofs.Common.{map_of, slot_of}
use Rattle.olr_register.proofs.bounds.make_right_after.Goals as goal

pub returns : goal.returns
returns c = λ is h. record {
  right = c.settle.ensures.right
      (c.reopen.ensures.under_way (map_of c.args.roads.now) (slot_of c.args.roads.now) (rw c.nodes.ensures h.under_way));
  sources = λ l on. c.settle.ensures.sources l.from l.within (c.reopen.ensures.sources l.from l.within (h.sources l on));
}
