use Rattle.olr_register.proofs.Common.{map_of, slot_of}
use Rattle.olr_register.proofs.bounds.bounds_from_scratch.Goals as goal

pub returns-in-Ok : goal.returns-in-Ok
returns-in-Ok c = λ roads T. record {
  under_way = c.add_sources.ensures.under_way (map_of roads) (slot_of roads) T
      (c.clear.ensures.under_way (map_of roads) (slot_of roads) T);
  sources = λ v on. c.add_sources.ensures.sources v (rw c.deref.ensures.value (c.in-Ok.ensures v on));
}
