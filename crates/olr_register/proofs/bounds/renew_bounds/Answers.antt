use Rattle.olr_register.proofs.Common.{inl, inr, map_of, slot_of}
use Rattle.olr_register.proofs.bounds.renew_bounds.Goals as goal

pub returns-else-add_wasted_labels : goal.returns-else-add_wasted_labels
returns-else-add_wasted_labels c = λ roads T is h new. rw c.add_wasted_labels.ensures (record {
  under_way = λ known.
      let right = c.add_sources.ensures.under_way (map_of roads) (slot_of roads) T h.under_way known in
      record { closed = right.closed; sources = right.sources };
  sources = λ l b. elim (new l b) [
    | inl old ↦ c.add_sources.ensures.before l.from l.within (h.sources l old)
    | inr on ↦ c.add_sources.ensures.sources l (rw c.deref.ensures.value on)
  ];
})

pub returns-then-add_wasted_labels : goal.returns-then-add_wasted_labels
returns-then-add_wasted_labels c = λ roads T is h new. c.bounds_from_scratch.ensures roads T
