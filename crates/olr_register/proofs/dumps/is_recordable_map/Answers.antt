use Rattle.olr_register.proofs.Common.{refl, sym, arith, map_of}
use Rattle.olr_register.proofs.DumpTexts.{not_by_node, by_nodes}
use Rattle.olr_register.proofs.dumps.is_recordable_map.Goals as goal

pub overflow_cast-slot : goal.overflow_cast-slot
overflow_cast-slot c =
    record {
      fits = omega (arith, c.args.roads.now.kept.placed.few, c.slot_count-slot-end.ensures, c.loop-slot-test.true);
    }

pub returns-then-not-is_recordable_slot : goal.returns-then-not-is_recordable_slot
returns-then-not-is_recordable_slot c =
    let one = c.if-not-is_recordable_slot.ensures.one refl in
    sym (not_by_node (map_of c.args.roads.now) one.0 one.1)

pub returns : goal.returns
returns c =
    let kept = c.args.roads.now.kept in
    sym (by_nodes (map_of c.args.roads.now) kept.sound (λ v there. c.loop-slot.invariant v there
    (omega (arith, kept.placed.below v there, c.slot_count-slot-end.ensures, c.loop-slot-test.false))))
