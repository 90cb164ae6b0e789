use Rattle.olr_renewal.proofs.Common.{◌≡◌, ℕ, IsTrue, get_or, sym, ◌∙◌, arith, has_node, Finds, get_or_default, below_more}
use Rattle.olr_renewal.proofs.Covering.{finds_none}
use Rattle.olr_renewal.proofs.candidates.put_found_at.Goals as goal

pub loop-slot-preserved : goal.loop-slot-preserved
loop-slot-preserved g c =
    let M = g.M.MapRead.map c.args.map.now in
    let slot = g.M.MapRead.node_slot c.args.map.now in
    let slots = c.args.slots.now in
    let more = c.in_ok-put_positions.ensures in
    let now = c.put_positions.new.found.items in
    record {
      grows = λ k on. more.grows k (c.loop-slot.invariant.grows k on);
      put = below_more (λ j. (v : ℕ) → IsTrue (has_node M v) → slot v ≡ get_or slots j 0 →
          Finds c.args.path_ids.now c.args.index.now v now) c.loop-slot.slot-index
          (λ j low v known at k lt on. more.grows k (c.loop-slot.invariant.put j low v known at k lt on))
          (λ v known at k lt on.
          let is : c.in-Some.node ≡ v = cc ((c.in-Some.ensures v).1 (known, at)) in
          more.put k lt (rw (c.of.ensures.path_ids, c.number.ensures.same, is) on));
    }

pub loop-slot-preserved-in_default : goal.loop-slot-preserved-in_default
loop-slot-preserved-in_default g c = record {
  grows = c.loop-slot.invariant.grows;
  put = below_more (λ j. (v : ℕ) → IsTrue (has_node (g.M.MapRead.map c.args.map.now) v) →
      g.M.MapRead.node_slot c.args.map.now v ≡ get_or c.args.slots.now j 0 →
      Finds c.args.path_ids.now c.args.index.now v c.loop-slot.found.items) c.loop-slot.slot-index c.loop-slot.invariant.put
      (λ v known at k lt on. let never = (c.in_default.ensures v).1 (known, at) in absurd cc);
}

pub returns-clause-put : goal.returns-clause-put
returns-clause-put g c = λ v known on.
    c.loop-slot.invariant.put on.0 (omega (arith, on.1, c.loop-slot-test.false)) v known
    (sym on.2 ∙ get_or_default _ on.0 _ 0 on.1)

pub returns-then-is_empty-clause-put : goal.returns-then-is_empty-clause-put
returns-then-is_empty-clause-put g c = λ v known on.
    finds_none c.args.path_ids.now c.args.index.now _ v (c.is_empty.ensures c.if-is_empty.true v)
