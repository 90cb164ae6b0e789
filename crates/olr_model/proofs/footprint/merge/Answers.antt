use Rattle.std.proofs.Common.{◌+◌, ◌≤◌, ◌⊎◌, inl, inr, length, arith, ap, sym, ◌∙◌}
use Rattle.std.proofs.lemmas.Bool.Decides.{nat_tests}
use Rattle.std.proofs.lemmas.List.{length_push, get_or_read, take_rest}
use Rattle.olr_model.proofs.Merging.{next_merged, ended}
use Rattle.olr_model.proofs.footprint.merge.Goals.{then-loop-i-test+else-j-right, else-loop-i-test}
use Rattle.olr_model.proofs.footprint.merge.Goals as goal

pub push_reserved-requires : goal.push_reserved-requires
push_reserved-requires c = let len = c.loop-i.both.ok.0 in let few = c.loop-i.invariant.few in omega arith

pub loop-i-preserved : goal.loop-i-preserved
loop-i-preserved c =
    let left = get_or_read c.args.left.now c.loop-i.i _ c.loop-i-test.true c.index-left-i.is 0 in
    let right = get_or_read c.args.right.now c.loop-i.j _ c.if-j-right.true c.index-right-j.is 0 in
    let size = length_push c.loop-i.both.items c.min.result in
    let pushed = ap (λ xs. length xs) c.push_reserved.ensures.items in
    let i : c.from-i.result ≤ 1 = grind (arith, nat_tests) in
    let j : c.from-j.result ≤ 1 = grind (arith, nat_tests) in
    let some : 1 ≤ c.from-i.result + c.from-j.result = grind (arith, nat_tests) in
    record {
      left_in = omega arith;
      right_in = omega arith;
      few = omega arith;
      room = omega arith;
      rest = rw c.push_reserved.ensures.items (next_merged c.loop-i.both.items c.args.left.now c.args.right.now c.loop-i.i
          c.loop-i.j c.index-left-i.result c.index-right-j.result c.min.result _ _ c.loop-i-test.true c.if-j-right.true (sym left) (sym right)
          (λ le. grind (arith, nat_tests)) (λ le. grind (arith, nat_tests)) (λ lt. grind (arith, nat_tests))
          (λ lt. grind (arith, nat_tests)) ∙ c.loop-i.invariant.rest);
    }

past : (c : goal.In_ok-extend_from_slice-2) → (length c.args.left.now ≤ c.loop-i.i)
    ⊎ (length c.args.right.now ≤ c.loop-i.j)
past c =
    elim c.loop-i-test.branch [
      | then-loop-i-test+else-j-right w ↦ inr w.if-j-right.false
      | else-loop-i-test w ↦ inl w.loop-i-test.false
    ]

pub returns : goal.returns
returns c =
    rw (c.in_ok-extend_from_slice-2.ensures.items, c.in_ok-extend_from_slice.ensures.items, take_rest, take_rest)
    (ended c.loop-i.both.items c.args.left.now c.args.right.now c.loop-i.i c.loop-i.j (past c)
    ∙ c.loop-i.invariant.rest)
