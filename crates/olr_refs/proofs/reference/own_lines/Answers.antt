use Rattle.olr_refs.proofs.Common.{arith, common_steps, ◌<◌, ◌≡◌, ◌-◌, length}
use Rattle.olr_refs.proofs.OwnLines.{own_by}
use Rattle.olr_refs.proofs.Trimming.{linked_end}
use Rattle.olr_refs.proofs.reference.own_lines.Goals as goal

pub line_at-requires : goal.line_at-requires
line_at-requires g c =
    let l = c.requires.linked c.loop-k.k (omega arith) in omega (arith, l.after, l.upto)

pub overflow_sub-kept : goal.overflow_sub-kept
overflow_sub-kept g c =
    let end = linked_end _ _ _ _ c.requires.linked c.requires.two in omega (arith, end.after)

pub line_at-requires-2 : goal.line_at-requires-2
line_at-requires-2 g c =
    let end = linked_end _ _ _ _ c.requires.linked c.requires.two in omega (arith, end.after, end.upto)

pub returns : goal.returns
returns g c =
    let some : 0 < length c.args.kept.now = omega arith in
    let k_is : c.loop-k.k ≡ length c.args.kept.now - 1 = omega arith in
    let by = own_by c.args.resolved.now.lines.now c.args.kept.now some in
    cc (by, k_is, c.in_ok-push-2.ensures.items, c.loop-k.invariant, c.line_at-2.ensures)

pub loop-k-preserved : goal.loop-k-preserved
loop-k-preserved g c = grind (arith, common_steps)
