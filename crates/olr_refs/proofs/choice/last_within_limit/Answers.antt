use Rattle.olr_refs.proofs.Common.{arith}
use Rattle.olr_refs.proofs.Stretches.{stretch_sum}
use Rattle.olr_refs.proofs.choice.last_within_limit.Goals as goal

pub returns-then-between-from : goal.returns-then-between-from
returns-then-between-from g c = record {
  from = omega arith;
  upto = omega (arith, c.args.resolved.now.measured.long);
  near = λ j a b. c.loop-k.invariant j a (omega arith);
  beyond = λ j a b. omega (
    arith,
    c.between.ensures.value,
    stretch_sum (g.M.MapRead.map c.args.resolved.now.map.now) c.args.resolved.now.lines.now c.args.i c.loop-k.k j
        (omega arith) (omega arith),
  );
}
