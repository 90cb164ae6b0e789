use Rattle.olr_log.proofs.Common.{◌≡◌, inl, inr, arith}
use Rattle.olr_log.proofs.Passing.{passed_front, passed_more}
use Rattle.olr_log.proofs.gate.Gate.write.Goals as goal

pub returns-in_default-2-clause-passes : goal.returns-in_default-2-clause-passes
returns-in_default-2-clause-passes g c = passed_front c.loop-written.invariant.passed c.loop-written-test.true c.in_default.ensures.passes.0

pub returns-in_default-clause-passes : goal.returns-in_default-clause-passes
returns-in_default-clause-passes g c =
    let none : c.in-Ok.taken ≡ 0 = omega (arith, c.if-taken-gt0.false) in
    passed_front c.loop-written.invariant.passed c.loop-written-test.true (rw none at c.in-Ok.ensures.passes.1)

pub loop-written-preserved : goal.loop-written-preserved
loop-written-preserved g c = record {
  passed = passed_more c.in-Ok.taken c.loop-written.invariant.passed c.in-Ok.ensures.passes.0 c.in-Ok.ensures.passes.1;
  closes = λ closed. elim (c.write_some.ensures.closes closed) [
    | inl before ↦ c.loop-written.invariant.closes before
    | inr failed ↦ inr failed
  ];
}
