use Rattle.olr_input.proofs.Common.{◌≡◌, arith}
use Rattle.olr_input.proofs.Writing.{front_of, took_nothing}
use Rattle.olr_input.proofs.output.write_all.Goals as goal

pub returns-in_default-2 : goal.returns-in_default-2
returns-in_default-2 g c =
    front_of _ (g.W.Write.contents c.loop-written.output) _ c.args.bytes.now _ c.loop-written.invariant
    c.loop-written-test.true c.in_default.ensures.bytes

pub returns-in_default : goal.returns-in_default
returns-in_default g c =
    let none : c.in-Ok.taken ≡ 0 = omega (arith, c.if-taken-gt0.false) in
    front_of _ (g.W.Write.contents c.loop-written.output) _ c.args.bytes.now _ c.loop-written.invariant
    c.loop-written-test.true (took_nothing _ _ (rw none at c.in-Ok.ensures.bytes))
