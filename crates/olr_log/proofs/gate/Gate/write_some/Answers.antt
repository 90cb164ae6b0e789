use Rattle.olr_log.proofs.Passing.{some_after}
use Rattle.olr_log.proofs.gate.Gate.write_some.Goals as goal

pub returns-clause-passes : goal.returns-clause-passes
returns-clause-passes g c =
    some_after c.args.output.now c.hold-2.new.self c.in_ok-taken.taken c.args.text.now c.hold-2.result c.hold.ensures.device
    c.in_ok-taken.ensures.pending c.if-taken-gt0.false c.send.ensures.passes c.hold-2.ensures.device
    c.hold-2.ensures.bound c.hold-2.ensures.pending c.hold-2.ensures.nothing c.hold-2.ensures.fault
