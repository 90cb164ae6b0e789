use Rattle.olr_run.proofs.Restoring.{loads_finished}
use Rattle.olr_run.proofs.loader.Loader.finish.Goals as goal

pub returns-in-Ok-clause-finished : goal.returns-in-Ok-clause-finished
returns-in-Ok-clause-finished c = λ s a.
    loads_finished c.args.self c.in-Ok.register s a c.if-self.false c.in-Ok.ensures.state
